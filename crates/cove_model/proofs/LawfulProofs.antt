-- The stores of the calls on owners are lawful.
use Rattle.std.proofs.Common.{◌≡◌, ℕ, zero, suc, ◌+◌, ◌/◌, ◌<◌, ◌≤◌, List, get_or, set, refl, sym, ◌∙◌, ap, subst, inl, arith, get_or-set_same, get_or-set_other}
use Rattle.std.proofs.Math.Path.{fun_ext}
use Rattle.cove_model.specs.Machine.{host, converting, epoch_word, answered_word, AllAllowed, fills, FreeStands, epoch_in, answered_in, IsLawful, IsFreeIn, ChangesPage, Converts, Frees, Answers, Begins}
use Rattle.cove_model.specs.WordLaws.{ConvertIsLawful, GlobalFenceIsLawful, LocalFenceIsLawful, ReclaimIsLawful}

-- pages that are the host's and not mapped, at the last entry and now, go into conversion one after another
converts : (pages harts : ℕ) (hart : ℕ) (old : List ℕ) (epoch first n : ℕ) (now : List ℕ) → first + n ≤ pages → epoch_in pages now ≡ epoch → ((p : ℕ) → first ≤ p → p < first + n → get_or old p 0 ≡ host 0) → ((p : ℕ) → first ≤ p → p < first + n → get_or now p 0 ≡ host 0) → AllAllowed (IsLawful pages harts hart old) now (fills first n (converting epoch))
converts pages harts hart old epoch first zero now inside at before free = tt
converts pages harts hart old epoch first (suc n) now inside at before free = (
  ChangesPage first (omega arith) refl (Converts (before first (omega arith) (omega arith)) (free first (omega arith) (omega arith)) (ap converting (sym at))),
  converts pages harts hart old epoch (first + 1) n (set now first (converting epoch)) (omega arith)
      (get_or-set_other now first (epoch_word pages) (converting epoch) 0 (omega arith) ∙ at)
      (λ p low high. before p (omega arith) (omega arith))
      (λ p low high. get_or-set_other now first p (converting epoch) 0 (omega arith) ∙ free p (omega arith) (omega arith)),
)

pub convert_is_lawful : ConvertIsLawful
convert_is_lawful pages harts words hart base n inside free =
    converts pages harts hart words (epoch_in pages words) (base / 4096) n words inside refl free free

-- free pages become the host's one after another
reclaims : (pages harts : ℕ) (hart : ℕ) (old : List ℕ) (first n : ℕ) (now : List ℕ) → first + n ≤ pages → ((p : ℕ) → first ≤ p → p < first + n → IsFreeIn pages harts now p) → AllAllowed (IsLawful pages harts hart old) now (fills first n (host 0))
reclaims pages harts hart old first zero now inside free = tt
reclaims pages harts hart old first (suc n) now inside free =
    let numbers : answered_in pages now ≡ answered_in pages (set now first (host 0)) =
    fun_ext (λ k. sym (get_or-set_other now first (answered_word pages k) (host 0) 0 (omega arith))) in (
      ChangesPage first (omega arith) refl (Frees (free first (omega arith) (omega arith)) (inl refl)),
      reclaims pages harts hart old (first + 1) n (set now first (host 0)) (omega arith)
          (λ p low high.
          subst (λ a. FreeStands harts a (get_or (set now first (host 0)) p 0)) numbers
          (rw (get_or-set_other now first p (host 0) 0 (omega arith)) (free p (omega arith) (omega arith)))),
    )

pub reclaim_is_lawful : ReclaimIsLawful
reclaim_is_lawful pages harts words hart base n inside free =
    reclaims pages harts hart words (base / 4096) n words inside free

pub global_fence_is_lawful : GlobalFenceIsLawful
global_fence_is_lawful pages harts words hart on within room answers =
    (Begins refl room refl answers, (Answers on refl (sym (get_or-set_same words (epoch_word pages) (epoch_in pages words + 1) 0 within)), tt))

pub local_fence_is_lawful : LocalFenceIsLawful
local_fence_is_lawful pages harts words hart on = (Answers on refl refl, tt)
