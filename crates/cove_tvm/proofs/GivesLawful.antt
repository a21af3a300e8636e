-- The stores that give free pages to a TVM are lawful, and so are those of a creation.
use Rattle.std.proofs.Common.{◌≡◌, ℕ, zero, suc, ◌+◌, ◌/◌, ◌<◌, ◌≤◌, ◌∙◌, ◌⊎◌, List, true, get_or, set, refl, sym, subst, inl, inr, arith, get_or-set_other}
use Rattle.std.proofs.Math.Path.{fun_ext}
use Rattle.cove_base.proofs.StoreLemmas.{get_or-fills_other}
use Rattle.cove_model.specs.Machine.{given, answered_word, hart_word, AllAllowed, fills, stored, ENTRY_LIMIT, TVM_LIMIT, Role, Root, ChangesPage, Gives, IsFreeIn, IsLawful, IsLeft, every, is_free, page_at, IsSeated, FencesWithin, FreeStands, PageStands, answered_in, epoch_in, maps_of}
use Rattle.cove_base.specs.declared.numbers.Role.TheVariants.{State}
use Rattle.cove_model.proofs.Runs.{every_at}
use Rattle.cove_model.proofs.StandLemmas.{free_page}
use Rattle.cove_model.specs.States.{State as MonitorState}
use Rattle.cove_stage2.proofs.LawfulLemmas.{allowed-append}
use Rattle.cove_tvm.proofs.GivenPages.{not_entered}
use Rattle.cove_tvm.specs.NewTvms.{CreateIsLawful, MayCreate, create_stores}
use Rattle.cove_tvm.specs.Stands.{Stands}
use Rattle.cove_tvm.specs.declared.ground.Ground.{Ground}

-- words of which those past the page words, and some page words, are the same
pub free_still : (pages harts : ℕ) (words new : List ℕ) (p : ℕ) → ((place : ℕ) → pages ≤ place → get_or new place 0 ≡ get_or words place 0)
    → get_or new p 0 ≡ get_or words p 0 → IsFreeIn pages harts words p → IsFreeIn pages harts new p
free_still pages harts words new p behind same free =
    let numbers : answered_in pages words ≡ answered_in pages new = fun_ext (λ k. sym (behind (answered_word pages k) (omega arith))) in
    subst (λ a. FreeStands harts a (get_or new p 0)) numbers (subst (FreeStands harts (answered_in pages words)) (sym same) free)

left_still : (pages harts t : ℕ) (words new : List ℕ) → ((place : ℕ) → pages ≤ place → get_or new place 0 ≡ get_or words place 0) → IsLeft pages harts words t → IsLeft pages harts new t
left_still pages harts t words new behind left hart on inside =
    left hart on (inside.0, (inside.1.0, sym (behind (hart_word pages harts hart) (omega arith)) ∙ inside.1.1))

-- free pages are given to a TVM, as a root only where no hart is inside it, one after another
pub gives_as : (pages harts hart t : ℕ) (old : List ℕ) (role : Role) (first n : ℕ) (now : List ℕ) → first + n ≤ pages → 1 ≤ t → t ≤ TVM_LIMIT
    → (role ≡ Root → IsLeft pages harts now t) → ((p : ℕ) → first ≤ p → p < first + n → IsFreeIn pages harts now p)
    → AllAllowed (IsLawful pages harts hart old) now (fills first n (given t role))
gives_as pages harts hart t old role first zero now inside low high left free = tt
gives_as pages harts hart t old role first (suc n) now inside low high left free =
    let behind : (place : ℕ) → pages ≤ place → get_or (set now first (given t role)) place 0 ≡ get_or now place 0 =
    λ place past. get_or-set_other now first place (given t role) 0 (omega arith) in (
      ChangesPage first (omega arith) refl (Gives t role low high (free first (omega arith) (omega arith)) refl left),
      gives_as pages harts hart t old role (first + 1) n (set now first (given t role)) (omega arith) low high
          (λ root. left_still pages harts t now (set now first (given t role)) behind (left root))
          (λ p above below.
          free_still pages harts now (set now first (given t role)) p behind
          (get_or-set_other now first p (given t role) 0 (omega arith)) (free p (omega arith) (omega arith))),
    )

-- where no hart is inside it, in any role
pub gives : (pages harts hart t : ℕ) (old : List ℕ) (role : Role) (first n : ℕ) (now : List ℕ) → first + n ≤ pages → 1 ≤ t → t ≤ TVM_LIMIT
    → IsLeft pages harts now t → ((p : ℕ) → first ≤ p → p < first + n → IsFreeIn pages harts now p)
    → AllAllowed (IsLawful pages harts hart old) now (fills first n (given t role))
gives pages harts hart t old role first n now inside low high left free =
    gives_as pages harts hart t old role first n now inside low high (λ root. left) free

module _ (words : List ℕ) (ground : Ground) (S : MonitorState) (root state : ℕ) (stands : Stands words ground S) (seated : IsSeated S)
    (fences : FencesWithin ground.pages ground.harts words ENTRY_LIMIT) (may : MayCreate ground.pages root state S) where
  abbrev rooted : List ℕ
  rooted = stored words (fills (root / 4096) 4 (given (S.made + 1) Root))

  small : S.made + 1 ≤ TVM_LIMIT
  small = let room = may.room in omega arith

  free_at : (first n : ℕ) → first + n ≤ ground.pages → every is_free first n S.pages ≡ true → (p : ℕ) → first ≤ p → p < first + n → IsFreeIn ground.pages ground.harts words p
  free_at first n inside free p low high =
      let long = stands.words_stand.stands.owners.page_count in
      subst (PageStands ground.harts (epoch_in ground.pages words) (answered_in ground.pages words) (maps_of S p) (get_or words p 0))
      (free_page (page_at S.pages p) (every_at is_free first n S.pages free p low high (omega arith)))
      (stands.words_stand.stands.owners.page p (omega arith))

  left : IsLeft ground.pages ground.harts words (S.made + 1)
  left hart on inside =
      let low = inside.1.0 in
      let word = inside.1.1 in
      not_entered words ground S (S.made + 1) stands (omega arith) seated fences hart on (omega arith)

  behind : (at : ℕ) → ground.pages ≤ at → get_or rooted at 0 ≡ get_or words at 0
  behind at past = let inside = may.root_inside in get_or-fills_other words (root / 4096) 4 (given (S.made + 1) Root) at (inr (omega arith))

  apart_from : (p : ℕ) → state / 4096 ≤ p → p < state / 4096 + 1 → (p < root / 4096) ⊎ (root / 4096 + 4 ≤ p)
  apart_from p low high = elim may.apart [ inl under ↦ inl (omega arith) | inr over ↦ inr (omega arith) ]

  created_lawful : (hart : ℕ) → AllAllowed (IsLawful ground.pages ground.harts hart words) words (create_stores (S.made + 1) root state)
  created_lawful hart =
      allowed-append (IsLawful ground.pages ground.harts hart words) words (fills (root / 4096) 4 (given (S.made + 1) Root)) (fills (state / 4096) 1 (given (S.made + 1) State))
      (gives ground.pages ground.harts hart (S.made + 1) words Root (root / 4096) 4 words may.root_inside (omega arith) small left
      (free_at (root / 4096) 4 may.root_inside may.root_free))
      (gives ground.pages ground.harts hart (S.made + 1) words State (state / 4096) 1 rooted may.state_inside (omega arith) small
      (left_still ground.pages ground.harts (S.made + 1) words rooted behind left)
      (λ p low high.
      free_still ground.pages ground.harts words rooted p behind
      (get_or-fills_other words (root / 4096) 4 (given (S.made + 1) Root) p (apart_from p low high))
      (free_at (state / 4096) 1 may.state_inside may.state_free p low high)))

pub create_is_lawful : CreateIsLawful
create_is_lawful words ground S hart root state stands seated fences may = created_lawful words ground S root state stands seated fences may hart
