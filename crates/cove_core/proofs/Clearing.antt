-- No ring names a page that an entry gave to another.
use Rattle.std.proofs.Common.{◌≡◌, ◌≢◌, ◌<◌, ℕ, false, List, [], ◌∷◌, ◌++◌, Option, None, Some, IsSome, refl, sym, subst, ap, ◌∙◌, ⊎_elim}
use Rattle.std.proofs.lemmas.Bool.{false≢true, or_parts}
use Rattle.cove_base.proofs.ScriptLimits.{Limits}
use Rattle.cove_model.specs.Machine.{HartRings, HartValue, ScriptValue, Entry, Page, IsQuietAt, WasFound, Legal, after, has, holder, page_at, Tlb, tlb}
use Rattle.cove_base.specs.Rings.{found}
use Rattle.cove_core.specs.Made.{IsClear}
use Rattle.cove_core.proofs.Performing.{ring_lacks}
use Rattle.cove_model.proofs.AtTheEnd.{each_last, tlb_other}
use Rattle.cove_model.proofs.Fitting.{host_at, ring_cases, walk_was_found}
use Rattle.cove_model.proofs.Playing.{was_longer}
use Rattle.cove_model.proofs.Histories.{legal_quiet}
use Rattle.cove_model.proofs.Holding.{held_since}
use Rattle.cove_model.proofs.UsingPages.{use_holder}
use Rattle.cove_model.specs.BoardRule.{HasFound}
use Rattle.cove_model.specs.Fits.{Fits, rings_of}

not_some : (o : Option Page) → (IsSome o → ⊥) → o ≡ None
not_some None never = refl
not_some (Some page) never = absurd (never refl)

module _ (script : ScriptValue) (limits : Limits script) (H : List Entry) (e : Entry) (legal : Legal script (H ++ e ∷ [])) where
  unnamed : (p h : ℕ) → holder (page_at (after script (H ++ e ∷ [])).pages p) ≢ holder (page_at (after script H).pages p) → has p (tlb script (H ++ e ∷ []) h).pages ≡ false
  unnamed p h moved =
      (or_parts _ _ (or_parts _ _ (each_last (IsQuietAt script) [] H e (legal_quiet script limits (H ++ e ∷ []) legal) p h moved)).0).0

  -- the ring of a hart without an unused walk
  pub clear_own : (h : ℕ) (held : HartValue) → held.rings ≡ rings_of (tlb script (H ++ e ∷ []) h) → held.walked ≡ None → IsClear script H e held
  clear_own h held rings none = λ p moved.
      (ap (λ (r : HartRings). found p r.hosts) rings ∙ ring_lacks (tlb script (H ++ e ∷ []) h).pages p (unnamed p h moved), λ has. subst (λ noted. HasFound noted p) none has)

  -- a page that was found since the last entry of another hart changed no hands
  was_moved : (h p : ℕ) → h < script.harts → (e.hart.0 ≡ h → ⊥) → WasFound script H h (host_at p) → holder (page_at (after script (H ++ e ∷ [])).pages p) ≢ holder (page_at (after script H).pages p) → ⊥
  was_moved h p on ne was moved =
      moved (
      use_holder h (page_at (after script (H ++ e ∷ [])).pages p) (held_since script (H ++ e ∷ []) h (host_at p) on (was_longer script H e h (host_at p) ne was))
      ∙ sym (use_holder h (page_at (after script H).pages p) (held_since script H h (host_at p) on was))
      )

  -- neither the ring of another hart names a page that changed hands, nor did an unused walk of it find one
  pub clear_other : (other : HartValue) → (e.hart.0 ≡ other.hart → ⊥) → Fits script H other → IsClear script H e other
  clear_other other ne fits = λ p moved.
      let lacks : has p (tlb script H other.hart).pages ≡ false =
      ap (λ (t : Tlb). has p t.pages) (sym (tlb_other script H e other.hart ne)) ∙ unnamed p other.hart moved in
      let unmoved : WasFound script H other.hart (host_at p) → ⊥ = λ was. was_moved other.hart p fits.on_board ne was moved in (
        not_some (found p other.rings.hosts) (λ named.
            ⊎_elim (λ there. false≢true (sym lacks ∙ there)) unmoved
            (ring_cases script H other.hart p other.rings other.walked fits.walk fits.rings named)),
        λ has. unmoved (walk_was_found script H other.hart p other.walked fits.walk has),
      )
