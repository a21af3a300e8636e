-- How the views of passes change at a step, and that they then sit as the rule wants.
use Rattle.std.proofs.Common.{◌≡◌, ◌≢◌, ℕ, ◌<◌, ◌⊎◌, Bool, true, false, List, [], ◌∷◌, ◌++◌, Option, Some, None, length, set, zero, suc, refl, sym, ◌∙◌, ap, subst, inl, inr, ⊎_elim, arith}
use Rattle.std.proofs.lemmas.Bool.{cases_eq, false≢true}
use Rattle.atomic_table.proofs.Lists.{at_last, at_longer, at_set, set_else, set_here}
use Rattle.cove_base.specs.Scripts.{ScriptValue}
use Rattle.cove_board.specs.Parts.{HartPart, MonitorPart, Part}
use Rattle.cove_board.specs.Ruled.{Carries, HartSits, IsPartOf, IsPart, MonitorSits}
use lib.ListN.{get_elem?}
use mathlib.Core.Option.{some, some-injective, some-ne-none}

-- a view that is there has a place
pub there_within : (views : List Part) (id : ℕ) (v : Part) → get_elem? views id ≡ some v → id < length views
there_within [] id v at = absurd (some-ne-none v (sym at))
there_within (x ∷ views) zero v at = omega arith
there_within (x ∷ views) (suc id) v at = let below = there_within views id v at in omega arith

-- one place has one view
pub one_view : (views : List Part) (id : ℕ) (v w : Part) → get_elem? views id ≡ some v → get_elem? views id ≡ some w → v ≡ w
one_view views id v w at at' = some-injective v w (sym at ∙ at')

-- a list with one more view
at_end : (views : List Part) (new v : Part) (id : ℕ) → get_elem? (views ++ new ∷ []) id ≡ some v → (get_elem? views id ≡ some v) ⊎ ((id ≡ length views) × (new ≡ v))
at_end [] new v zero at = inr (refl, some-injective new v at)
at_end [] new v (suc id) at = absurd (some-ne-none v (sym at))
at_end (x ∷ views) new v zero at = inl at
at_end (x ∷ views) new v (suc id) at = ⊎_elim inl (λ last. inr (ap suc last.0, last.1)) (at_end views new v id at)

module _ (P : ℕ → Part → Type 0) where
  -- a fact of each view, after one has changed
  pub each_set : (views : List Part) (id : ℕ) (new : Part) → P id new → ((k : ℕ) (v : Part) → k ≢ id → get_elem? views k ≡ some v → P k v) → (k : ℕ) (v : Part) → get_elem? (set views id new) k ≡ some v → P k v
  each_set views id new here others k v at =
      ⊎_elim (λ same. subst (λ n. P n v) (sym same.0) (subst (P id) same.1 here)) (λ off. others k v off.0 off.1) (at_set views id k new v at)

  -- and after one more came
  pub each_end : (views : List Part) (new : Part) → P (length views) new → ((k : ℕ) (v : Part) → get_elem? views k ≡ some v → P k v) → (k : ℕ) (v : Part) → get_elem? (views ++ new ∷ []) k ≡ some v → P k v
  each_end views new here others k v at =
      ⊎_elim (others k v) (λ last. subst (λ n. P n v) (sym last.0) (subst (P (length views)) last.1 here)) (at_end views new v k at)

-- the part of a hart that is carried goes on being so, where the view that changes still carries what it did
pub carries_set : (views : List Part) (id : ℕ) (new : Part) (k h : ℕ) → id < length views → (k ≡ id → IsPartOf h new.hart) → Carries views k h → Carries (set views id new) k h
carries_set views id new k h inside same carried =
    ⊎_elim
    (λ e. (new, subst (λ n. get_elem? (set views id new) n ≡ some new) (sym e) (set_here views id new inside), same e))
    (λ ne. (carried.0, set_else views id k new ne ∙ carried.1, carried.2))
    (cases_eq k id)

pub carries_longer : (views more : List Part) (k h : ℕ) → Carries views k h → Carries (views ++ more) k h
carries_longer views more k h carried = (carried.0, at_longer views more k carried.0 carried.1, carried.2)

pub carries_last : (views : List Part) (new : Part) (h : ℕ) → IsPartOf h new.hart → Carries (views ++ new ∷ []) (length views) h
carries_last views new h of = (new, at_last views new (length views) refl, of)

-- ---- a pass beside the one that steps

-- one that does not sit where the monitor's part does carries none of it
pub no_monitor : (part : MonitorPart) (seat : ℕ) (part' : MonitorPart) (seat' : ℕ) (k : ℕ) (o : Option MonitorPart) → k ≢ seat → MonitorSits part seat k o → MonitorSits part' seat' k o
no_monitor part seat part' seat' k None ne sits = tt
no_monitor part seat part' seat' k (Some m) ne sits = absurd (ne sits.1)

-- and the part of a hart that it carries is unmarked
pub hart_beside : (script : ScriptValue) (part part' : MonitorPart) (seat seat' : ℕ) (seats seats' : ℕ → ℕ) (k : ℕ) (o : Option HartPart) → k ≢ seat → ((q : HartPart) → q.hart < part.dealt → k ≡ seats q.hart → q.mark ≡ false → IsPart script part.history part.now q → (q.hart < part'.dealt) × (k ≡ seats' q.hart) × IsPart script part'.history part'.now q) → HartSits script part seat seats k o → HartSits script part' seat' seats' k o
hart_beside script part part' seat seat' seats seats' k None ne keeps sits = tt
hart_beside script part part' seat seat' seats seats' k (Some q) ne keeps sits =
    let unmarked = no_mark q.mark sits.3 in
    let kept = keeps q sits.0 sits.1 unmarked sits.2 in
    (kept.0, kept.1, kept.2, λ marked. absurd (false≢true (sym unmarked ∙ marked)))
  where
    no_mark : (b : Bool) → (b ≡ true → k ≡ seat) → b ≡ false
    no_mark true marked = absurd (ne (marked refl))
    no_mark false marked = refl
