-- What a hart may follow outlives the events of other harts, and those of its own that are calm.
use Rattle.std.proofs.Common.{◌≡◌, ℕ, ◌+◌, ◌<◌, true, false, eqb, eq-eqb, true≢false, List, [], ◌∷◌, ◌++◌, Option, Some, None, unwrap_or, refl, sym, ap, subst, ◌∙◌, inl, inr, ◌⊎◌}
use Rattle.std.specs.Option.{option_map_or}
use Rattle.std.proofs.lemmas.Bool.{ne_eqb}
use Rattle.cove_model.specs.Machine.{Event, at, Owner, has, without, IsSound, Seat, State, board_in, find_tvm, harts_inside, is_in, tvm_at, done, Tvm, created, new_tvm}
use Rattle.cove_model.proofs.Changes.{Adds, Alters, Drops, Grows, Loses, Maps, NoTvm, Once, OneTvm, Restands, Rewords, TvmsChange, Twice, Unmapped}
use Rattle.cove_model.proofs.GuestChanges.{change_done}
use Rattle.cove_model.proofs.HartsInside.{has_inside}
use Rattle.cove_model.proofs.Keeping.{Keeps, keeps_append, keeps_dropped, keeps_new, keeps_on_tvm, keeps_restood, keeps_same, keeps_then, keeps_words}
use Rattle.cove_model.proofs.KeyedLemmas.{at_append, at_dropped}
use Rattle.cove_model.proofs.Members.{has_with, has_without}

-- a hart of the board that is inside a TVM
pub record Sits (S : State) (h : ℕ) (seat : Seat) : Type 0 where
  pub on_board : h < S.harts
  pub sits : S.seats h ≡ Some seat

pub sits_inside : (S : State) (h : ℕ) (seat : Seat) → Sits S h seat → has h (harts_inside S seat.tvm) ≡ true
sits_inside S h seat sits =
    has_inside S seat.tvm h sits.on_board (ap (λ o. option_map_or (is_in seat.tvm) o false) sits.sits ∙ eq-eqb seat.tvm seat.tvm refl)

abbrev pub KeepsIn : (h t : ℕ) (S T : State) → Type 0
KeepsIn h t S T = Keeps h (tvm_at S t) (tvm_at T t)

-- a change that is calm, or another hart's of a TVM that the hart is inside
abbrev Outlives : (Calm : Type 0) (S : State) (h k u : ℕ) → Type 0
Outlives Calm S h k u = Calm ⊎ (IsSound S × (has h (without k (harts_inside S u)) ≡ true))

keeps_maps : (Calm Found : Type 0) (S : State) (pages : List Owner) (h k t : ℕ) (tvm now : Tvm) → Outlives Calm S h k t → Found → Maps Calm Found S pages k t tvm now → Keeps h tvm now
keeps_maps Calm Found S pages h k t tvm now why found (Unmapped e) = keeps_same h tvm now e
keeps_maps Calm Found S pages h k t tvm now why found (Adds new e apart sound) = keeps_append h new tvm now e
keeps_maps Calm Found S pages h k t tvm now (inl calm) found (Restands test how e restless follows held) = absurd (restless calm)
keeps_maps Calm Found S pages h k t tvm now (inr other) found (Restands test how e restless follows held) = keeps_restood h test how (follows h other.1) tvm now e
keeps_maps Calm Found S pages h k t tvm now why found (Rewords g how e sizes) = keeps_words h g how tvm now e
keeps_maps Calm Found S pages h k t tvm now (inl calm) found (Drops test e restless gone) = absurd (restless calm)
keeps_maps Calm Found S pages h k t tvm now (inr other) found (Drops test e restless gone) = keeps_dropped h test tvm now e (λ g m. gone found other.0 h g m)

-- the TVM under a number in two lists
abbrev KeepsAt : (h u : ℕ) (xs ys : List Tvm) → Type 0
KeepsAt h u xs ys = Keeps h (unwrap_or (at (λ k. k.number) u xs) (new_tvm u)) (unwrap_or (at (λ k. k.number) u ys) (new_tvm u))

keeps_one : (Calm : Type 0) (S : State) (pages : List Owner) (h k u : ℕ) (xs ys : List Tvm) → Outlives Calm S h k u → OneTvm Calm S pages k xs ys → KeepsAt h u xs ys
keeps_one Calm S pages h k u xs ys why (NoTvm e) = subst (KeepsAt h u xs) (sym e) (let found = unwrap_or (at (λ k. k.number) u xs) (new_tvm u) in keeps_same h found found refl)
keeps_one Calm S pages h k u xs ys why (Alters t how e names each) = subst (KeepsAt h u xs) (sym e) (keeps_on_tvm h t u how (λ tvm. (names tvm).0) xs
    (λ is tvm live. keeps_maps Calm _ S pages h k t tvm (how tvm) (subst (Outlives Calm S h k) is why) live (each tvm).maps))

pub keeps_tvms : (Calm : Type 0) (S T : State) (h k u : ℕ) → Outlives Calm S h k u → TvmsChange Calm S T k → KeepsIn h u S T
keeps_tvms Calm S T h k u why (Once made one) = keeps_one Calm S T.pages h k u S.tvms T.tvms why one
keeps_tvms Calm S T h k u why (Twice made mid one two bound) =
    keeps_then h (tvm_at S u) (unwrap_or (at (λ k. k.number) u mid) (new_tvm u)) (tvm_at T u)
    (keeps_one Calm S T.pages h k u S.tvms mid why one) (keeps_one Calm S T.pages h k u mid T.tvms why two)
keeps_tvms Calm S T h k u why (Grows mode made e) = subst (KeepsAt h u S.tvms) (sym e) (go (find_tvm S u) refl)
  where
    more : List Tvm
    more = S.tvms ++ created (S.made + 1) mode (board_in S) ∷ []

    go : (o : Option Tvm) → find_tvm S u ≡ o → Keeps h (unwrap_or o (new_tvm u)) (unwrap_or (at (λ (x : Tvm). x.number) u more) (new_tvm u))
    go None q = keeps_new h u (unwrap_or (at (λ (x : Tvm). x.number) u more) (new_tvm u))
    go (Some tvm) q = subst (λ (o : Option Tvm). Keeps h tvm (unwrap_or o (new_tvm u)))
        (sym (at_append (λ (x : Tvm). x.number) u S.tvms (created (S.made + 1) mode (board_in S) ∷ []) tvm q)) (keeps_same h tvm tvm refl)
keeps_tvms Calm S T h k u (inl calm) (Loses t made e pages nobody restless) = absurd (restless calm)
keeps_tvms Calm S T h k u (inr other) (Loses t made e pages nobody restless) = subst (KeepsAt h u S.tvms) (sym e)
    (subst (λ (o : Option Tvm). Keeps h (tvm_at S u) (unwrap_or o (new_tvm u)))
    (sym (at_dropped (λ (x : Tvm). x.number) (λ n. eqb n t) u (ne_eqb u t apart) S.tvms)) (keeps_same h (tvm_at S u) (tvm_at S u) refl))
  where
    apart : u ≡ t → ⊥
    apart is = true≢false (sym (has_with k h (harts_inside S u) other.1) ∙ ap (has h) (ap (harts_inside S) is ∙ nobody))

pub keeps_done : (S : State) (h : ℕ) (seat : Seat) (k : ℕ) (event : Event) → IsSound S → Sits S h seat → (h ≡ k → ⊥) → KeepsIn h seat.tvm S (done S k event)
keeps_done S h seat k event sound sits ne =
    keeps_tvms ⊥ S (done S k event) h k seat.tvm (inr (sound, has_without k h ne (harts_inside S seat.tvm) (sits_inside S h seat sits))) (change_done S k event)
