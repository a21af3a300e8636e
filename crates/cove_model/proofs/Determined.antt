-- A step is determined by its entry, and a hart's event by what it looked for and how it came there.
use Rattle.std.proofs.Common.{◌≡◌, ℕ, Option, Some, None, sym, ap, ◌∙◌, inl, inr}
use Rattle.std.proofs.lemmas.Option.{same_Some}
use Rattle.cove_model.specs.Machine.{ScriptValue, Entry, Event, How, Target, Offer, Nothing, Behind, Single, Touch, offer, State, Allows, IsStep, Takes, Came, Failed, Touched, Arrival, touched, touched_at}
use Rattle.cove_model.proofs.Aiming.{Shows, offer_shows}

pub one_state : (script : ScriptValue) (before one other : State) (entry : Entry) → IsStep script before entry one → IsStep script before entry other → one ≡ other
one_state script before one other entry a b = a.1 ∙ sym b.1

-- how what was looked for came
abbrev way : Touched → Option Arrival
way None = None
way (Some (target, came)) = Some came

-- a target with the way to it
abbrev by_way : Target → Arrival → Touched
by_way t w = Some (t, w)

came_same : (t : Target) (how other : How) → by_way t (Came how) ≡ by_way t (Came other) → how ≡ other
came_same t how other e = injective how other (same_Some (Came how) (Came other) (ap way e))
  where
    injective : (a b : How) → Came a ≡ Came b → a ≡ b
    injective a b q = cc

came_failed : (t : Target) (how : How) → by_way t (Came how) ≡ by_way t Failed → ⊥
came_failed t how e = apart how (same_Some (Came how) Failed (ap way e))
  where
    apart : (a : How) → Came a ≡ Failed → ⊥
    apart a q = cc

pub one_event : (script : ScriptValue) (S : State) (h : ℕ) (one other : Event) → Allows script S h one → Allows script S h other → touched S h one ≡ touched S h other → one ≡ other
one_event script S h one other a b same = go (offer script S h) (offer_shows script S h) a b
  where
    go : (o : Offer) → Shows script S h (S.seats h) o → Takes S h o one → Takes S h o other → one ≡ other
    go Nothing shows x y = absurd x
    go (Behind k) shows x y = absurd x
    go (Single event) shows x y = x ∙ sym y
    go (Touch t success fault) shows (inl x) (inl y) =
        let e : by_way t (Came x.0) ≡ by_way t (Came y.0) = sym (ap (touched_at S (S.seats h)) x.1 ∙ shows.1.0 x.0) ∙ same ∙ ap (touched_at S (S.seats h)) y.1 ∙ shows.1.0 y.0 in
        x.1 ∙ ap success (came_same t x.0 y.0 e) ∙ sym y.1
    go (Touch t success fault) shows (inl x) (inr y) =
        absurd (came_failed t x.0 (sym (ap (touched_at S (S.seats h)) x.1 ∙ shows.1.0 x.0) ∙ same ∙ ap (touched_at S (S.seats h)) y.0 ∙ shows.1.1))
    go (Touch t success fault) shows (inr x) (inl y) =
        absurd (came_failed t y.0 (sym (ap (touched_at S (S.seats h)) y.1 ∙ shows.1.0 y.0) ∙ sym same ∙ ap (touched_at S (S.seats h)) x.0 ∙ shows.1.1))
    go (Touch t success fault) shows (inr x) (inr y) = x.0 ∙ sym y.0
