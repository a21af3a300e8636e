-- Which phase comes first.
use Rattle.std.proofs.Common.{◌≡◌, ℕ, ◌+◌, ◌<◌, List, length, get_or, false, Option, Some, None, IfSome, slice_get, refl, sym, subst, arith, below_more}
use Rattle.std.specs.Option.{option_map}
use Rattle.std.proofs.lemmas.Option.{IfSome_then, slice_get_read}
use Rattle.cove_model.specs.Machine.{next_line, ScriptValue, ScriptLine}
use Rattle.cove_monitor.specs.Seats.{SeatValue}
use Rattle.cove_run.specs.Working.{AreAfter, AreIdle, ComesFirst, IsIdle, next_phase}

pub first_of_first : (a b c : Option ℕ) → ComesFirst a b → ComesFirst b c → ComesFirst a c
first_of_first a b None first then = tt
first_of_first a None (Some c) first then = absurd then
first_of_first None (Some b) (Some c) first then = absurd first
first_of_first (Some a) (Some b) (Some c) first then = omega arith

none_is_first : (line : Option ScriptLine) → ComesFirst None (option_map (λ l. l.phase) line) → line ≡ None
none_is_first None first = refl
none_is_first (Some line) first = absurd first

-- where no phase comes first, no hart has a line left
pub idle_after_none : (script : ScriptValue) (seats : List SeatValue) → AreAfter script None seats → AreIdle script seats
idle_after_none script seats after k below =
    IfSome_then (slice_get seats k) {P = λ seat. ComesFirst None (next_phase script seat)} {Q = IsIdle script} (after k below)
    (λ seat. none_is_first (next_line script seat.held.hart seat.held.ended))

-- one more hart with room
pub room_more : (seats : List SeatValue) (i : ℕ) (seat : SeatValue) → i < length seats → seat ≡ get_or seats i seat → seat.full ≡ false
    → ((k : ℕ) → k < i → IfSome (slice_get seats k) (λ s. s.full ≡ false))
    → (k : ℕ) → k < i + 1 → IfSome (slice_get seats k) (λ s. s.full ≡ false)
room_more seats i seat within at room before =
    below_more (λ k. IfSome (slice_get seats k) (λ s. s.full ≡ false)) i before
    (subst (λ o. IfSome o (λ s. s.full ≡ false)) (sym (slice_get_read seats (length seats) i seat refl within at)) room)

-- one more hart
pub after_more : (script : ScriptValue) (seats : List SeatValue) (i : ℕ) (seat : SeatValue) (least own left : Option ℕ) → i < length seats → seat ≡ get_or seats i seat → own ≡ next_phase script seat → ComesFirst left least → ComesFirst left own
    → ((k : ℕ) → k < i → IfSome (slice_get seats k) (λ s. ComesFirst least (next_phase script s)))
    → (k : ℕ) → k < i + 1 → IfSome (slice_get seats k) (λ s. ComesFirst left (next_phase script s))
after_more script seats i seat least own left within at own_is first second before =
    below_more (λ k. IfSome (slice_get seats k) (λ s. ComesFirst left (next_phase script s))) i
    (λ k below.
    IfSome_then (slice_get seats k) {P = λ s. ComesFirst least (next_phase script s)} {Q = λ s. ComesFirst left (next_phase script s)} (before k below)
    (λ s then. first_of_first left least (next_phase script s) first then))
    (subst (λ o. IfSome o (λ s. ComesFirst left (next_phase script s))) (sym (slice_get_read seats (length seats) i seat refl within at))
    (subst (λ o. ComesFirst left o) own_is second))
