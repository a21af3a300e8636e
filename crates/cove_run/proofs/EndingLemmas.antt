-- How the harts of a monitor that closed tell whether a line is left.
use Rattle.std.proofs.Common.{◌≡◌, ℕ, zero, suc, ◌<◌, ◌≤◌, List, [], ◌∷◌, ◌++◌, length, length-append, get_or, take, take_all, slice_get, Option, Some, None, IsSome, IfSome, refl, sym, ◌∙◌, ap, subst, arith}
use Rattle.std.proofs.lemmas.List.{take-append-le}
use Rattle.std.proofs.lemmas.Option.{slice_get_within}
use Rattle.atomic_table.specs.Seated.{TableId}
use Rattle.cove_model.specs.Machine.{next_line, ScriptValue, Entry, ENTRY_LIMIT, ScriptLine, after, IsOver, ended_by}
use Rattle.cove_monitor.specs.Closing.{AreSeats, HasMet, HaveMet, IsNumber}
use Rattle.cove_monitor.specs.Seats.{SeatValue, part_of_seat}
use Rattle.cove_run.specs.Working.{AreIdle, HasFull, IsIdle}

is_there : {X : Type 0} (xs : List X) (k : ℕ) → k < length xs → IsSome (slice_get xs k)
is_there [] k below = absurd (omega arith)
is_there (x ∷ xs) zero below = refl
is_there (x ∷ xs) (suc k) below = is_there xs k (omega arith)

nothing_is_there : (o : Option ScriptLine) → o ≡ None → IsSome o → ⊥
nothing_is_there None is there = cc
nothing_is_there (Some line) is there = cc

-- the harts have met a history, in order
module _ (table : TableId) (script : ScriptValue) (history : List Entry) (seats : List SeatValue) (are : AreSeats table script seats) (met : HaveMet script history seats) where
  -- a hart that was met has the line next that it knows
  next_of : (k : ℕ) (seat : SeatValue) → IsNumber table script k seat → HasMet script history seat.held (part_of_seat seat) → next_line script seat.held.hart seat.held.ended ≡ next_line script k (ended_by (after script history) k)
  next_of k seat number meets =
      ap (λ ended. next_line script seat.held.hart ended) meets.ended
      ∙ ap (λ h. next_line script h (ended_by (after script history) h)) number.number_is

  idle_at : (k : ℕ) (o : Option SeatValue) → IsSome o → IfSome o (IsNumber table script k) → IfSome o (λ seat. HasMet script history seat.held (part_of_seat seat)) → IfSome o (IsIdle script) → next_line script k (ended_by (after script history) k) ≡ None
  idle_at k None there number meets idle = cc
  idle_at k (Some seat) there number meets idle = sym (next_of k seat number meets) ∙ idle

  pub over_by : AreIdle script seats → IsOver script history
  over_by idle k below =
      let within : k < length seats = let count = are.0 in omega arith in
      idle_at k (slice_get seats k) (is_there seats k within) (are.1 k below) (met k within) (idle k within)

  -- a hart that came to a full history
  module _ (full : HasFull seats) where
    within : full.place < length seats
    within = slice_get_within seats full.place full.seat full.stands

    number : IsNumber table script full.place full.seat
    number = subst (λ o. IfSome o (IsNumber table script full.place)) full.stands (are.1 full.place (let count = are.0 in let below = within in omega arith))

    meets : HasMet script history full.seat.held (part_of_seat full.seat)
    meets = subst (λ o. IfSome o (λ (seat : SeatValue). HasMet script history seat.held (part_of_seat seat))) full.stands (met full.place within)

    pub left_by : IsOver script history → ⊥
    left_by over =
        nothing_is_there (next_line (part_of_seat full.seat).script full.seat.held.hart full.seat.held.ended)
        (ap (λ s. next_line s full.seat.held.hart full.seat.held.ended) number.of.script_is
        ∙ next_of full.place full.seat number meets
        ∙ over full.place (let count = are.0 in let below = within in omega arith))
        full.full.left

    pub full_by : ENTRY_LIMIT ≤ length history
    full_by = omega (arith, full.full.limit, ap length meets.seen.1, length-append (part_of_seat full.seat).seen meets.seen.0)

-- an element of a list has what it has under every default
pub each_at : {X : Type 0} (P : X → Type 0) (xs : List X) (k : ℕ) → k < length xs → ((d : X) → P (get_or xs k d)) → IfSome (slice_get xs k) P
each_at P [] k below each = absurd (omega arith)
each_at P (x ∷ xs) zero below each = each x
each_at P (x ∷ xs) (suc k) below each = each_at P xs k (omega arith) each

pub front_is : {X : Type 0} (n : ℕ) (xs ys : List X) → length xs ≡ n → take n (xs ++ ys) ≡ xs
front_is n xs ys size = take-append-le n xs ys (omega arith) ∙ take_all n xs (omega arith)
