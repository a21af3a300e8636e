use Rattle.std.proofs.Common.{◌≡◌, ℕ, ◌<◌, ◌≤◌, IfSome, length, slice_get, take}
use Rattle.cove_monitor.proofs.closing.meet_all.Given as goal
use Rattle.cove_monitor.specs.Closing.{HasMet}
use Rattle.cove_monitor.specs.Seats.{SeatValue, part_of_seat}

abbrev pub invariant-loop-hart : goal.invariant-loop-hart
invariant-loop-hart l = record {
  same : l.keeper ≡ l.fn.keeper;
  front : l.harts.items ≡ take (length l.harts.items) l.fn.harts.items;
  few : length l.harts.items ≤ length l.fn.harts.items;
  met : (k : ℕ) → length l.harts.items ≤ k → k < length l.fn.harts.items
      → IfSome (slice_get l.fn.harts.items k) (λ (seat : SeatValue). HasMet l.board.script l.mon.history seat.held (part_of_seat seat));
}

abbrev pub decreases-loop-hart : goal.decreases-loop-hart
decreases-loop-hart l = length l.harts.items
