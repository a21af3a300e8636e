use Rattle.std.proofs.Common.{◌≡◌, ℕ, ◌+◌, ◌<◌, IfSome, length, slice_get}
use Rattle.cove_board.specs.Passes.{AreDealt}
use Rattle.cove_monitor.proofs.harts.seat_all.Given as goal
use Rattle.cove_monitor.specs.Closing.{AreFitting, IsNewSeat}

abbrev pub invariant-loop-state : goal.invariant-loop-state
invariant-loop-state l = record {
  count : length l.states.items + length l.harts.items ≡ l.script.harts;
  states : AreFitting l.script (length l.states.items) l.states.items;
  passes : AreDealt l.script l.board.table (length l.states.items) l.passes;
  fresh : (k : ℕ) → k < length l.harts.items → IfSome (slice_get l.harts.items k) (IsNewSeat l.board.table l.script (length l.states.items + k));
}

abbrev pub decreases-loop-state : goal.decreases-loop-state
decreases-loop-state l = length l.states.items
