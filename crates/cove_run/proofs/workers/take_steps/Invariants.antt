use Rattle.std.proofs.Common.{◌≡◌}
use Rattle.cove_monitor.specs.Seats.{IsHartOf}
use Rattle.cove_run.proofs.workers.take_steps.Given as goal

abbrev pub invariant-loop : goal.invariant-loop
invariant-loop g l = record {
  of : IsHartOf g.B.Room.table l.fn.script l.hart;
  same_hart : l.hart.held.hart ≡ l.fn.hart.held.hart;
}
