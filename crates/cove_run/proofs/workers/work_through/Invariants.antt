use Rattle.cove_monitor.specs.Closing.{AreSeats}
use Rattle.cove_run.proofs.workers.work_through.Given as goal

abbrev pub invariant-loop : goal.invariant-loop
invariant-loop g l = AreSeats g.B.Room.table l.fn.script l.harts
