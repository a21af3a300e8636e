use Rattle.cove_core.specs.Seats.{AtFirstLines}
use Rattle.cove_core.proofs.monitors.Progress.new.Given as goal

abbrev pub invariant-loop-k : goal.invariant-loop-k
invariant-loop-k l = AtFirstLines l.fn.script l.k l.places.items
