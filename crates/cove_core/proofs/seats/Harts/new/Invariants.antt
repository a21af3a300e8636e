use Rattle.cove_core.specs.Seats.{AreNew}
use Rattle.cove_core.proofs.seats.Harts.new.Given as goal

abbrev pub invariant-loop-k : goal.invariant-loop-k
invariant-loop-k l = AreNew l.fn.script l.k l.harts.items
