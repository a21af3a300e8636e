use Rattle.std.proofs.Common.{zero, suc, arith}
use Rattle.cove_fence.specs.Examples.{one_inside, places_of_two}
use Rattle.cove_fence.specs.TvmFences.{AreInsideFrom}
use Rattle.cove_fence.proofs.examples.worked_tvm_fences.Goals as goal

-- hart 0 is outside, and hart 1 entered with number 3
inside_from : AreInsideFrom places_of_two one_inside 1 3 2
inside_from zero few inside = omega arith
inside_from (suc zero) few inside = omega arith
inside_from (suc (suc hart)) few inside = absurd (omega arith)

pub returns-clause-from : goal.returns-clause-from
returns-clause-from c = inside_from

pub returns-clause-passed : goal.returns-clause-passed
returns-clause-passed c = (omega arith, inside_from)
