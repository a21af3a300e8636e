use Rattle.std.proofs.Common.{length}
use Rattle.cove_model.specs.Fronts.{front_size}
use Rattle.cove_script.proofs.LoopOverLines.{IsSized}
use Rattle.cove_script.proofs.parsing.front_size.Given as goal

abbrev pub invariant-loop-line : goal.invariant-loop-line
invariant-loop-line l = IsSized (length l.text) (front_size l.text) l.place l.line-iterator
