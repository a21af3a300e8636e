use Rattle.cove_model.specs.Owners.{zeros}
use Rattle.cove_tvm.specs.PrivateRuns.{FillsFrames}
use Rattle.cove_host.proofs.frames.zero_all.Given as goal

-- the pages so far are filled
abbrev pub invariant-loop-i : goal.invariant-loop-i
invariant-loop-i l = FillsFrames l.first.0 l.i (λ j. zeros) l.initial.memory l.memory
