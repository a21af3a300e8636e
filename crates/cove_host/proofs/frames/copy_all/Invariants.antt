use Rattle.std.proofs.Common.{◌+◌, [], get_or}
use Rattle.cove_tvm.specs.PrivateRuns.{FillsFrames}
use Rattle.cove_host.proofs.frames.copy_all.Given as goal

-- the pages so far are copied
abbrev pub invariant-loop-i : goal.invariant-loop-i
invariant-loop-i l = FillsFrames l.to.0 l.i (λ j. get_or l.initial.memory (l.from.0 + j) []) l.initial.memory l.memory
