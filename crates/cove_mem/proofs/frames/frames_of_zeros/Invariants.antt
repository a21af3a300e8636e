use Rattle.std.proofs.Common.{◌≡◌, replicate}
use Rattle.cove_mem.specs.Frames.{zero_frame}
use Rattle.cove_mem.proofs.frames.frames_of_zeros.Given as goal

abbrev pub invariant-loop : goal.invariant-loop
invariant-loop l = l.frames.items ≡ replicate l.counter zero_frame
