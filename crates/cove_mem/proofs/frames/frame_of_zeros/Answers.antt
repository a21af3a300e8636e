use Rattle.std.proofs.Common.{rules}
use Rattle.cove_mem.specs.Frames.{zero_frame}
use Rattle.cove_mem.proofs.frames.frame_of_zeros.Goals as goal

pub returns : goal.returns
unfolding zero_frame
returns c = search rules
