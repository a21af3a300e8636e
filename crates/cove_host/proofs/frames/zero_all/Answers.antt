use Rattle.std.proofs.Common.{◌≡◌, refl, arith}
use Rattle.cove_mem.specs.Frames.{zero_frame as frame_of_zeros}
use Rattle.cove_model.specs.Owners.{zeros}
use Rattle.cove_host.proofs.FilledFrames.{filled_next}
use Rattle.cove_host.proofs.frames.zero_all.Goals as goal

zeros_are : frame_of_zeros ≡ zeros
unfolding frame_of_zeros zeros
zeros_are = refl

pub loop-i-preserved : goal.loop-i-preserved
loop-i-preserved c =
    filled_next c.args.first.0 c.loop-i.i (λ j. zeros) frame_of_zeros c.args.memory.now c.loop-i.memory c.zero.new.self
    (omega (arith, c.loop-i-test.true, c.requires.inside)) c.zero.ensures zeros_are c.loop-i.invariant
