use Rattle.cove_model.proofs.FrameProofs.{convert_keeps_frames, global_fence_keeps_frames, local_fence_keeps_frames, reclaim_zeroes_frames}
use Rattle.cove_model.proofs.standing.frames_law.Goals as goal

pub returns-clause-convert : goal.returns-clause-convert
returns-clause-convert c = convert_keeps_frames

pub returns-clause-global_fence : goal.returns-clause-global_fence
returns-clause-global_fence c = global_fence_keeps_frames

pub returns-clause-local_fence : goal.returns-clause-local_fence
returns-clause-local_fence c = local_fence_keeps_frames

pub returns-clause-reclaim : goal.returns-clause-reclaim
returns-clause-reclaim c = reclaim_zeroes_frames
