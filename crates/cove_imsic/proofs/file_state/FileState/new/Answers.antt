use Rattle.std.proofs.Common.{refl}
use Rattle.cove_base.specs.InterruptFiles.{identities, those}
use Rattle.cove_imsic.proofs.file_state.FileState.new.Goals as goal

pub returns : goal.returns
unfolding those identities
returns c = refl
