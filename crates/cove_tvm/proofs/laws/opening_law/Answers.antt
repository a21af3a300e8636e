use Rattle.cove_tvm.proofs.NewGround.{ground_opens}
use Rattle.cove_tvm.proofs.laws.opening_law.Goals as goal

pub returns : goal.returns
returns c = ground_opens
