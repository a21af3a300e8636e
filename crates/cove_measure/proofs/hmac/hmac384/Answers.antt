use Rattle.cove_base.specs.Hmac.{hmac384}
use Rattle.cove_measure.proofs.hmac.hmac384.Goals as goal

pub returns : goal.returns
unfolding hmac384
returns c = cc
