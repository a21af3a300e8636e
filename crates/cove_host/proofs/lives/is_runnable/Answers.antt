use Rattle.std.proofs.Common.{◌∙◌, ap, not}
use Rattle.cove_model.specs.Machine.{Denied, plain}
use Rattle.cove_host.proofs.LifeTold.{life_told}
use Rattle.cove_host.specs.Checked.{checked}
use Rattle.cove_host.proofs.lives.is_runnable.Goals as goal

pub returns : goal.returns
returns c = record { told = λ words S t one. c.check.ensures ∙ ap (λ b. checked (plain (not b) Denied)) (c.is_runnable.ensures ∙ life_told one) }
