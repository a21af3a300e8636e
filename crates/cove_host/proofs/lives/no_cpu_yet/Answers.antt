use Rattle.std.proofs.Common.{◌∙◌, ap}
use Rattle.cove_model.specs.Machine.{AlreadyAvailable, plain}
use Rattle.cove_host.proofs.LifeTold.{cpu_told}
use Rattle.cove_host.specs.Checked.{checked}
use Rattle.cove_host.proofs.lives.no_cpu_yet.Goals as goal

pub returns : goal.returns
returns c = record { told = λ words S t one. c.check.ensures ∙ ap (λ b. checked (plain b AlreadyAvailable)) (c.has_cpu.ensures ∙ cpu_told one c.args.v) }
