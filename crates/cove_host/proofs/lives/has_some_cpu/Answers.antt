use Rattle.std.proofs.Common.{◌∙◌, ap}
use Rattle.cove_model.specs.Machine.{Denied, plain}
use Rattle.cove_host.proofs.LifeTold.{cpus_told}
use Rattle.cove_host.specs.Checked.{checked}
use Rattle.cove_host.proofs.lives.has_some_cpu.Goals as goal

pub returns : goal.returns
returns c = record { told = λ words S t one. c.check.ensures ∙ ap (λ b. checked (plain b Denied)) (c.lacks_cpus.ensures ∙ cpus_told one) }
