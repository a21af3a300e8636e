use Rattle.std.proofs.Common.{◌∙◌, ap}
use Rattle.cove_base.specs.declared.statuses.Status.TheVariants.{Failed}
use Rattle.cove_host.proofs.RegionProofs.{room_told}
use Rattle.cove_host.specs.Checked.{checked}
use Rattle.cove_model.specs.Refusals.{plain}
use Rattle.cove_host.proofs.regions.room_for_region.Goals as goal

pub returns : goal.returns
returns c = record { told = λ words S t one. c.check.ensures ∙ ap (λ b. checked (plain b Failed)) (c.is_full.ensures ∙ room_told one) }
