use Rattle.std.proofs.Common.{◌∙◌, ◌/◌, ap}
use Rattle.cove_model.specs.Machine.{InvalidAddress, plain}
use Rattle.cove_host.proofs.RegionProofs.{overlap_told}
use Rattle.cove_host.specs.Checked.{checked}
use Rattle.cove_host.proofs.regions.no_overlap.Goals as goal

pub returns : goal.returns
returns c = record {
  told = λ words S t one.
      c.check.ensures ∙ ap (λ b. checked (plain b InvalidAddress)) (c.overlaps.ensures ∙ overlap_told one (c.args.gpa / 4096) (c.args.len / 4096));
}
