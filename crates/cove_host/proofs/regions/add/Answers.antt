use Rattle.cove_host.proofs.LifeTold.{changed}
use Rattle.cove_host.specs.MoreRegions.{AddsRegion}
use Rattle.cove_host.proofs.regions.add.Goals as goal

pub returns-in-Some : goal.returns-in-Some
returns-in-Some c = changed c.args.t c.args.g.now (AddsRegion c.args.first.0 c.args.count) _ _ c.in-Some.ensures.value c.add_to.ensures
