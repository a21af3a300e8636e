use Rattle.std.proofs.Common.{refl}
use Rattle.cove_host.proofs.RegionProofs.{region_added}
use Rattle.cove_host.proofs.regions.add_to.Goals as goal

pub returns : goal.returns
returns c = record {
  added =
      region_added c.add.result c.args.first.0 c.args.count c.args.tvm.now.regions c.add.new.self c.add.ensures.overlap c.add.ensures.full c.add.ensures.only
      c.add.ensures.regions c.add.ensures.kinds;
  rest = refl;
}
