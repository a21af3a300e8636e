use Rattle.cove_tvm.proofs.BuiltRegions.{region_stands}
use Rattle.cove_tvm.proofs.FinalizedTvm.{finalize_stands}
use Rattle.cove_tvm.proofs.laws.building_law.Goals as goal

pub returns-clause-region : goal.returns-clause-region
returns-clause-region c = region_stands

pub returns-clause-finalize : goal.returns-clause-finalize
returns-clause-finalize c = finalize_stands
