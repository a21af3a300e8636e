use Rattle.cove_map_examples.proofs.RegionProofs.{not_disjoint}
use Rattle.cove_map_examples.proofs.regions.worked_areas.Goals as goal

pub returns-clause-not_disjoint : goal.returns-clause-not_disjoint
returns-clause-not_disjoint c = not_disjoint
