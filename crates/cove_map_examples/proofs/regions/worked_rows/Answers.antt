use Rattle.cove_map_examples.proofs.RegionProofs.{few, form, not_none, one, too_many}
use Rattle.cove_map_examples.proofs.regions.worked_rows.Goals as goal

pub returns-clause-one : goal.returns-clause-one
returns-clause-one c = one

pub returns-clause-none : goal.returns-clause-none
returns-clause-none c = form 0

pub returns-clause-not_none : goal.returns-clause-not_none
returns-clause-not_none c = not_none

pub returns-clause-seventeen : goal.returns-clause-seventeen
returns-clause-seventeen c = too_many

pub returns-clause-sixteen : goal.returns-clause-sixteen
returns-clause-sixteen c = few
