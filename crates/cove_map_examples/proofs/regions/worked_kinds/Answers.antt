use Rattle.std.proofs.Common.{refl, sym, true≢false}
use Rattle.cove_map_examples.proofs.RegionProofs.{all_of_one, made_shared}
use Rattle.cove_map_examples.proofs.regions.worked_kinds.Goals as goal

pub returns-clause-all : goal.returns-clause-all
returns-clause-all c = all_of_one

pub returns-clause-not_all : goal.returns-clause-not_all
returns-clause-not_all c = λ all. let is = all 17 refl in cc

pub returns-clause-one_region : goal.returns-clause-one_region
returns-clause-one_region c = record { region = refl; kinds = all_of_one }

pub returns-clause-two_regions : goal.returns-clause-two_regions
returns-clause-two_regions c = λ one. absurd (true≢false (sym one.region))

pub returns-clause-made : goal.returns-clause-made
returns-clause-made c = made_shared

pub returns-clause-made_not : goal.returns-clause-made_not
returns-clause-made_not c = λ made. let is = made 17 in cc

pub returns-clause-another : goal.returns-clause-another
returns-clause-another c = λ made. let is = made 17 in cc
