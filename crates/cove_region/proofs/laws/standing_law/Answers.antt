use Rattle.cove_region.proofs.StandingLemmas.{private-agrees, shared-agrees, outside-agrees, overlap-agrees, all-private-agrees, all-shared-agrees, rows-agree, rows-with-agree, rows-without-agree, none-stand, added-stand, shared-stand, unshared-stand}
use Rattle.cove_region.proofs.laws.standing_law.Goals as goal

pub returns-clause-private : goal.returns-clause-private
returns-clause-private c = private-agrees

pub returns-clause-shared : goal.returns-clause-shared
returns-clause-shared c = shared-agrees

pub returns-clause-outside : goal.returns-clause-outside
returns-clause-outside c = outside-agrees

pub returns-clause-overlap : goal.returns-clause-overlap
returns-clause-overlap c = overlap-agrees

pub returns-clause-all_private : goal.returns-clause-all_private
returns-clause-all_private c = all-private-agrees

pub returns-clause-all_shared : goal.returns-clause-all_shared
returns-clause-all_shared c = all-shared-agrees

pub returns-clause-rows : goal.returns-clause-rows
returns-clause-rows c = rows-agree

pub returns-clause-rows_with : goal.returns-clause-rows_with
returns-clause-rows_with c = rows-with-agree

pub returns-clause-rows_without : goal.returns-clause-rows_without
returns-clause-rows_without c = rows-without-agree

pub returns-clause-none : goal.returns-clause-none
returns-clause-none c = none-stand

pub returns-clause-adds : goal.returns-clause-adds
returns-clause-adds c = added-stand

pub returns-clause-shares : goal.returns-clause-shares
returns-clause-shares c = shared-stand

pub returns-clause-unshares : goal.returns-clause-unshares
returns-clause-unshares c = unshared-stand
