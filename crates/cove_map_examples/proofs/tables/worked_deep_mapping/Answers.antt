use Rattle.cove_map_examples.proofs.TableProofs.{below_root, between, deep_9, deep_across, deep_lacks_still, deep_left}
use Rattle.cove_map_examples.proofs.tables.worked_deep_mapping.Goals as goal
use Rattle.cove_stage2.proofs.RestLemmas.{lacks-rest}

pub returns-clause-one_page : goal.returns-clause-one_page
returns-clause-one_page c = deep_9

pub returns-clause-across : goal.returns-clause-across
returns-clause-across c = deep_across

pub returns-clause-between : goal.returns-clause-between
returns-clause-between c = between

pub returns-clause-below_root : goal.returns-clause-below_root
returns-clause-below_root c = below_root

pub returns-clause-left : goal.returns-clause-left
returns-clause-left c = deep_left

pub returns-clause-rest : goal.returns-clause-rest
returns-clause-rest c = λ old new way. lacks-rest 8 4 3 old new 9 way

pub returns-clause-lacks_still : goal.returns-clause-lacks_still
returns-clause-lacks_still c = deep_lacks_still
