use Rattle.cove_map_examples.proofs.TableProofs.{across, lacks_still, left, of_9}
use Rattle.cove_map_examples.proofs.tables.worked_mapping.Goals as goal
use Rattle.cove_stage2.proofs.RestLemmas.{lacks-rest}

pub returns-clause-one_page : goal.returns-clause-one_page
returns-clause-one_page c = of_9

pub returns-clause-across : goal.returns-clause-across
returns-clause-across c = across

pub returns-clause-left : goal.returns-clause-left
returns-clause-left c = left

pub returns-clause-rest : goal.returns-clause-rest
returns-clause-rest c = λ old new way. lacks-rest 8 4 2 old new 9 way

pub returns-clause-lacks_still : goal.returns-clause-lacks_still
returns-clause-lacks_still c = lacks_still
