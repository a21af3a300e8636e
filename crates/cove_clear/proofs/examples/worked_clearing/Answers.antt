use Rattle.cove_clear.proofs.ExampleProofs.{cleared, counts_less, not_given_away, not_linked, not_of_another, not_taken_back, not_the_epoch}
use Rattle.cove_clear.proofs.Going.{clears_none}
use Rattle.cove_clear.proofs.examples.worked_clearing.Goals as goal

pub returns-clause-same : goal.returns-clause-same
returns-clause-same c = clears_none 8

pub returns-clause-cleared : goal.returns-clause-cleared
returns-clause-cleared c = cleared

pub returns-clause-counted : goal.returns-clause-counted
returns-clause-counted c = counts_less

pub returns-clause-linked : goal.returns-clause-linked
returns-clause-linked c = not_linked

pub returns-clause-of_another : goal.returns-clause-of_another
returns-clause-of_another c = not_of_another

pub returns-clause-taken_back : goal.returns-clause-taken_back
returns-clause-taken_back c = not_taken_back 1

pub returns-clause-given_away : goal.returns-clause-given_away
returns-clause-given_away c = not_given_away

pub returns-clause-epoch : goal.returns-clause-epoch
returns-clause-epoch c = not_the_epoch
