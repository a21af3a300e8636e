use Rattle.cove_clear.proofs.ExampleProofs.{not_lost_on_the_way, not_taken_yet}
use Rattle.cove_clear.proofs.Going.{proceeds_none}
use Rattle.cove_clear.proofs.examples.worked_going.Goals as goal

pub returns-clause-same : goal.returns-clause-same
returns-clause-same c = proceeds_none 8 4

pub returns-clause-lost : goal.returns-clause-lost
returns-clause-lost c = not_lost_on_the_way

pub returns-clause-taken_back : goal.returns-clause-taken_back
returns-clause-taken_back c = not_taken_yet
