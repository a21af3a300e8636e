use Rattle.cove_model.proofs.examples.worked_quiet.Goals as goal
use Rattle.cove_model.proofs.Vectors.{named_as_it_leaves, named_by_other, named_by_own}

pub returns-clause-other_hart : goal.returns-clause-other_hart
returns-clause-other_hart c = named_by_other

pub returns-clause-own_hart : goal.returns-clause-own_hart
returns-clause-own_hart c = named_by_own

pub returns-clause-leaves : goal.returns-clause-leaves
returns-clause-leaves c = named_as_it_leaves
