use Rattle.cove_model.proofs.laws.states_are_orderly.Goals as goal
use Rattle.cove_model.proofs.Ordering.{orderly}

pub returns : goal.returns
returns c = orderly
