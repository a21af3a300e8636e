use Rattle.cove_model.proofs.laws.still_rounds_are_last.Goals as goal
use Rattle.cove_model.proofs.Progress.{last_round}

pub returns : goal.returns
returns c = last_round
