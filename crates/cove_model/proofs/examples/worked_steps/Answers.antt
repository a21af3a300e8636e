use Rattle.cove_model.proofs.examples.worked_steps.Goals as goal
use Rattle.cove_model.proofs.Vectors.{other_word}

pub returns-clause-other_word : goal.returns-clause-other_word
returns-clause-other_word c = other_word
