use Rattle.cove_model.proofs.examples.worked_translations.Goals as goal
use Rattle.cove_model.proofs.Vectors.{late_walk}

pub returns-clause-late_walk : goal.returns-clause-late_walk
returns-clause-late_walk c = late_walk
