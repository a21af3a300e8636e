use Rattle.cove_model.proofs.examples.worked_fills.Goals as goal
use Rattle.cove_model.proofs.Vectors.{elsewhere, later_above, later_hides}

pub returns-clause-later_above : goal.returns-clause-later_above
returns-clause-later_above c = later_above

pub returns-clause-later_hides : goal.returns-clause-later_hides
returns-clause-later_hides c = later_hides

pub returns-clause-elsewhere : goal.returns-clause-elsewhere
returns-clause-elsewhere c = elsewhere
