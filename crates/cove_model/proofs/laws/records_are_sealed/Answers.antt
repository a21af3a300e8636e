use Rattle.cove_model.proofs.laws.records_are_sealed.Goals as goal
use Rattle.cove_model.proofs.Measuring.{measured, sealed}

pub returns-clause-measured : goal.returns-clause-measured
returns-clause-measured c = measured

pub returns-clause-sealed : goal.returns-clause-sealed
returns-clause-sealed c = sealed
