use Rattle.cove_model.proofs.laws.steps_are_determined.Goals as goal
use Rattle.cove_model.proofs.Beginning.{one_line}
use Rattle.cove_model.proofs.Determined.{one_event, one_state}

pub returns-clause-state : goal.returns-clause-state
returns-clause-state c = one_state

pub returns-clause-event : goal.returns-clause-event
returns-clause-event c = one_event

pub returns-clause-line : goal.returns-clause-line
returns-clause-line c = one_line
