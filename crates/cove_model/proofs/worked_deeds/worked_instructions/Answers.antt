use Rattle.cove_model.proofs.Waking.{waits_with_nothing_pending, wakes}
use Rattle.cove_model.proofs.worked_deeds.worked_instructions.Goals as goal

pub returns-clause-wakes : goal.returns-clause-wakes
returns-clause-wakes c = wakes

pub returns-clause-waits_with_nothing_pending : goal.returns-clause-waits_with_nothing_pending
returns-clause-waits_with_nothing_pending c = waits_with_nothing_pending
