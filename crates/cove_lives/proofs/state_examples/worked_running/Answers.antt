use Rattle.cove_lives.proofs.StateExampleProofs.{another_place, runs_another, stopped, while_run}
use Rattle.cove_lives.proofs.state_examples.worked_running.Goals as goal

pub returns-clause-another_place : goal.returns-clause-another_place
returns-clause-another_place c = another_place

pub returns-clause-while_run : goal.returns-clause-while_run
returns-clause-while_run c = while_run

pub returns-clause-stopped : goal.returns-clause-stopped
returns-clause-stopped c = stopped

pub returns-clause-runs_another : goal.returns-clause-runs_another
returns-clause-runs_another c = runs_another
