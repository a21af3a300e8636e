use Rattle.cove_base.proofs.ScriptLimits.{limits_of}
use Rattle.cove_model.proofs.laws.harts_sit_on_vcpus_that_run.Goals as goal
use Rattle.cove_model.proofs.Running.{seated}

pub returns : goal.returns
returns c = λ script history within legal. seated script (limits_of script within) history legal
