use Rattle.cove_base.proofs.ScriptLimits.{limits_of}
use Rattle.cove_model.proofs.laws.legal_histories_are_quiet.Goals as goal
use Rattle.cove_model.proofs.Histories.{legal_quiet}

pub returns : goal.returns
returns c = λ script history within legal. legal_quiet script (limits_of script within) history legal
