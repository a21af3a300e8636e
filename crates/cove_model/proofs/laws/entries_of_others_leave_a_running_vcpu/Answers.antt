use Rattle.cove_base.proofs.ScriptLimits.{limits_of}
use Rattle.cove_model.proofs.laws.entries_of_others_leave_a_running_vcpu.Goals as goal
use Rattle.cove_model.proofs.Running.{still_since}

pub returns : goal.returns
returns c = λ script history since hart seat within on_board sits front legal silent.
    still_since script (limits_of script within) history since hart seat on_board sits front legal silent
