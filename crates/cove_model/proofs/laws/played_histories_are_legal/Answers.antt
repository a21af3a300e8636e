use Rattle.cove_base.proofs.ScriptLimits.{limits_of}
use Rattle.cove_model.proofs.laws.played_histories_are_legal.Goals as goal
use Rattle.cove_model.proofs.Beginning.{legal_begins, over_follows}
use Rattle.cove_model.proofs.Histories.{legal_quiet}
use Rattle.cove_model.proofs.Playing.{played_fits}
use Rattle.cove_model.proofs.Progress.{played_ends, played_size}
use Rattle.cove_model.specs.Played.{played}

pub returns-clause-legal : goal.returns-clause-legal
returns-clause-legal c = λ limit script within. (played_fits script (limits_of script within) limit).0

pub returns-clause-cached : goal.returns-clause-cached
returns-clause-cached c = λ limit script within. (played_fits script (limits_of script within) limit).1

pub returns-clause-quiet : goal.returns-clause-quiet
returns-clause-quiet c = λ limit script within.
    let limits = limits_of script within in
    legal_quiet script limits (played limit script) (played_fits script limits limit).0

pub returns-clause-begins : goal.returns-clause-begins
returns-clause-begins c = λ limit script within. legal_begins script (played limit script) (played_fits script (limits_of script within) limit).0

pub returns-clause-bounded : goal.returns-clause-bounded
returns-clause-bounded c = played_size

pub returns-clause-ends : goal.returns-clause-ends
returns-clause-ends c = played_ends

pub returns-clause-follows : goal.returns-clause-follows
returns-clause-follows c = λ limit script within over. over_follows script (played limit script) (played_fits script (limits_of script within) limit).0 over
