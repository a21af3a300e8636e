use Rattle.cove_base.proofs.ScriptLimits.{limits_of}
use Rattle.cove_model.proofs.laws.translations_are_usable.Goals as goal
use Rattle.cove_model.proofs.Histories.{usable}
use Rattle.cove_model.proofs.Holding.{able_succeeds, held_since, holds_able}
use Rattle.cove_model.specs.Machine.{after, tlb}

pub returns-clause-held : goal.returns-clause-held
returns-clause-held c = λ script history hart within legal. usable script (limits_of script within) history legal hart

pub returns-clause-target : goal.returns-clause-target
returns-clause-target c = λ script history hart target within legal held.
    let S = after script history in
    able_succeeds S hart target (holds_able S hart (tlb script history hart) target (usable script (limits_of script within) history legal hart) held)

pub returns-clause-found : goal.returns-clause-found
returns-clause-found c = held_since
