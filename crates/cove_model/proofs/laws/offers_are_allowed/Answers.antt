use Rattle.std.proofs.Common.{inl, inr, refl, subst, sym}
use Rattle.cove_base.proofs.ScriptLimits.{limits_of}
use Rattle.cove_model.proofs.Holding.{able_succeeds, found_able}
use Rattle.cove_model.proofs.Phases.{behind_iff}
use Rattle.cove_model.proofs.laws.offers_are_allowed.Goals as goal
use Rattle.cove_model.specs.Steps.{Takes}

pub returns-clause-single : goal.returns-clause-single
returns-clause-single c = λ script S hart event offered. subst (λ o. Takes S hart o event) (sym offered) refl

pub returns-clause-found : goal.returns-clause-found
returns-clause-found c = λ script S hart target success fault how offered found.
    subst (λ o. Takes S hart o (success how)) (sym offered) (inl (how, refl, able_succeeds S hart target (found_able S hart target found)))

pub returns-clause-missing : goal.returns-clause-missing
returns-clause-missing c = λ script S hart target success fault offered missing.
    subst (λ o. Takes S hart o fault) (sym offered) (inr (refl, missing))

pub returns-clause-earlier : goal.returns-clause-earlier
returns-clause-earlier c = λ script S phase within. behind_iff script S phase (limits_of script within)
