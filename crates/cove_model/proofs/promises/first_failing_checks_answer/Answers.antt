use Rattle.cove_model.proofs.promises.first_failing_checks_answer.Goals as goal
use Rattle.cove_model.specs.Machine.{Event, after, Allows}
use Rattle.cove_model.proofs.AtTheEnd.{legal_at}
use Rattle.cove_model.proofs.FirstCheckProofs.{accepted_by_all, first_not_passed, first_once, first_or_passed, refused_by_first, success_by_all}
use Rattle.cove_model.proofs.Loads.{call_answered}
use Rattle.std.proofs.Common.{subst}

pub returns-clause-refused : goal.returns-clause-refused
returns-clause-refused c = refused_by_first

pub returns-clause-accepted : goal.returns-clause-accepted
returns-clause-accepted c = accepted_by_all

pub returns-clause-success : goal.returns-clause-success
returns-clause-success c = success_by_all

pub returns-clause-either : goal.returns-clause-either
returns-clause-either c = first_or_passed

pub returns-clause-not_both : goal.returns-clause-not_both
returns-clause-not_both c = first_not_passed

pub returns-clause-one : goal.returns-clause-one
returns-clause-one c = first_once

pub returns-clause-entries : goal.returns-clause-entries
returns-clause-entries c = λ script before rest entry call reply legal is.
    let P : Event → Type 0 = λ event. Allows script (after script before) entry.hart.0 event in
    call_answered script (after script before) entry.hart.0 call reply (subst P is (legal_at script before entry rest legal))
