use Rattle.cove_model.proofs.laws.others_untouched.Goals as goal
use Rattle.cove_model.proofs.AtTheEnd.{own_other, tlb_other, told_other}
use Rattle.cove_model.proofs.Running.{ended_apart, seat_apart}

pub returns-clause-own : goal.returns-clause-own
returns-clause-own c = own_other

pub returns-clause-told : goal.returns-clause-told
returns-clause-told c = told_other

pub returns-clause-ended : goal.returns-clause-ended
returns-clause-ended c = ended_apart

pub returns-clause-seat : goal.returns-clause-seat
returns-clause-seat c = seat_apart

pub returns-clause-translations : goal.returns-clause-translations
returns-clause-translations c = tlb_other
