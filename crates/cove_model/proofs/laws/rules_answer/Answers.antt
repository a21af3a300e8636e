use Rattle.cove_model.proofs.laws.rules_answer.Goals as goal
use Rattle.cove_model.proofs.Answering.{guest_answer, host_answer}

pub returns-clause-host : goal.returns-clause-host
returns-clause-host c = λ script S hart call reply outside allows. host_answer script S hart call reply allows outside

pub returns-clause-guest : goal.returns-clause-guest
returns-clause-guest c = λ script S hart seat act reply sits allows. guest_answer script S hart seat act reply allows sits
