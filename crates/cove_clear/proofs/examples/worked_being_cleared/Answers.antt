use Rattle.cove_clear.proofs.ExampleProofs.{allows_nothing, leaving, not_inside, not_lost, not_miscounted}
use Rattle.cove_model.specs.TableExamples.{rooted}
use Rattle.cove_clear.proofs.examples.worked_being_cleared.Goals as goal

pub returns-clause-leaving : goal.returns-clause-leaving
returns-clause-leaving c = leaving

pub returns-clause-inside : goal.returns-clause-inside
returns-clause-inside c = not_inside

pub returns-clause-lost : goal.returns-clause-lost
returns-clause-lost c = λ leaves going. not_lost going.gathered

pub returns-clause-miscounted : goal.returns-clause-miscounted
returns-clause-miscounted c = not_miscounted

pub returns-clause-may : goal.returns-clause-may
returns-clause-may c = λ leaves. (1, 1, 0, rooted, leaving leaves, λ words place word lawful. lawful)

pub returns-clause-may_not : goal.returns-clause-may_not
returns-clause-may_not c = allows_nothing
