use Rattle.std.proofs.Common.{true≢false}
use Rattle.cove_clear.proofs.ExampleProofs.{gathered, not_lost, not_of_the_host}
use Rattle.cove_clear.proofs.examples.worked_gathering.Goals as goal

pub returns-clause-gathered : goal.returns-clause-gathered
returns-clause-gathered c = gathered

pub returns-clause-lost : goal.returns-clause-lost
returns-clause-lost c = not_lost

pub returns-clause-twice : goal.returns-clause-twice
returns-clause-twice c = λ all. true≢false all.differ.0

pub returns-clause-of_the_host : goal.returns-clause-of_the_host
returns-clause-of_the_host c = not_of_the_host

pub returns-clause-named_still : goal.returns-clause-named_still
returns-clause-named_still c = λ words a link named all. true≢false (all.unlinked a 2 link named)
