use Rattle.std.proofs.Common.{subst}
use Rattle.cove_core.specs.Made.{IsTold}
use Rattle.cove_core.proofs.laws.entries_that_are_made.Goals as goal

pub returns-clause-came : goal.returns-clause-came
returns-clause-came g c page how is = subst (IsTold g.of.before g.of.held.rings) is c.requires.told

pub returns-clause-failed : goal.returns-clause-failed
returns-clause-failed g c page is = subst (IsTold g.of.before g.of.held.rings) is c.requires.told
