use Rattle.std.proofs.Common.{refl}
use Rattle.cove_core.proofs.examples.worked_accesses.Goals as goal

pub returns-clause-late : goal.returns-clause-late
returns-clause-late c = (refl, (2, refl), refl)

pub returns-clause-not_absent : goal.returns-clause-not_absent
returns-clause-not_absent c absent = absent.1 (2, refl)
