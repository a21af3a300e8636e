use Rattle.std.proofs.Common.{refl}
use Rattle.cove_core.proofs.examples.worked_endings.Goals as goal

pub returns-clause-in_a_ring : goal.returns-clause-in_a_ring
returns-clause-in_a_ring c clear = let none = (clear 4 (λ same. cc)).0 in cc

pub returns-clause-in_a_walk : goal.returns-clause-in_a_walk
returns-clause-in_a_walk c clear = (clear 4 (λ same. cc)).1 refl
