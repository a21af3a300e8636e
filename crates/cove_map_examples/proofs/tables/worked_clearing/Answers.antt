use Rattle.std.proofs.Common.{refl, inr, arith}
use Rattle.cove_base.specs.Places.{table_word}
use Rattle.cove_map_examples.proofs.TableProofs.{zero_word}
use Rattle.cove_map_examples.proofs.tables.worked_clearing.Goals as goal

pub returns-clause-cleared : goal.returns-clause-cleared
returns-clause-cleared c = record { zeros = λ i low. zero_word (table_word 8 4 i) (omega arith); others = λ place off. refl; length = refl }

pub returns-clause-one_left : goal.returns-clause-one_left
returns-clause-one_left c = λ old new one clears. let zero = clears.zeros 511 (omega arith) in absurd (omega arith)

pub returns-clause-beside : goal.returns-clause-beside
returns-clause-beside c = λ old new was is clears. let same = clears.others (table_word 8 5 0) (inr (omega arith)) in absurd (omega arith)
