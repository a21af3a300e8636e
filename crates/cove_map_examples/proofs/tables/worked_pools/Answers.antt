use Rattle.std.proofs.Common.{arith}
use Rattle.cove_map_examples.proofs.TableProofs.{no_table, zero_word}
use Rattle.cove_map_examples.proofs.tables.worked_pools.Goals as goal

pub returns-clause-no_table : goal.returns-clause-no_table
returns-clause-no_table c = no_table

pub returns-clause-no_root : goal.returns-clause-no_root
returns-clause-no_root c = λ given. let is = given.root_is.roots 0 (omega arith) in absurd (omega (arith, zero_word 4 (omega arith)))

pub returns-clause-not_given : goal.returns-clause-not_given
returns-clause-not_given c = λ words free given. let is = given.spare 0 (omega arith) in absurd (omega arith)
