use Rattle.std.proofs.Common.{true, refl, arith}
use Rattle.cove_base.specs.Tables.{IsPresent}
use Rattle.cove_map_examples.proofs.TableProofs.{no_entry_word, not_blocked, not_present}
use Rattle.cove_map_examples.proofs.tables.worked_entries.Goals as goal
use Rattle.cove_stage2.specs.Entries.{OfLeaf, OfTable}

pub returns-clause-leaf_word : goal.returns-clause-leaf_word
returns-clause-leaf_word c = OfLeaf (IsPresent 5 true (omega arith) refl)

pub returns-clause-table_word : goal.returns-clause-table_word
returns-clause-table_word c = OfTable 5 (omega arith) refl

pub returns-clause-no_word : goal.returns-clause-no_word
returns-clause-no_word c = no_entry_word

pub returns-clause-is_present : goal.returns-clause-is_present
returns-clause-is_present c = (5, true, omega arith, refl)

pub returns-clause-absent : goal.returns-clause-absent
returns-clause-absent c = λ is. not_present is.0 is.1 is.3

pub returns-clause-is_blocked : goal.returns-clause-is_blocked
returns-clause-is_blocked c = (5, true, 3, omega arith, omega arith, refl)

pub returns-clause-not_blocked : goal.returns-clause-not_blocked
returns-clause-not_blocked c = λ is. not_blocked is.0 is.1 is.2 is.5
