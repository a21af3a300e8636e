use Rattle.cove_stage2.proofs.LawfulLemmas.{block_is_lawful, clear_is_lawful, leaf_keeps_given, map_is_lawful, map_keeps_given, unblock_is_lawful, unmap_is_lawful}
use Rattle.cove_stage2.proofs.laws.table_stores_law.Goals as goal

pub returns-clause-map : goal.returns-clause-map
returns-clause-map c = map_is_lawful

pub returns-clause-block : goal.returns-clause-block
returns-clause-block c = block_is_lawful

pub returns-clause-unblock : goal.returns-clause-unblock
returns-clause-unblock c = unblock_is_lawful

pub returns-clause-unmap : goal.returns-clause-unmap
returns-clause-unmap c = unmap_is_lawful

pub returns-clause-clear : goal.returns-clause-clear
returns-clause-clear c = clear_is_lawful

pub returns-clause-map_given : goal.returns-clause-map_given
returns-clause-map_given c = map_keeps_given

pub returns-clause-leaf_given : goal.returns-clause-leaf_given
returns-clause-leaf_given c = leaf_keeps_given
