use Rattle.std.proofs.Common.{◌∙◌}
use Rattle.cove_base.specs.Tables.{IsPresent}
use Rattle.cove_stage2.proofs.LeafLemmas.{unblocked-blocked}
use Rattle.cove_stage2.proofs.tables.Tables.unblock.Goals as goal

pub set_leaf-requires-clause-leaf : goal.set_leaf-requires-clause-leaf
set_leaf-requires-clause-leaf g c =
    let there = c.requires.blocked in
    IsPresent there.0 there.1 there.3 (unblocked-blocked c.leaf-leaf.result there.0 there.1 there.2 there.3 (c.leaf-leaf.ensures.leaf ∙ there.5))
