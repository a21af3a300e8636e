use Rattle.std.proofs.Common.{◌+◌, ◌*◌, ◌∙◌, ap}
use Rattle.cove_base.specs.Tables.{IsBlocked}
use Rattle.cove_stage2.proofs.tables.Tables.block.Goals as goal

pub set_leaf-requires-clause-leaf : goal.set_leaf-requires-clause-leaf
set_leaf-requires-clause-leaf g c =
    let there = c.requires.present in
    IsBlocked there.0 there.1 c.args.since there.2 c.requires.since (ap (λ leaf. leaf + 255 + 67108864 * c.args.since) (c.leaf-leaf.ensures.leaf ∙ there.3))
