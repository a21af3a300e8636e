use Rattle.std.proofs.Common.{◌/◌, arith}
use Rattle.cove_base.specs.Tables.{At}
use Rattle.cove_stage2.proofs.tables.Tables.entry_2.Goals as goal

pub below-requires-clause-link : goal.below-requires-clause-link
below-requires-clause-link g c =
    rw c.entry_1-table.ensures.entry (c.requires.tree.links (At 1 (c.args.n / 512)) (omega arith, omega arith))
