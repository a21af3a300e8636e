use Rattle.std.proofs.Common.{◌/◌, arith}
use Rattle.cove_base.specs.Tables.{At}
use Rattle.cove_stage2.proofs.tables.Tables.entry_1.Goals as goal

pub below-requires-clause-link : goal.below-requires-clause-link
below-requires-clause-link g c =
    rw (c.get-table.ensures.value, c.root_word.ensures) (c.requires.tree.links (At 0 (c.args.n / 512)) (omega arith, omega arith))
