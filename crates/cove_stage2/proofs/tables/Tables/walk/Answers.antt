use Rattle.std.proofs.Common.{sym, subst}
use Rattle.cove_base.specs.Tables.{IsLeaf}
use Rattle.cove_stage2.proofs.tables.Tables.walk.Goals as goal

pub walked-requires : goal.walked-requires
walked-requires g c = subst IsLeaf (sym c.load.ensures.leaf) (c.requires.tree.leaf c.args.g.0 c.requires.guest)
