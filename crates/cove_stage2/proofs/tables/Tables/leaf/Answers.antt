use Rattle.std.proofs.Common.{◌<◌, sym, subst}
use Rattle.cove_base.proofs.TreeLemmas.{leaf-in}
use Rattle.cove_base.specs.Modes.{leaves_of}
use Rattle.cove_base.specs.Tables.{IsLeaf, slots_at}
use Rattle.cove_stage2.proofs.tables.Tables.leaf.Goals as goal

pub returns-clause-within : goal.returns-clause-within
returns-clause-within g c =
    subst IsLeaf (sym c.entry.ensures.entry)
    (leaf-in c.args.self.now.pages c.args.self.now.root.0 (leaves_of c.args.self.now.mode) (g.W.Words.words c.args.w.now) c.requires.tree c.leaves.result c.args.g.0 (sym c.leaves.ensures)
    (subst (λ d. c.args.g.0 < slots_at d) (sym c.leaves.ensures) c.requires.guest))
