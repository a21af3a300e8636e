use Rattle.std.proofs.Common.{◌/◌}
use Rattle.cove_base.specs.Modes.{leaves_of}
use Rattle.cove_stage2.proofs.WayLemmas.{way-linked, way-root}
use Rattle.cove_stage2.proofs.tables.Tables.link_1.Goals as goal

pub returns-clause-linked : goal.returns-clause-linked
returns-clause-linked g c =
    let words = g.W.Words.words c.args.w.now in
    let above = way-root c.args.self.now.pages c.args.self.now.root.0 (leaves_of c.args.self.now.mode) words c.args.pool.now.pages (c.args.n / 512) c.root_word-above.result c.requires.tree c.requires.spare c.root_word-above.ensures in
    let linked = c.linked-table.ensures in
    way-linked c.args.self.now.pages c.args.self.now.root.0 (leaves_of c.args.self.now.mode) (g.W.Words.allows (g.W.Words.guard c.args.w.now)) words c.args.pool.now.pages 0 c.args.n c.requires words c.args.pool.now.pages c.root_word-above.result above
    (g.W.Words.words c.linked-table.new.w) c.linked-table.new.pool.pages c.linked-table.result.0 c.table_word.result linked.stores linked.table linked.pool linked.spare c.table_word.ensures
