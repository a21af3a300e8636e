use Rattle.cove_base.specs.Modes.{leaves_of}
use Rattle.cove_stage2.proofs.WayLemmas.{here-enough, way-linked}
use Rattle.cove_stage2.proofs.tables.Tables.link_2.Goals as goal

pub linked-table-requires-clause-enough : goal.linked-table-requires-clause-enough
linked-table-requires-clause-enough g c =
    here-enough c.args.self.now.pages c.args.self.now.root.0 (leaves_of c.args.self.now.mode) (g.W.Words.allows (g.W.Words.guard c.args.w.now)) (g.W.Words.words c.args.w.now) c.args.pool.now.pages 1 c.args.n c.requires
    (g.W.Words.words c.link_1-above.new.w) c.link_1-above.new.pool.pages c.link_1-above.result c.link_1-above.ensures.linked

pub returns-clause-linked : goal.returns-clause-linked
returns-clause-linked g c =
    let linked = c.linked-table.ensures in
    way-linked c.args.self.now.pages c.args.self.now.root.0 (leaves_of c.args.self.now.mode) (g.W.Words.allows (g.W.Words.guard c.args.w.now)) (g.W.Words.words c.args.w.now) c.args.pool.now.pages 1 c.args.n c.requires
    (g.W.Words.words c.link_1-above.new.w) c.link_1-above.new.pool.pages c.link_1-above.result c.link_1-above.ensures.linked
    (g.W.Words.words c.linked-table.new.w) c.linked-table.new.pool.pages c.linked-table.result.0 c.table_word.result linked.stores linked.table linked.pool linked.spare c.table_word.ensures
