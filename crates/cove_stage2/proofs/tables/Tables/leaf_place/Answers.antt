use Rattle.std.proofs.Common.{arith}
use Rattle.cove_stage2.proofs.WayLemmas.{table-of-leaf}
use Rattle.cove_stage2.proofs.tables.Tables.leaf_place.Goals as goal

pub overflow_cast-table : goal.overflow_cast-table
overflow_cast-table g c =
    let on = (table-of-leaf c.args.self.now.pages c.args.self.now.root.0 (g.W.Words.words c.args.w.now) c.args.g.0 c.args.self.now.mode c.leaves.result c.entry-table.result c.requires.tree c.requires.guest c.requires.mapped c.leaves.ensures c.entry-table.ensures.entry).0 in
    omega (arith, on, c.args.self.now.limit)

pub table_word-requires-clause-page : goal.table_word-requires-clause-page
table_word-requires-clause-page g c =
    let on = (table-of-leaf c.args.self.now.pages c.args.self.now.root.0 (g.W.Words.words c.args.w.now) c.args.g.0 c.args.self.now.mode c.leaves.result c.entry-table.result c.requires.tree c.requires.guest c.requires.mapped c.leaves.ensures c.entry-table.ensures.entry).0 in
    omega (arith, on, c.args.self.now.limit)

pub returns-clause-place : goal.returns-clause-place
returns-clause-place g c =
    (table-of-leaf c.args.self.now.pages c.args.self.now.root.0 (g.W.Words.words c.args.w.now) c.args.g.0 c.args.self.now.mode c.leaves.result c.entry-table.result c.requires.tree c.requires.guest c.requires.mapped c.leaves.ensures c.entry-table.ensures.entry).1
    c.table_word.result c.table_word.ensures
