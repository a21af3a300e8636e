use Rattle.std.proofs.Common.{◌∙◌, sym, ap, arith}
use Rattle.cove_stage2.proofs.LackedLemmas.{tables_lacked-none}
use Rattle.cove_stage2.proofs.WayLemmas.{few-slots}
use Rattle.cove_stage2.specs.Lacked.{tables_lacked}
use Rattle.cove_stage2.proofs.tables.Tables.+lacked.Goals as goal

pub returns-then-k-eq0-clause-lacked : goal.returns-then-k-eq0-clause-lacked
returns-then-k-eq0-clause-lacked g t c =
    let pages = c.args.self.now.pages in
    let root = c.args.self.now.root.0 in
    let words = g.W.Words.words c.args.w.now in
    sym (ap (tables_lacked pages root words c.args.depth c.args.n) c.if-k-eq0.true ∙ tables_lacked-none pages root words c.args.depth c.args.n)

pub overflow_add-blocks : goal.overflow_add-blocks
overflow_add-blocks g t c = let few = few-slots c.args.self.now.mode c.args.depth c.requires.depth in omega (arith, few, c.requires.slots, c.from.ensures)
