use Rattle.std.proofs.Common.{◌∙◌, sym, ap}
use Rattle.cove_base.proofs.TableLemmas.{below-absent, below-link}
use Rattle.cove_base.specs.Tables.{below}
use Rattle.cove_stage2.proofs.tables.Tables.below.Goals as goal

pub returns-then-entry-eq0-clause-entry : goal.returns-then-entry-eq0-clause-entry
returns-then-entry-eq0-clause-entry g c =
    let pages = c.args.self.now.pages in
    let words = g.W.Words.words c.args.w.now in
    sym (ap (λ e. below pages words e c.args.i) c.if-entry-eq0.true ∙ below-absent pages words c.args.i)

pub returns-else-entry-eq0-clause-entry : goal.returns-else-entry-eq0-clause-entry
returns-else-entry-eq0-clause-entry g c =
    c.get.ensures.value ∙ sym (below-link c.args.self.now.pages c.args.self.now.root.0 (g.W.Words.words c.args.w.now) c.args.entry c.args.i c.table_word.result c.requires.link c.if-entry-eq0.false c.table_word.ensures)
