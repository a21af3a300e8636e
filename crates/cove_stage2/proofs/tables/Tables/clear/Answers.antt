use Rattle.std.proofs.Common.{◌∙◌, ap, sym, subst}
use Rattle.cove_base.specs.Stores.{AllAllowed, fills, stored}
use Rattle.cove_stage2.proofs.ClearLemmas.{clears-page}
use Rattle.cove_stage2.specs.Changes.{clear_stores, ClearsPage}
use Rattle.cove_stage2.proofs.tables.Tables.clear.Goals as goal

pub clear_words-requires-clause-allowed : goal.clear_words-requires-clause-allowed
unfolding clear_stores
clear_words-requires-clause-allowed g c =
    subst (λ place. AllAllowed (g.W.Words.allows (g.W.Words.guard c.args.w.now)) (g.W.Words.words c.args.w.now) (fills place 512 0)) (sym c.table_word.ensures) c.requires.allowed

pub returns-clause-stores : goal.returns-clause-stores
unfolding clear_stores
returns-clause-stores g c =
    c.clear_words.ensures.stores ∙ ap (λ place. stored (g.W.Words.words c.args.w.now) (fills place 512 0)) c.table_word.ensures

pub returns-clause-cleared : goal.returns-clause-cleared
unfolding clear_stores
returns-clause-cleared g c =
    let pages = c.args.self.now.pages in
    let words = g.W.Words.words c.args.w.now in
    let new = c.clear_words.ensures.stores ∙ ap (λ place. stored words (fills place 512 0)) c.table_word.ensures in
    subst (λ ws. ClearsPage pages words ws c.args.page.0) (sym new) (clears-page pages words c.args.page.0 c.requires.page c.requires.size)
