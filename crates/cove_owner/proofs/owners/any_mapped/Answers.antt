use Rattle.std.proofs.Common.{◌+◌, arith, rules}
use Rattle.std.proofs.lemmas.Bool.{false≢true, iff_false}
use Rattle.cove_base.specs.PageWords.{IsMappedWord}
use Rattle.cove_owner.proofs.PageLemmas.{EveryPage-more}
use Rattle.cove_owner.proofs.owners.any_mapped.Goals as goal

pub state-requires-clause-word : goal.state-requires-clause-word
state-requires-clause-word g c =
    rw c.loop-i.invariant.unchanged.words (c.requires.page_words (c.args.range.first.0 + c.loop-i.i) (omega arith) (omega arith))

pub loop-i-preserved : goal.loop-i-preserved
loop-i-preserved g c = record {
  unchanged = search rules;
  each = EveryPage-more (λ word. IsMappedWord word → ⊥) _ _ _ c.loop-i.invariant.each
      (rw (← c.loop-i.invariant.unchanged.words, ← c.state.ensures.state) (iff_false c.is_mapped.ensures c.if-is_mapped.false));
}

pub returns-clause-any : goal.returns-clause-any
returns-clause-any g c =
    (λ t. absurd (false≢true t), λ some. absurd (c.loop-i.invariant.each some.0 some.1 (omega arith) some.3))
