use Rattle.std.proofs.Common.{◌+◌, arith, rules}
use Rattle.std.proofs.lemmas.Bool.{false≢true, iff_false}
use Rattle.cove_base.specs.PageWords.{IsHostWord}
use Rattle.cove_owner.proofs.PageLemmas.{EveryPage-more}
use Rattle.cove_owner.proofs.owners.all_host.Goals as goal

pub state-requires-clause-word : goal.state-requires-clause-word
state-requires-clause-word g c =
    rw c.loop-i.invariant.unchanged.words (c.requires.page_words (c.args.range.first.0 + c.loop-i.i) (omega arith) (omega arith))

pub returns-then-not-is_host-clause-all : goal.returns-then-not-is_host-clause-all
returns-then-not-is_host-clause-all g c = (
  λ t. absurd (false≢true t),
  λ every.
      let here = every (c.args.range.first.0 + c.loop-i.i) (omega arith) (omega arith) in
      absurd (iff_false c.is_host.ensures c.if-not-is_host.true (rw (c.state.ensures.state, c.loop-i.invariant.unchanged.words) here)),
)

pub loop-i-preserved : goal.loop-i-preserved
loop-i-preserved g c = record {
  unchanged = search rules;
  each = EveryPage-more IsHostWord _ _ _ c.loop-i.invariant.each
      (rw (← c.loop-i.invariant.unchanged.words, ← c.state.ensures.state) (c.is_host.ensures.0 c.if-not-is_host.false));
}
