use Rattle.std.proofs.Common.{◌∙◌, ◌+◌, ℕ, List, ap, set, arith}
use Rattle.cove_host.proofs.RaisedCounts.{next_raise, next_small, raise_next}
use Rattle.cove_host.proofs.counts.raise_counts.Goals as goal

pub overflow_add-word : goal.overflow_add-word
overflow_add-word g c =
    let small = next_small c.args.first.0 c.loop-i.i (g.W.Words.words c.args.w.now) (g.W.Words.words c.loop-i.w) c.loop-i.invariant.raised c.args.n c.loop-i-test.true c.requires.hosts in
    omega (arith, small, c.get-word.ensures.value)

pub set-requires-clause-allowed : goal.set-requires-clause-allowed
set-requires-clause-allowed g c =
    rw (c.get-word.ensures.guard, c.get-word.ensures.words, c.get-word.ensures.value, c.loop-i.invariant.guard)
    (c.requires.lawful (g.W.Words.words c.loop-i.w) (c.args.first.0 + c.loop-i.i) _
    (next_raise c.args.first.0 c.loop-i.i (g.W.Words.words c.args.w.now) (g.W.Words.words c.loop-i.w) c.loop-i.invariant.raised
    c.requires.pages c.requires.harts c.requires.hart c.args.n c.requires.start c.loop-i-test.true c.requires.inside c.requires.hosts))

pub loop-i-preserved : goal.loop-i-preserved
loop-i-preserved g c =
    let place = c.args.first.0 + c.loop-i.i in
    record {
      raised = raise_next c.args.first.0 c.loop-i.i (g.W.Words.words c.args.w.now) (g.W.Words.words c.loop-i.w) c.loop-i.invariant.raised (g.W.Words.words c.set.new.self)
          (omega (arith, c.loop-i-test.true, c.requires.inside, c.requires.size))
          (c.set.ensures.words ∙ ap (λ (ws : List ℕ). set ws place (c.get-word.result + 8)) c.get-word.ensures.words ∙ ap (λ w. set (g.W.Words.words c.loop-i.w) place (w + 8)) c.get-word.ensures.value);
      guard = c.set.ensures.guard ∙ c.get-word.ensures.guard ∙ c.loop-i.invariant.guard;
    }
