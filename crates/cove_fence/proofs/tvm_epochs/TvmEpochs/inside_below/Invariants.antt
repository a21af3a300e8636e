use Rattle.cove_base.specs.Unchanged.{Unchanged}
use Rattle.cove_fence.specs.TvmFences.{AreInsideFrom}
use Rattle.cove_fence.proofs.tvm_epochs.TvmEpochs.inside_below.Given as goal

abbrev pub invariant-loop-k : goal.invariant-loop-k
invariant-loop-k g l = record {
  passed : AreInsideFrom l.self (g.W.Words.words l.fn.w) l.t.0 l.below l.k;
  unchanged : Unchanged g.W.Words.words g.W.Words.clean g.W.Words.guard l.fn.w l.w;
}
