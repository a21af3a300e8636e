use Rattle.std.proofs.Common.{◌≡◌}
use Rattle.cove_base.specs.Unchanged.{Unchanged}
use Rattle.cove_fence.specs.Fences.{epoch, HaveAnswered}
use Rattle.cove_fence.proofs.epochs.Epochs.behind.Given as goal

abbrev pub invariant-loop-k : goal.invariant-loop-k
invariant-loop-k g l = record {
  epoch : l.epoch ≡ epoch l.self (g.W.Words.words l.fn.w);
  answered : HaveAnswered l.self (g.W.Words.words l.fn.w) l.k;
  unchanged : Unchanged g.W.Words.words g.W.Words.clean g.W.Words.guard l.fn.w l.w;
}
