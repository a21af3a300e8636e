use Rattle.std.proofs.Common.{◌≡◌, ◌<◌, ◌≤◌, ℕ}
use Rattle.cove_base.specs.Unchanged.{Unchanged}
use Rattle.cove_fence.specs.Fences.{answered}
use Rattle.cove_fence.proofs.epochs.Epochs.floor.Given as goal

abbrev pub invariant-loop-k : goal.invariant-loop-k
invariant-loop-k g l = record {
  least : (k : ℕ) → k < l.k → l.least ≤ answered l.self (g.W.Words.words l.fn.w) k;
  answered : (k : ℕ) × (k < l.k) × (l.least ≡ answered l.self (g.W.Words.words l.fn.w) k);
  unchanged : Unchanged g.W.Words.words g.W.Words.clean g.W.Words.guard l.fn.w l.w;
}
