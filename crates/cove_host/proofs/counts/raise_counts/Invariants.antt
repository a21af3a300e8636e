use Rattle.std.proofs.Common.{◌≡◌}
use Rattle.cove_host.specs.Raised.{RaisesBy}
use Rattle.cove_host.proofs.counts.raise_counts.Given as goal

-- the counts so far are raised
abbrev pub invariant-loop-i : goal.invariant-loop-i
invariant-loop-i g l = record {
  raised : RaisesBy l.first.0 l.i (g.W.Words.words l.initial.w) (g.W.Words.words l.w);
  guard : g.W.Words.guard l.w ≡ g.W.Words.guard l.initial.w;
}
