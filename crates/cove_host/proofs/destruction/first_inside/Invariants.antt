use Rattle.std.proofs.Common.{◌≡◌, ◌<◌, ℕ, false}
use Rattle.cove_base.specs.Unchanged.{Unchanged}
use Rattle.cove_host.specs.HartsInside.{is_inside}
use Rattle.cove_host.proofs.destruction.first_inside.Given as goal

abbrev pub invariant-loop-hart : goal.invariant-loop-hart
invariant-loop-hart g l = record {
  unchanged : Unchanged g.W.Words.words g.W.Words.clean g.W.Words.guard l.initial.w l.w;
  outside : (k : ℕ) → k < l.hart → is_inside l.g.pages l.g.harts (g.W.Words.words l.initial.w) l.t k ≡ false;
}
