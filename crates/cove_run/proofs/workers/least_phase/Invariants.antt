use Rattle.std.proofs.Common.{ℕ, ◌<◌, IfSome, slice_get}
use Rattle.cove_run.specs.Working.{ComesFirst, next_phase}
use Rattle.cove_run.proofs.workers.least_phase.Given as goal

abbrev pub invariant-loop-hart : goal.invariant-loop-hart
invariant-loop-hart g l = (k : ℕ) → k < l.hart-index → IfSome (slice_get l.harts k) (λ seat. ComesFirst l.least (next_phase l.script seat))
