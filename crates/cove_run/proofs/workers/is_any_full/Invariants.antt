use Rattle.std.proofs.Common.{◌≡◌, ℕ, ◌<◌, false, IfSome, slice_get}
use Rattle.cove_run.proofs.workers.is_any_full.Given as goal

-- the harts so far have room
abbrev pub invariant-loop-hart : goal.invariant-loop-hart
invariant-loop-hart l = (k : ℕ) → k < l.hart-index → IfSome (slice_get l.harts k) (λ seat. seat.full ≡ false)
