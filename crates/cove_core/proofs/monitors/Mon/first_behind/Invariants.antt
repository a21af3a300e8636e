use Rattle.std.proofs.Common.{◌≡◌, ℕ, ◌<◌, false}
use Rattle.cove_model.specs.Machine.{after, is_behind}
use Rattle.cove_core.proofs.monitors.Mon.first_behind.Given as goal

abbrev pub invariant-loop-k : goal.invariant-loop-k
invariant-loop-k l =
    (j : ℕ) → j < l.k → is_behind l.fn.script (after l.fn.script l.self.history) l.phase j ≡ false
