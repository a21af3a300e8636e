use Rattle.std.proofs.Common.{◌≡◌, ℕ, ◌<◌, None}
use Rattle.cove_model.specs.Machine.{next_line, after, ended_by}
use Rattle.cove_core.proofs.monitors.Mon.is_over.Given as goal

abbrev pub invariant-loop-k : goal.invariant-loop-k
invariant-loop-k l =
    (j : ℕ) → j < l.k → next_line l.fn.script j (ended_by (after l.fn.script l.self.history) j) ≡ None
