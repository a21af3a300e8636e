use Rattle.std.proofs.Common.{◌≡◌, ℕ, length}
use Rattle.cove_core.proofs.FillLemmas.{part}
use Rattle.cove_core.specs.Bytes.{FramesShow}
use Rattle.cove_model.specs.States.{byte_after}
use Rattle.cove_core.proofs.fills.put_fill.Given as goal

abbrev pub invariant-loop-i : goal.invariant-loop-i
invariant-loop-i l = record {
  shows : (byte : ℕ → ℕ) → FramesShow l.initial.memory byte → FramesShow l.memory (λ addr. byte_after addr (byte addr) (part l.fn.fill l.i));
  size : length l.memory ≡ length l.initial.memory;
}
