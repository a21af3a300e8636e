use Rattle.std.proofs.Common.{◌≡◌, length, take}
use Rattle.cove_core.specs.Bytes.{FramesShow}
use Rattle.cove_model.specs.States.{opening_byte}
use Rattle.cove_core.proofs.fills.opening_memory.Given as goal

abbrev pub invariant-loop-fill : goal.invariant-loop-fill
invariant-loop-fill l = record {
  shows : FramesShow l.memory (opening_byte (take l.fill-index l.fn.script.fills));
  size : length l.memory ≡ l.fn.script.pages;
}
