use Rattle.cove_lives.proofs.CallExampleProofs.{count_moved, fence_by_two, no_tvm, other_hart}
use Rattle.cove_lives.proofs.call_examples.worked_accepting.Goals as goal

pub returns : goal.returns
returns c = record {
  no_tvm = no_tvm;
  count = count_moved;
  fence = fence_by_two;
  other_hart = other_hart;
}
