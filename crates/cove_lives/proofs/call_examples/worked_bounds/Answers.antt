use Rattle.cove_lives.proofs.CallExampleProofs.{served_count, served_fence, served_other}
use Rattle.cove_lives.proofs.call_examples.worked_bounds.Goals as goal

pub returns : goal.returns
returns c = record {
  count = served_count;
  fence = served_fence;
  other_hart = served_other;
}
