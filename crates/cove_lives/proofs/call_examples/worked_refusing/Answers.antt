use Rattle.cove_lives.proofs.CallExampleProofs.{another_status, ground_changed, refused, word_changed}
use Rattle.cove_lives.proofs.call_examples.worked_refusing.Goals as goal

pub returns : goal.returns
returns c = record {
  refused = refused;
  another_status = another_status;
  word_changed = word_changed;
  ground_changed = ground_changed;
}
