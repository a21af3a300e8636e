use Rattle.cove_lives.proofs.CallExampleProofs.{done, served_refusal, served_word, unbuilt}
use Rattle.cove_lives.proofs.call_examples.worked_serving.Goals as goal

pub returns : goal.returns
returns c = record {
  unbuilt = unbuilt;
  done = done;
  refused = served_refusal;
  word_changed = served_word;
}
