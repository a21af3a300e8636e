use Rattle.cove_lives.proofs.CallExampleProofs.{kicked, last_epoch, new_ground, no_hart, ready, stands, without_words}
use Rattle.cove_lives.proofs.call_examples.worked_readiness.Goals as goal

pub returns : goal.returns
returns c = record {
  ground = new_ground;
  kicked = kicked;
  stands = stands;
  ready = ready;
  no_hart = no_hart;
  last_epoch = last_epoch;
  no_words = without_words;
}
