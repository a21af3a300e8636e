use Rattle.cove_lives.proofs.StateExampleProofs.{another, another_mode, finalized, has_vcpu, injected, lost_page, new}
use Rattle.cove_lives.proofs.state_examples.worked_living.Goals as goal

pub returns : goal.returns
returns c = record {
  new = new;
  another_mode = another_mode;
  finalized = finalized;
  injected = injected;
  has_vcpu = has_vcpu;
  lost_page = lost_page;
  another = another;
}
