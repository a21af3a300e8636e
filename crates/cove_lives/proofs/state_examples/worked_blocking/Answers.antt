use Rattle.cove_lives.proofs.StateExampleProofs.{another_page, entered_later, for_nobody, hart_outside, since, to_come}
use Rattle.cove_lives.proofs.state_examples.worked_blocking.Goals as goal

pub returns : goal.returns
returns c = record {
  since = since;
  hart_outside = hart_outside;
  for_nobody = for_nobody;
  entered_later = entered_later;
  to_come = to_come;
  another_page = another_page;
}
