use Rattle.cove_lives.proofs.CallExampleProofs.{hart_in_none, met, page_of_none, wordless}
use Rattle.cove_lives.proofs.call_examples.worked_meeting.Goals as goal

pub returns : goal.returns
returns c = record {
  opening = met;
  page_of_none = page_of_none;
  hart_in_none = hart_in_none;
  no_words = wordless;
}
