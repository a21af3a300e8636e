use Rattle.cove_lives.proofs.RunExampleProofs.{no_leaf, none_yet, one, page_word, second_leaf, second_table, spare_still}
use Rattle.cove_lives.proofs.run_examples.worked_mapping.Goals as goal

pub returns : goal.returns
returns c = record {
  none_yet = none_yet;
  one = one;
  no_leaf = no_leaf;
  second_leaf = second_leaf;
  second_table = second_table;
  page_word = page_word;
  spare_yet = spare_still;
}
