use Rattle.cove_lives.proofs.RunExampleProofs.{leaf_alone, leaf_lacks, none, table_lost, unlinked}
use Rattle.cove_lives.proofs.run_examples.worked_mappings.Goals as goal

pub returns : goal.returns
returns c = record {
  none = none;
  no_leaf = leaf_lacks;
  leaf_alone = leaf_alone;
  unlinked = unlinked;
  table_lost = table_lost;
}
