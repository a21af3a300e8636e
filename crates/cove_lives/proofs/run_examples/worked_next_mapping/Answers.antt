use Rattle.cove_lives.proofs.RunExampleProofs.{linked_alone, maps, page_kept}
use Rattle.cove_lives.proofs.run_examples.worked_next_mapping.Goals as goal

pub returns : goal.returns
returns c = record {
  next = maps;
  no_leaf = linked_alone;
  spare_yet = page_kept;
}
