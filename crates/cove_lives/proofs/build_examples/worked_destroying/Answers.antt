use Rattle.cove_lives.proofs.DestroyExampleProofs.{count_left, destroyed, fence, leaf_left, other_leaf, other_page, page_left}
use Rattle.cove_lives.proofs.build_examples.worked_destroying.Goals as goal

pub returns : goal.returns
returns c = record {
  destroyed = destroyed;
  page_left = page_left;
  leaf_left = leaf_left;
  count_left = count_left;
  other_page = other_page;
  other_leaf = other_leaf;
  fence = fence;
}
