use Rattle.cove_lives.proofs.LifeExampleProofs.{board, created_before, creation, supplied_before, supply}
use Rattle.cove_lives.proofs.life_examples.worked_life.Goals as goal

pub returns : goal.returns
returns c = record {
  freed = board;
  created = creation;
  created_before = created_before;
  supplied = supply;
  supplied_before = supplied_before;
}
