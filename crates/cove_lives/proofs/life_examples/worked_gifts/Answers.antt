use Rattle.cove_lives.proofs.LifeExampleProofs.{free, host_page, may_create, past_the_board, to_none}
use Rattle.cove_lives.proofs.life_examples.worked_gifts.Goals as goal

pub returns : goal.returns
returns c = record {
  may_create = may_create;
  free = free;
  host_page = host_page;
  past_the_board = past_the_board;
  to_none = to_none;
}
