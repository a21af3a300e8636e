use Rattle.cove_lives.proofs.LifeExampleProofs.{free_page, host_page_as_own, no_tables, own, shared}
use Rattle.cove_lives.proofs.life_examples.worked_growth.Goals as goal

pub returns : goal.returns
returns c = record {
  own = own;
  shared = shared;
  no_tables = no_tables;
  host_page = host_page_as_own;
  free_page = free_page;
}
