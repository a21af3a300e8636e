use Rattle.cove_lives.proofs.RunExampleProofs.{host_page_as_own, mapped_before, no_tables, one_level_more, own, own_page_as_shared, shared}
use Rattle.cove_lives.proofs.run_examples.worked_runs_to_map.Goals as goal

pub returns : goal.returns
returns c = record {
  own = own;
  shared = shared;
  host_page_as_own = host_page_as_own;
  own_page_as_shared = own_page_as_shared;
  one_level_more = one_level_more;
  no_tables = no_tables;
  mapped_before = mapped_before;
}
