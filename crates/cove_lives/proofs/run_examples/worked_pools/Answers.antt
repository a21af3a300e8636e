use Rattle.cove_lives.proofs.RunExampleProofs.{another_tvm, in_use, memory, tables, twice}
use Rattle.cove_lives.proofs.run_examples.worked_pools.Goals as goal

pub returns : goal.returns
returns c = record {
  own = tables;
  another_tvm = another_tvm;
  twice = twice;
  memory = memory;
  in_use = in_use;
}
