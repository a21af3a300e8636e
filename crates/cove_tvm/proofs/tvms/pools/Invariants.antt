use Rattle.cove_tvm.specs.TvmTables.{AreEmptyPools}
use Rattle.cove_tvm.proofs.tvms.pools.Given as goal

abbrev pub invariant-loop : goal.invariant-loop
invariant-loop l = AreEmptyPools l.pages l.counter l.pools.items
