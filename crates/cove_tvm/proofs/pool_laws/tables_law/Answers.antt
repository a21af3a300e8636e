use Rattle.cove_tvm.proofs.GivenTables.{tables_are_lawful, tables_fit, tables_stand}
use Rattle.cove_tvm.proofs.pool_laws.tables_law.Goals as goal

pub returns : goal.returns
returns c = record { stands = tables_stand; lawful = tables_are_lawful; fits = tables_fit }
