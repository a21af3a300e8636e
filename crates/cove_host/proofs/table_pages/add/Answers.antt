use Rattle.cove_host.proofs.LifeTold.{changed}
use Rattle.cove_tvm.specs.MoreTables.{AddsTables}
use Rattle.cove_host.proofs.table_pages.add.Goals as goal

pub returns-in-Some : goal.returns-in-Some
returns-in-Some c = changed c.args.t c.args.g.now (AddsTables c.args.base c.args.n) _ _ c.in-Some.ensures.value c.add_to.ensures
