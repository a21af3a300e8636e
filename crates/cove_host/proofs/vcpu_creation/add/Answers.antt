use Rattle.cove_host.proofs.LifeTold.{changed}
use Rattle.cove_tvm.specs.NewVcpus.{AddsCpu}
use Rattle.cove_host.proofs.vcpu_creation.add.Goals as goal

pub returns-in-Some : goal.returns-in-Some
returns-in-Some c = changed c.args.t c.args.g.now (AddsCpu c.args.v c.args.page.0) _ _ c.in-Some.ensures.value c.add_to.ensures
