use Rattle.cove_host.proofs.LifeTold.{changed}
use Rattle.cove_host.specs.Finalized.{IsFinalized}
use Rattle.cove_host.proofs.finalization.finish.Goals as goal

pub returns-in-Some : goal.returns-in-Some
returns-in-Some c = changed c.args.t c.args.g.now (IsFinalized c.args.pc c.args.arg) _ _ c.in-Some.ensures.value c.finish_tvm.ensures
