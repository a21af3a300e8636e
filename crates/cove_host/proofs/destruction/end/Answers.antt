use Rattle.cove_host.proofs.LifeTold.{changed}
use Rattle.cove_host.specs.Ended.{HasEnded}
use Rattle.cove_host.proofs.destruction.end.Goals as goal

pub returns-in-Some-clause-ended : goal.returns-in-Some-clause-ended
returns-in-Some-clause-ended g c = changed c.args.t c.args.g.now (HasEnded (g.W.Words.words c.args.w.now) (g.W.Words.words c.end_tvm.new.w)) _ _ c.in-Some.ensures.value c.end_tvm.ensures.ended
