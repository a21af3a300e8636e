use Rattle.cove_host.proofs.Creating.{refuses}
use Rattle.cove_host.proofs.Finalizing.{finalizes}
use Rattle.cove_host.proofs.finalization.finalize_tvm.Goals as goal

pub returns-in-Err-clause-called : goal.returns-in-Err-clause-called
returns-in-Err-clause-called g c =
    refuses _ _ _ _ _ (λ S stands. c.in-Err.ensures.told _ c.args.h.0 c.args.arg S stands)

pub returns-in-Ok-clause-called : goal.returns-in-Ok-clause-called
returns-in-Ok-clause-called g c =
    finalizes _ _ _ c.args.h.0 c.args.pc c.args.arg c.args.t
    (λ S stands. c.in-Ok.ensures.told _ c.args.h.0 c.args.arg S stands) c.finish.ensures
