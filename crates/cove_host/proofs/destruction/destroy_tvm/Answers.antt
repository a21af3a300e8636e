use Rattle.cove_host.proofs.Creating.{refuses}
use Rattle.cove_host.proofs.Ending.{destroys_tvm, may_end}
use Rattle.cove_host.proofs.destruction.destroy_tvm.Goals as goal

pub returns-in-Err-clause-called : goal.returns-in-Err-clause-called
returns-in-Err-clause-called g c =
    rw c.in-Err.ensures.unchanged.words
    (refuses _ _ _ _ _ (c.in-Err.ensures.told c.args.h.0))

pub returns-in-Ok-clause-called : goal.returns-in-Ok-clause-called
returns-in-Ok-clause-called g c =
    destroys_tvm _ _ c.args.h.0 c.args.t c.requires.ready c.in-Ok.ensures.outside _ _
    (c.in-Ok.ensures.told c.args.h.0) (rw c.in-Ok.ensures.unchanged.words at c.end.ensures.ended)

pub end-requires : goal.end-requires
end-requires g c = record {
  ending = λ tvm live.
      rw (c.in-Ok.ensures.unchanged.guard, c.in-Ok.ensures.unchanged.words)
      (may_end _ _ c.args.h.0 c.args.t c.requires.ready c.in-Ok.ensures.outside _ c.requires.allowed tvm live);
}
