use Rattle.cove_host.proofs.Fencing.{begin_allowed, fence_accepted, fence_denied}
use Rattle.cove_host.proofs.fences.global_fence.Goals as goal

pub begin-requires-clause-allowed : goal.begin-requires-clause-allowed
begin-requires-clause-allowed g c =
    begin_allowed _ _ c.args.h.0 c.requires.ready c.epochs.result c.epochs.ensures.first c.epochs.ensures.harts c.requires.on_board _ c.requires.allowed

pub returns-in-Ok-clause-called : goal.returns-in-Ok-clause-called
returns-in-Ok-clause-called g c =
    rw c.in-Ok.ensures.stores
    (fence_accepted _ _ c.args.h.0 c.requires.ready c.epochs.result c.epochs.ensures.first c.epochs.ensures.harts c.requires.on_board c.in-Ok.ensures.answered)

pub returns-in-Err-clause-called : goal.returns-in-Err-clause-called
returns-in-Err-clause-called g c =
    rw (c.in-Err.ensures.words, c.from.ensures)
    (fence_denied _ _ c.args.h.0 c.requires.ready c.epochs.result c.epochs.ensures.first c.epochs.ensures.harts c.in-Err.lowest.0 c.in-Err.ensures.behind
    c.in-Err.ensures.lowest)
