use Rattle.cove_host.proofs.Fencing.{answer_accepted, answer_allowed}
use Rattle.cove_host.proofs.fences.local_fence.Goals as goal

pub answer-requires-clause-allowed : goal.answer-requires-clause-allowed
answer-requires-clause-allowed g c =
    answer_allowed _ _ c.args.h.0 c.requires.ready c.epochs.result c.epochs.ensures.first c.epochs.ensures.harts c.requires.on_board _ c.requires.allowed

pub returns-clause-called : goal.returns-clause-called
returns-clause-called g c =
    rw c.answer.ensures.stores
    (answer_accepted _ _ c.args.h.0 c.requires.ready c.epochs.result c.epochs.ensures.first c.epochs.ensures.harts c.requires.on_board)
