use Rattle.cove_host.proofs.Creating.{refuses}
use Rattle.cove_host.proofs.FilledFrames.{zeroed_is, zeros_are}
use Rattle.cove_host.proofs.Reclaiming.{reclaim_accepted, reclaim_allowed}
use Rattle.cove_host.proofs.owners.reclaim_pages.Goals as goal

pub give_back-requires-clause-allowed : goal.give_back-requires-clause-allowed
give_back-requires-clause-allowed g c =
    let same = c.in-Ok.ensures.unchanged in
    rw (same.guard, same.words, c.pages_from-range.ensures.first, c.pages_from-range.ensures.count)
    (reclaim_allowed _ _ c.args.h.0 c.args.base c.args.n c.requires.ready (c.in-Ok.ensures.told c.args.h.0) _
    c.requires.allowed)

pub give_back-requires-clause-zeros : goal.give_back-requires-clause-zeros
give_back-requires-clause-zeros g c = zeros_are _ _ _ _ c.zero_all.ensures

pub returns-in-Err-clause-called : goal.returns-in-Err-clause-called
returns-in-Err-clause-called g c =
    rw c.in-Err.ensures.unchanged.words
    (refuses _ _ _ _ _ (c.in-Err.ensures.told c.args.h.0))

pub returns-in-Ok-clause-called : goal.returns-in-Ok-clause-called
returns-in-Ok-clause-called g c =
    rw (c.give_back.ensures.words, zeroed_is _ _ _ _ c.zero_all.ensures, c.in-Ok.ensures.unchanged.words, c.pages_from-range.ensures.first, c.pages_from-range.ensures.count)
    (reclaim_accepted _ _ c.args.h.0 c.args.base c.args.n c.requires.ready (c.in-Ok.ensures.told c.args.h.0))
