use Rattle.cove_host.proofs.Converting.{convert_accepted, convert_allowed}
use Rattle.cove_host.proofs.Creating.{refuses}
use Rattle.cove_host.proofs.owners.convert_pages.Goals as goal

pub set_all-requires-clause-allowed : goal.set_all-requires-clause-allowed
set_all-requires-clause-allowed g c =
    let same = c.in-Ok.ensures.unchanged in
    let read = c.current-since.ensures.unchanged in
    rw (read.guard, same.guard)
    (rw (c.current-since.ensures.value, c.epochs.ensures.first, c.pages_from.ensures.first, c.pages_from.ensures.count)
    (rw (read.words, same.words)
    (convert_allowed _ _ c.args.h.0 c.args.base c.args.n c.requires.ready (c.in-Ok.ensures.told c.args.h.0) _
    c.requires.allowed)))

pub returns-in-Err-clause-called : goal.returns-in-Err-clause-called
returns-in-Err-clause-called g c =
    rw c.in-Err.ensures.unchanged.words
    (refuses _ _ _ _ _ (c.in-Err.ensures.told c.args.h.0))

pub returns-in-Ok-clause-called : goal.returns-in-Ok-clause-called
returns-in-Ok-clause-called g c =
    rw (c.set_all.ensures.words, c.pages_from.ensures.first, c.pages_from.ensures.count)
    (rw (c.current-since.ensures.value, c.epochs.ensures.first)
    (rw (c.current-since.ensures.unchanged.words, c.in-Ok.ensures.unchanged.words)
    (convert_accepted _ _ c.args.h.0 c.args.base c.args.n c.requires.ready (c.in-Ok.ensures.told c.args.h.0))))
