use Rattle.cove_host.proofs.Creating.{refuses}
use Rattle.cove_host.proofs.GrowingShared.{adds_shared, raise_allowed, shared_maps}
use Rattle.cove_host.proofs.shared_pages.add_shared_pages.Goals as goal

pub raise_counts-requires : goal.raise_counts-requires
raise_counts-requires g c =
    let same = c.in-Ok.ensures.unchanged in
    rw (same.guard, same.words, c.page_of.ensures)
    (raise_allowed c.requires.ready c.args.base c.args.n c.args.gpa c.args.h.0 c.args.t c.in-Ok.ensures.near
    c.in-Ok.ensures.told _ c.requires.allowed)

pub map_pages-requires : goal.map_pages-requires
map_pages-requires g c = λ tvm live.
    let same = c.in-Ok.ensures.unchanged in
    rw (c.raise_counts.ensures.guard, c.page_of-in-Ok.ensures, same.guard)
    (shared_maps c.requires.ready c.args.base c.args.n c.args.gpa c.args.h.0 _
    (rw (c.page_of.ensures, same.words) at c.raise_counts.ensures.raised) c.args.t c.in-Ok.ensures.near
    c.in-Ok.ensures.told _ c.requires.allowed tvm live)

pub returns-in-Err-clause-called : goal.returns-in-Err-clause-called
returns-in-Err-clause-called g c =
    rw c.in-Err.ensures.unchanged.words
    (refuses _ _ _ _ _ c.in-Err.ensures.told)

pub returns-in-Ok-clause-called : goal.returns-in-Ok-clause-called
returns-in-Ok-clause-called g c =
    let same = c.in-Ok.ensures.unchanged in
    adds_shared c.requires.ready c.args.base c.args.n c.args.gpa c.args.h.0 _
    (rw (c.page_of.ensures, same.words) at c.raise_counts.ensures.raised) _ _ c.args.t c.in-Ok.ensures.near
    c.in-Ok.ensures.told
    (rw c.page_of-in-Ok.ensures at c.map_pages.ensures.mapped)
