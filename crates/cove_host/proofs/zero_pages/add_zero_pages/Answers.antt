use Rattle.cove_host.proofs.Creating.{refuses}
use Rattle.cove_host.proofs.FilledFrames.{zeros_are}
use Rattle.cove_host.proofs.GrowingTvm.{adds_zero, memory_allowed, memory_maps, zero_grows}
use Rattle.cove_host.proofs.zero_pages.add_zero_pages.Goals as goal

pub give_zeros-requires-clause-allowed : goal.give_zeros-requires-clause-allowed
give_zeros-requires-clause-allowed g c =
    let same = c.in-Ok.ensures.unchanged in
    let near = c.in-Ok.ensures.near in
    rw (same.guard, same.words)
    (memory_allowed c.requires.ready c.args.base c.args.n c.args.gpa c.args.h.0 c.args.t
    (zero_grows c.requires.ready c.args.base c.args.n c.args.gpa c.args.h.0 c.args.t near c.in-Ok.ensures.told)
    _ c.requires.allowed)

pub give_zeros-requires-clause-filled : goal.give_zeros-requires-clause-filled
give_zeros-requires-clause-filled g c = zeros_are _ _ _ _ (rw c.page_of.ensures at c.zero_all.ensures)

pub map_pages-requires : goal.map_pages-requires
map_pages-requires g c = λ tvm live.
    let same = c.in-Ok.ensures.unchanged in
    let near = c.in-Ok.ensures.near in
    rw (c.give_zeros.ensures.guard, c.give_zeros.ensures.words, c.page_of-in-Ok.ensures, same.guard, same.words)
    (memory_maps c.requires.ready c.args.base c.args.n c.args.gpa c.args.h.0 c.args.t
    (zero_grows c.requires.ready c.args.base c.args.n c.args.gpa c.args.h.0 c.args.t near c.in-Ok.ensures.told)
    _ c.requires.allowed tvm live)

pub returns-in-Err-clause-called : goal.returns-in-Err-clause-called
returns-in-Err-clause-called g c =
    rw c.in-Err.ensures.unchanged.words
    (refuses _ _ _ _ _ c.in-Err.ensures.told)

pub returns-in-Ok-clause-called : goal.returns-in-Ok-clause-called
returns-in-Ok-clause-called g c =
    let same = c.in-Ok.ensures.unchanged in
    adds_zero c.requires.ready c.args.base c.args.n c.args.gpa c.args.h.0 _ _ _ (rw c.page_of.ensures at c.zero_all.ensures) c.args.t c.in-Ok.ensures.near
    c.in-Ok.ensures.told
    (rw (c.page_of-in-Ok.ensures, c.give_zeros.ensures.words, same.words) at c.map_pages.ensures.mapped)
