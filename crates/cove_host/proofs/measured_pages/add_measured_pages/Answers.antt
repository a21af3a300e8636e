use Rattle.cove_host.proofs.Creating.{refuses}
use Rattle.cove_host.proofs.FilledFrames.{copies_are}
use Rattle.cove_host.proofs.GrowingMeasured.{adds_measured, apart, ends_low, measures}
use Rattle.cove_host.proofs.GrowingTvm.{memory_allowed, memory_maps}
use Rattle.cove_host.proofs.measured_pages.add_measured_pages.Goals as goal

pub copy_all-requires-clause-apart : goal.copy_all-requires-clause-apart
copy_all-requires-clause-apart g c =
    rw (c.page_of.ensures, c.page_of-in-Ok.ensures)
    (apart c.requires.ready c.args.src c.args.dst c.args.n c.args.gpa c.args.h.0 c.args.t c.in-Ok.ensures.near c.in-Ok.ensures.within.0
    (c.in-Ok.ensures.told c.args.h.0))

pub give_copies-requires-clause-allowed : goal.give_copies-requires-clause-allowed
give_copies-requires-clause-allowed g c =
    let same = c.in-Ok.ensures.unchanged in
    let near = c.in-Ok.ensures.near in
    rw (same.guard, same.words)
    (memory_allowed c.requires.ready c.args.dst c.args.n c.args.gpa c.args.h.0 c.args.t
    (λ S stands. (measures c.requires.ready c.args.src c.args.dst c.args.n c.args.gpa c.args.h.0 c.args.t near (c.in-Ok.ensures.told c.args.h.0) S stands).grown)
    _ c.requires.allowed)

pub give_copies-requires-clause-filled : goal.give_copies-requires-clause-filled
give_copies-requires-clause-filled g c =
    copies_are _ _ _ _ _ (rw (c.page_of.ensures, c.page_of-in-Ok.ensures) at c.copy_all.ensures)
    (apart c.requires.ready c.args.src c.args.dst c.args.n c.args.gpa c.args.h.0 c.args.t c.in-Ok.ensures.near c.in-Ok.ensures.within.0
    (c.in-Ok.ensures.told c.args.h.0))

pub returns-in-Err-clause-called : goal.returns-in-Err-clause-called
returns-in-Err-clause-called g c =
    rw c.in-Err.ensures.unchanged.words
    (refuses _ _ _ _ _ (c.in-Err.ensures.told c.args.h.0))

pub map_measured-requires-clause-may : goal.map_measured-requires-clause-may
map_measured-requires-clause-may g c = λ tvm live.
    let same = c.in-Ok.ensures.unchanged in
    let near = c.in-Ok.ensures.near in
    rw (c.give_copies.ensures.guard, c.give_copies.ensures.words, c.page_of-in-Ok-2.ensures, same.guard, same.words)
    (memory_maps c.requires.ready c.args.dst c.args.n c.args.gpa c.args.h.0 c.args.t
    (λ S stands. (measures c.requires.ready c.args.src c.args.dst c.args.n c.args.gpa c.args.h.0 c.args.t near (c.in-Ok.ensures.told c.args.h.0) S stands).grown)
    _ c.requires.allowed tvm live)

pub map_measured-requires-clause-near : goal.map_measured-requires-clause-near
map_measured-requires-clause-near g c =
    ends_low c.requires.ready c.args.src c.args.dst c.args.n c.args.gpa c.args.h.0 c.args.t c.in-Ok.ensures.near (c.in-Ok.ensures.told c.args.h.0)

pub returns-in-Ok-clause-called : goal.returns-in-Ok-clause-called
returns-in-Ok-clause-called g c =
    let same = c.in-Ok.ensures.unchanged in
    adds_measured c.requires.ready c.args.src c.args.dst c.args.n c.args.gpa c.args.h.0 _ _ _
    (rw (c.page_of.ensures, c.page_of-in-Ok.ensures) at c.copy_all.ensures) c.args.t c.in-Ok.ensures.near
    (c.in-Ok.ensures.told c.args.h.0)
    (rw (c.page_of-in-Ok-2.ensures, c.give_copies.ensures.words, same.words) at c.map_measured.ensures.mapped)
