use Rattle.std.proofs.Common.{◌<◌, arith, get_or, length}
use Rattle.cove_host.proofs.TakenPages.{has_at}
use Rattle.cove_host.proofs.releasing.release_gathered.Goals as goal

pub set_state-requires-clause-place : goal.set_state-requires-clause-place
set_state-requires-clause-place g c =
    let pages = c.args.pool.now.pages in
    let low : c.loop-k.k < length pages = omega (arith, c.loop-k-test.true, c.left-k-end.ensures) in
    rw (c.page.ensures, c.loop-k.invariant.long) (c.requires.places (get_or pages c.loop-k.k 0) (has_at pages c.loop-k.k low)).0

pub set_state-requires-clause-limit : goal.set_state-requires-clause-limit
set_state-requires-clause-limit g c =
    let pages = c.args.pool.now.pages in
    let low : c.loop-k.k < length pages = omega (arith, c.loop-k-test.true, c.left-k-end.ensures) in
    rw c.page.ensures (c.requires.places (get_or pages c.loop-k.k 0) (has_at pages c.loop-k.k low)).1
