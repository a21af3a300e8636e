use Rattle.std.proofs.Common.{◌+◌, arith}
use Rattle.std.proofs.lemmas.List.{length-take}
use Rattle.cove_io.proofs.Moves.{reads_exactly, reads_at_most}
use Rattle.cove_io.proofs.whole.read_all.Goals as goal

pub returns-then-n-spare-clause-too_long : goal.returns-then-n-spare-clause-too_long
returns-then-n-spare-clause-too_long g c = λ _.
    let asked = length-take (c.min-asked.result + 1) c.loop-bytes.chunk in
    reads_exactly _ _ _ c.loop-bytes.bytes c.read.new.buf c.in_ok-n.n c.in_ok-n.ensures.within
    c.loop-bytes.invariant.bytes c.in_ok-n.ensures.bytes _ (omega (arith, asked, c.in_ok-n.ensures.within))

pub returns-then-n-spare-clause-at_most : goal.returns-then-n-spare-clause-at_most
returns-then-n-spare-clause-at_most g c =
    let asked = length-take (c.min-asked.result + 1) c.loop-bytes.chunk in
    reads_at_most _ _ _ c.loop-bytes.bytes c.read.new.buf c.in_ok-n.n c.in_ok-n.ensures.within
    c.loop-bytes.invariant.bytes c.in_ok-n.ensures.bytes _ (omega (arith, asked, c.in_ok-n.ensures.within))

pub returns-in_err-extend-clause-else_fewer : goal.returns-in_err-extend-clause-else_fewer
returns-in_err-extend-clause-else_fewer g c = λ _.
    reads_at_most _ _ _ c.loop-bytes.bytes c.read.new.buf c.in_ok-n.n c.in_ok-n.ensures.within
    c.loop-bytes.invariant.bytes c.in_ok-n.ensures.bytes _ (omega arith)

pub returns-in_err-extend-clause-at_most : goal.returns-in_err-extend-clause-at_most
returns-in_err-extend-clause-at_most g c =
    reads_at_most _ _ _ c.loop-bytes.bytes c.read.new.buf c.in_ok-n.n c.in_ok-n.ensures.within
    c.loop-bytes.invariant.bytes c.in_ok-n.ensures.bytes _ (omega arith)
