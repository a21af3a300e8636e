use Rattle.std.proofs.Common.{arith}
use Rattle.std.proofs.lemmas.List.{length-drop, take_rest}
use Rattle.cove_io.proofs.Moves.{writes_on}
use Rattle.cove_io.proofs.whole.write_all.Goals as goal

pub loop-at-preserved : goal.loop-at-preserved
loop-at-preserved g c =
    let at = c.loop-at.at in
    let piece = c.args.piece.now in
    let n = c.in_ok-at.field-0 in
    let rest = take_rest piece at in
    let taken = rw rest at c.in_ok-at.ensures.bytes in
    let few = rw rest at c.in_ok-at.ensures.within in
    record {
      within = omega (arith, few, length-drop at piece);
      clean = cc c.in_ok-at.ensures.clean;
      bytes = writes_on _ _ _ at n piece c.loop-at.invariant.bytes taken;
    }
