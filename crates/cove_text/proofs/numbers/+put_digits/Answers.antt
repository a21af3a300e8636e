use Rattle.std.proofs.Common.{arith}
use Rattle.std.proofs.Math.Nat.{div-lt_self}
use Rattle.std.proofs.lemmas.List.{length-append, length-map}
use Rattle.cove_text.proofs.Numerals.{text-last, text-more, length-shortest_digits, length-shortest_digits-more}
use Rattle.cove_text.proofs.numbers.+put_digits.Goals as goal
use Rattle.cove_text.proofs.numbers.+put_digits.Goals.{then-n-base, else-n-base}

pub put_digits-requires : goal.put_digits-requires
put_digits-requires t c =
    let more = length-shortest_digits-more c.args.base c.args.n c.requires.lower c.if-n-base.true in
    let less = div-lt_self {n = c.args.n} {k = c.args.base} (omega arith) (omega arith) in
    (omega (arith, less), (c.requires.lower, (c.requires.upper, omega (arith, more))))

pub push-requires : goal.push-requires
push-requires t c =
    elim c.if-n-base.branch [
      | then-n-base w ↦
          let more = length-shortest_digits-more c.args.base c.args.n c.requires.lower w.if-n-base.true in
          rw (w.out-is, w.put_digits.ensures, length-append, length-map) (omega (arith, more))
      | else-n-base w ↦ rw w.out-is (omega (arith, length-shortest_digits c.args.base c.args.n c.requires.lower))
    ]

pub returns : goal.returns
returns t c =
    elim c.if-n-base.branch [
      | then-n-base w ↦
          rw (c.push.ensures, w.out-is, w.put_digits.ensures, c.digit_char.ensures)
          (text-more c.args.base c.args.n _ c.requires.lower w.if-n-base.true)
      | else-n-base w ↦
          rw (c.push.ensures, w.out-is, c.digit_char.ensures)
          (text-last c.args.base c.args.n _ c.requires.lower (omega arith))
    ]
