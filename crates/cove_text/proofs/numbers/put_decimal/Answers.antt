use Rattle.std.proofs.Common.{arith}
use Rattle.std.proofs.lemmas.List.{length-append, length-map, length_push}
use Rattle.cove_text.proofs.Numerals.{length-decimal_digits}
use Rattle.cove_text.proofs.numbers.put_decimal.Goals as goal
use Rattle.cove_text.proofs.numbers.put_decimal.Goals.{then-v-lt0, else-v-lt0}

pub put_digits-requires-clause-room : goal.put_digits-requires-clause-room
put_digits-requires-clause-room c =
    let short = length-decimal_digits c.unsigned_abs.result (omega arith) in
    elim c.if-v-lt0.branch [
      | then-v-lt0 w ↦ rw (w.out-is, w.push.ensures, length_push) (omega (arith, short))
      | else-v-lt0 w ↦ rw w.out-is (omega (arith, short))
    ]

pub returns-clause-room : goal.returns-clause-room
returns-clause-room c =
    let short = length-decimal_digits c.unsigned_abs.result (omega arith) in
    elim c.if-v-lt0.branch [
      | then-v-lt0 w ↦ rw (c.put_digits.ensures, length-append, length-map, w.out-is, w.push.ensures, length_push) (omega (arith, short))
      | else-v-lt0 w ↦ rw (c.put_digits.ensures, length-append, length-map, w.out-is) (omega (arith, short))
    ]
