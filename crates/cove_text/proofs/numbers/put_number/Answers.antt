use Rattle.std.proofs.Common.{arith}
use Rattle.std.proofs.lemmas.List.{length-append, length-map}
use Rattle.cove_text.proofs.Numerals.{length-hex_digits}
use Rattle.cove_text.proofs.numbers.put_number.Goals as goal

pub put_digits-requires-clause-room : goal.put_digits-requires-clause-room
put_digits-requires-clause-room c =
    rw (c.put_bytes.ensures, length-append) (omega (arith, length-hex_digits c.args.v (omega arith)))

pub returns-clause-room : goal.returns-clause-room
returns-clause-room c =
    rw (c.put_digits.ensures, c.put_bytes.ensures, length-append, length-append, length-map)
    (omega (arith, length-hex_digits c.args.v (omega arith)))
