use Rattle.std.proofs.Common.{arith}
use Rattle.std.proofs.lemmas.List.{length_push}
use Rattle.cove_text.proofs.HexDigits.{hex_text-more}
use Rattle.cove_text.proofs.hex_words.put_hex.Goals as goal

pub loop-byte-preserved : goal.loop-byte-preserved
loop-byte-preserved c = (
  rw (c.push-in-loop-byte.ensures, c.push.ensures, c.digit_char-in-loop-byte.ensures, c.digit_char.ensures, c.from-in-loop-byte.ensures, c.from.ensures, c.loop-byte.invariant.0)
      (hex_text-more c.args.bytes.now c.loop-byte.byte-index c.args.out.now (omega arith)),
  rw (c.push-in-loop-byte.ensures, c.push.ensures, length_push, length_push) (omega arith),
)
