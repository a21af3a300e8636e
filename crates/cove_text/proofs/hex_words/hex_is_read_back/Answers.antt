use Rattle.std.proofs.Common.{arith}
use Rattle.cove_text.proofs.HexDigits.{hex_of-hex_text}
use Rattle.cove_text.proofs.hex_words.hex_is_read_back.Goals as goal

pub returns : goal.returns
returns c = hex_of-hex_text c.args.bytes.now (λ i. omega (arith, c.type_inv.bytes i))
