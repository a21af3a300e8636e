use Rattle.cove_text.proofs.HexDigits.{IsReadSoFar}
use Rattle.cove_text.proofs.hex_words.read_hex.Given as goal

abbrev pub invariant-loop-i : goal.invariant-loop-i
invariant-loop-i l = IsReadSoFar l.word l.i l.bytes
