use Rattle.std.proofs.Common.{◌≡◌, ◌++◌, ◌+◌, ◌*◌, length, take}
use Rattle.cove_base.specs.Numbers.{hex_text}
use Rattle.cove_text.proofs.hex_words.put_hex.Given as goal

abbrev pub invariant-loop-byte : goal.invariant-loop-byte
invariant-loop-byte l =
    (l.out ≡ l.initial.out ++ hex_text (take l.byte-index l.bytes))
    × (length l.out ≡ length l.initial.out + 2 * l.byte-index)
