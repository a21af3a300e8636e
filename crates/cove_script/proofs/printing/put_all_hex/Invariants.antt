use Rattle.std.proofs.Common.{◌≡◌, ◌++◌, take}
use Rattle.cove_base.specs.Numbers.{hex_text}
use Rattle.cove_script.proofs.printing.put_all_hex.Given as goal

abbrev pub invariant-loop-byte : goal.invariant-loop-byte
invariant-loop-byte l = l.out ≡ l.fn.out ++ hex_text (take l.byte-index l.bytes)
