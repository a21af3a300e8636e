use Rattle.std.proofs.Common.{◌≡◌, ◌++◌, take}
use Rattle.cove_evidence.proofs.pieces.append.Given as goal

abbrev pub invariant-loop-byte : goal.invariant-loop-byte
invariant-loop-byte l = l.quote ≡ l.fn.quote ++ take l.byte-index l.bytes
