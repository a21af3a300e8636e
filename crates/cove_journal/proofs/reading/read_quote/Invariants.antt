use Rattle.std.proofs.Common.{◌≡◌, take}
use Rattle.cove_journal.proofs.reading.read_quote.Given as goal

abbrev pub invariant-loop-byte : goal.invariant-loop-byte
invariant-loop-byte l = l.quote ≡ take l.byte-index l.byte-items
