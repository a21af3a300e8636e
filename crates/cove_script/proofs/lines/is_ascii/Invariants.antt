use Rattle.std.proofs.Common.{◌≡◌, take}
use Rattle.std.specs.List.{list_all}
use Rattle.cove_model.specs.Grammar.{is_text_byte}
use Rattle.cove_script.proofs.lines.is_ascii.Given as goal

-- so far
abbrev pub invariant-loop-byte : goal.invariant-loop-byte
invariant-loop-byte l = l.all ≡ list_all is_text_byte (take l.byte-index l.line)
