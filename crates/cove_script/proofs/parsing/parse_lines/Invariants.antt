use Rattle.std.proofs.Common.{length}
use Rattle.cove_base.specs.Text.{text_lines}
use Rattle.cove_model.specs.Grammar.{lines_read, opening_reading}
use Rattle.cove_script.proofs.LoopOverLines.{Goes}
use Rattle.cove_script.proofs.parsing.parse_lines.Given as goal

abbrev pub invariant-loop-number : goal.invariant-loop-number
invariant-loop-number l =
    Goes (length l.text) (lines_read opening_reading 1 (text_lines l.text)) l.reading l.next l.number-iterator
