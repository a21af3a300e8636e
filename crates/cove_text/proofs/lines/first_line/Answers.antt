use Rattle.std.proofs.Common.{◌+◌, arith}
use Rattle.std.proofs.lemmas.List.{take_rest}
use Rattle.cove_text.proofs.Splits.{text_lines-at, text_lines-none}
use Rattle.cove_text.proofs.lines.first_line.Goals as goal

pub returns-in-Some-clause-lines : goal.returns-in-Some-clause-lines
returns-in-Some-clause-lines c =
    rw (take_rest c.args.text.now (c.in-Some.end + 1)) (text_lines-at c.args.text.now c.in-Some.end c.in-Some.ensures)

pub returns-in-None-clause-lines : goal.returns-in-None-clause-lines
returns-in-None-clause-lines c = text_lines-none c.args.text.now c.in-None.ensures (grind arith)
