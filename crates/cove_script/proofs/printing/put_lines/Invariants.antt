use Rattle.std.proofs.Common.{◌≡◌, ◌++◌, drop}
use Rattle.cove_model.specs.ScriptText.{body_words, lines_text}
use Rattle.cove_script.proofs.printing.put_lines.Given as goal

-- the text so far and that of the lines that are left are the whole
abbrev pub invariant-loop-script_line : goal.invariant-loop-script_line
invariant-loop-script_line l =
    l.out ++ lines_text (body_words l.phase (drop l.script_line-index l.lines)) ≡ l.fn.out ++ lines_text (body_words 0 l.lines)
