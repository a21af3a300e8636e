use Rattle.std.proofs.Common.{◌≡◌, ◌++◌, map, take}
use Rattle.cove_model.specs.ScriptText.{fill_words, lines_text}
use Rattle.cove_script.proofs.printing.put_fills.Given as goal

abbrev pub invariant-loop-fill : goal.invariant-loop-fill
invariant-loop-fill l = l.out ≡ l.fn.out ++ lines_text (map fill_words (take l.fill-index l.fills))
