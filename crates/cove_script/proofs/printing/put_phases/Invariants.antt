use Rattle.std.proofs.Common.{◌≡◌, ◌++◌, replicate}
use Rattle.cove_model.specs.ScriptText.{phase_words, lines_text}
use Rattle.cove_script.proofs.printing.put_phases.Given as goal

abbrev pub invariant-loop : goal.invariant-loop
invariant-loop l = l.out ≡ l.fn.out ++ lines_text (replicate l.counter phase_words)
