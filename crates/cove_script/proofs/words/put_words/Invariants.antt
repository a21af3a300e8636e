use Rattle.std.proofs.Common.{◌≡◌, ◌++◌}
use Rattle.cove_base.specs.Text.{text_words}
use Rattle.cove_script.specs.Judging.{plain_words}
use Rattle.cove_script.proofs.words.put_words.Given as goal

abbrev pub invariant-loop-word : goal.invariant-loop-word
invariant-loop-word l = plain_words l.words.items ++ l.word-iterator ≡ text_words l.line
