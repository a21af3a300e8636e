use Rattle.std.proofs.Common.{◌≡◌, map, take}
use Rattle.std.specs.List.{list_all}
use Rattle.cove_model.specs.Grammar.{is_number, value}
use Rattle.cove_script.specs.Judging.{plain_words}
use Rattle.cove_script.proofs.words.put_numbers.Given as goal

abbrev pub invariant-loop-word : goal.invariant-loop-word
invariant-loop-word l =
    (l.numbers.items ≡ map value (plain_words (take l.word-index l.words))) × (l.all ≡ list_all is_number (plain_words (take l.word-index l.words)))
