use Rattle.std.proofs.Common.{◌≡◌, ℕ, [], ◌∷◌, slice_index, refl, ap, ◌∙◌}
use Rattle.cove_model.specs.Examples.{loaded}
use Rattle.cove_model.specs.Played.{played}
use Rattle.cove_model.specs.ScriptExamples.{two_fills}
use Rattle.cove_model.specs.States.{opening_words}
use Rattle.cove_model.specs.Types.{Walk}
use Rattle.cove_model.proofs.script_examples.worked_scripts.Goals as goal

-- the word where the two fills lie
filled_word : slice_index (opening_words two_fills.fills 4) 0 ≡ 0x3311
unfolding opening_words
filled_word = refl

played_with : played 2 two_fills ≡ loaded 0 0x4000 Walk (slice_index (opening_words two_fills.fills 4) 0) ∷ []
unfolding played
played_with = refl

pub returns-clause-later_fill_wins : goal.returns-clause-later_fill_wins
returns-clause-later_fill_wins c = played_with ∙ ap (λ (word : ℕ). loaded 0 0x4000 Walk word ∷ []) filled_word
