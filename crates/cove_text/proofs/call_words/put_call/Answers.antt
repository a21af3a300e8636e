use Rattle.std.proofs.Common.{◌≡◌, ℕ, List, ◌++◌, map, flat_map, ap, sym, ◌∙◌}
use Rattle.std.proofs.lemmas.List.{append_assoc}
use Rattle.std.proofs.lemmas.List.Folds.{flat_map-map}
use Rattle.cove_base.specs.CallWords.{arguments, word_of}
use Rattle.cove_base.specs.Numbers.{number_text}
use Rattle.cove_base.specs.Text.{spaced}
use Rattle.cove_text.proofs.call_words.put_call.Goals as goal

spoken_text : (before word : List ℕ) (ns : List ℕ)
    → (before ++ word) ++ flat_map (λ n. spaced (number_text n)) ns ≡ before ++ (word ++ flat_map spaced (map number_text ns))
spoken_text before word ns =
    append_assoc before word (flat_map (λ n. spaced (number_text n)) ns)
    ∙ ap (λ (t : List ℕ). before ++ (word ++ t)) (sym (flat_map-map spaced number_text ns))

pub returns-clause-text : goal.returns-clause-text
returns-clause-text c =
    rw (c.put_numbers.ensures.text, c.as_slice.ensures.value, c.arguments_of.ensures.arguments, c.put_bytes.ensures, c.word_of.ensures) (spoken_text c.args.out.now (word_of c.args.call.now) (arguments c.args.call.now))
