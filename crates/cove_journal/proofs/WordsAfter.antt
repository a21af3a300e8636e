-- Words after a text, each after a space.
use Rattle.std.proofs.Common.{◌≡◌, ℕ, List, [], ◌∷◌, ◌++◌, flat_map, refl, sym, ◌∙◌}
use Rattle.std.proofs.lemmas.List.{append-nil, append_assoc}
use Rattle.cove_base.specs.Text.{joined, spaced}
use Rattle.cove_journal.specs.Lines.{words_after}

pub words_after-is : (text : List ℕ) (words : List (List ℕ)) → words_after text words ≡ text ++ flat_map spaced words
words_after-is text [] = sym (append-nil text)
words_after-is text (word ∷ words) = words_after-is (text ++ spaced word) words ∙ append_assoc text (spaced word) (flat_map spaced words)

pub words_after-append : (text : List ℕ) (xs ys : List (List ℕ)) → words_after text (xs ++ ys) ≡ words_after (words_after text xs) ys
words_after-append text [] ys = refl
words_after-append text (x ∷ xs) ys = words_after-append (text ++ spaced x) xs ys

-- joined words after a space
pub words_after-joined : (text first : List ℕ) (words : List (List ℕ)) → (text ++ 32 ∷ []) ++ joined (first ∷ words) ≡ words_after text (first ∷ words)
words_after-joined text first words = append_assoc text (32 ∷ []) (joined (first ∷ words)) ∙ sym (words_after-is text (first ∷ words))
