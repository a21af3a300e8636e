-- The first line and the first word of a text, by the place of the first byte that ends it.
use Rattle.std.proofs.Common.{◌≡◌, ℕ, suc, ◌+◌, ◌<◌, ◌≤◌, Bool, true, false, not, List, [], ◌∷◌, ◌++◌, length, take, drop, get_or, Some, None, position, unwrap_or, refl, sym, ◌∙◌, ap, inl, inr, arith}
use Rattle.std.specs.List.{list_all, position_or_len}
use Rattle.std.proofs.lemmas.Bool.{and_parts, cases_Bool, not-false, not-true, not_from_false}
use Rattle.std.proofs.lemmas.Bool.Decides.{nat_tests}
use Rattle.std.proofs.lemmas.List.{append-nil, append_assoc, drop_more, get_or-take, length-take, take-append-drop}
use Rattle.std.proofs.lemmas.List.Quantifiers.{position-Some}
use Rattle.std.proofs.lemmas.List.Recursion.{and_from_places}
use Rattle.std.proofs.lemmas.List.Sums.{fails_before_first, prefix_len-le-length}
use Rattle.cove_base.proofs.JoinedWords.{is_line_byte, lines_from-front}
use Rattle.cove_base.specs.Text.{is_blank, is_line_end, text_lines, text_words, words_from, nonempty_piece}

one-add : (n : ℕ) → 1 + n ≡ suc n
one-add n = omega arith

-- where `position` finds no place
position-none : {X : Type 0} (p : X → Bool) (xs : List X) → None ≡ position p xs → length xs ≤ position_or_len p xs
position-none p xs e = grind (arith, nat_tests)

-- a test that passes at each place before one passes for all that stands before it
all_before : (p : ℕ → Bool) (xs : List ℕ) (n : ℕ) → ((k : ℕ) → k < n → p (get_or xs k 0) ≡ true) → list_all p (take n xs) ≡ true
all_before p xs n each =
    and_from_places (list_all p) p refl (λ _ _. refl) (take n xs) 0 (λ k low.
    let below : k < n = omega (arith, low, length-take n xs) in rw (get_or-take n xs k 0 below) (each k below))

-- and for all, where `position` finds no place of another test
all_of : (p q : ℕ → Bool) → ((x : ℕ) → q x ≡ false → p x ≡ true) → (xs : List ℕ) → None ≡ position q xs → list_all p xs ≡ true
all_of p q turned xs e =
    and_from_places (list_all p) p refl (λ _ _. refl) xs 0 (λ k low. turned _ (fails_before_first q xs k 0 (omega (arith, low, position-none q xs e))))

-- a word ends at the first blank
words_from-at : (piece xs : List ℕ)
    → words_from piece xs
    ≡ nonempty_piece (piece ++ take (position_or_len is_blank xs) xs)
    ++ words_from [] (drop (position_or_len is_blank xs) xs)
words_from-at piece [] = rw (append-nil piece) (sym (append-nil (nonempty_piece piece)))
words_from-at piece (x ∷ xs) =
    elim (cases_Bool (is_blank x)) [
      | inl ends ↦ rw ends (rw (append-nil piece) (rw ends refl))
      | inr goes_on ↦ rw (goes_on, one-add) (simp append_assoc at (words_from-at (piece ++ x ∷ []) xs))
    ]

-- no word begins in blanks
words_from-blanks : (blanks rest : List ℕ) → list_all is_blank blanks ≡ true → words_from [] (blanks ++ rest) ≡ words_from [] rest
words_from-blanks [] rest all = refl
words_from-blanks (x ∷ blanks) rest all =
    let parts = and_parts (is_blank x) (list_all is_blank blanks) all in rw parts.0 (words_from-blanks blanks rest parts.1)

-- the first line of a text, where `position` found its end
pub text_lines-at : (xs : List ℕ) (end : ℕ) → Some end ≡ position is_line_end xs
    → text_lines xs ≡ take end xs ∷ text_lines (drop (end + 1) xs)
text_lines-at xs end e =
    let found = position-Some is_line_end xs end 0 (sym e) in
    ap text_lines (sym (take-append-drop end xs) ∙ ap (λ (l : List ℕ). take end xs ++ l) (drop_more xs end 0 found.0))
    ∙ lines_from-front [] (take end xs) (get_or xs end 0 ∷ drop (end + 1) xs) (all_before is_line_byte xs end (λ k low. not_from_false _ (found.2 k low)))
    ∙ rw found.1 refl

-- and where it found none
pub text_lines-none : (xs : List ℕ) → None ≡ position is_line_end xs → 0 < length xs → text_lines xs ≡ xs ∷ []
text_lines-none [] e some = absurd (omega arith)
text_lines-none (x ∷ xs) e some =
    ap text_lines (sym (append-nil (x ∷ xs)))
    ∙ lines_from-front [] (x ∷ xs) [] (all_of is_line_byte is_line_end (λ b. not_from_false (is_line_end b)) (x ∷ xs) e)

-- what `position` gives, or the end
pub unwrap_or-position : {X : Type 0} (p : X → Bool) (xs : List X) → unwrap_or (position p xs) (length xs) ≡ position_or_len p xs
unwrap_or-position p xs = grind (arith, nat_tests, prefix_len-le-length)

-- the first word of a line, where `position` found its first byte
pub text_words-first : (xs : List ℕ) (start : ℕ) → Some start ≡ position (λ byte. not (is_blank byte)) xs
    → text_words xs
    ≡ take (position_or_len is_blank (drop start xs)) (drop start xs)
    ∷ text_words (drop (position_or_len is_blank (drop start xs)) (drop start xs))
text_words-first xs start e =
    let found = position-Some (λ byte. not (is_blank byte)) xs start 0 (sym e) in
    ap text_words (sym (take-append-drop start xs))
    ∙ words_from-blanks (take start xs) (drop start xs) (all_before is_blank xs start (λ k low. not-false _ (found.2 k low)))
    ∙ rw (drop_more xs start 0 found.0, not-true _ found.1, one-add) (words_from-at (get_or xs start 0 ∷ []) (drop (start + 1) xs))

-- and where it found none
pub text_words-none : (xs : List ℕ) → None ≡ position (λ byte. not (is_blank byte)) xs → text_words xs ≡ []
text_words-none xs e =
    ap text_words (sym (append-nil xs))
    ∙ words_from-blanks xs [] (all_of is_blank (λ byte. not (is_blank byte)) (λ b. not-false (is_blank b)) xs e)
