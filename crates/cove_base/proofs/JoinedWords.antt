-- Words with one space between are split into the same words, and ended lines into the same lines.
use Rattle.std.proofs.Common.{◌≡◌, ℕ, Bool, true, false, not, ◌&&◌, nat_le, nat_lt, List, [], ◌∷◌, ◌++◌, length, flat_map, refl, ap, ◌∙◌, arith}
use Rattle.std.specs.List.{list_all}
use Rattle.std.proofs.lemmas.Bool.{and_parts, and_from, not-true}
use Rattle.std.proofs.lemmas.Bool.Decides.{nat_tests}
use Rattle.std.proofs.lemmas.List.{append-nil, append_assoc}
use Rattle.std.proofs.lemmas.List.Folds.{list_all-append}
use Rattle.cove_base.proofs.ScriptLimits.{all_weaker}
use Rattle.cove_base.specs.Text.{is_blank, is_line_end, joined, lines_from, nonempty_piece, spaced, text_lines, text_words, words_from}

-- a printing character, which parts neither words nor lines
abbrev pub is_word_byte : ℕ → Bool
is_word_byte byte = nat_le 33 byte && nat_lt byte 127

-- at least one such character
abbrev pub is_word : List ℕ → Bool
is_word word = nat_le 1 (length word) && list_all is_word_byte word

-- a byte that ends no line
abbrev pub is_line_byte : ℕ → Bool
is_line_byte byte = not (is_line_end byte)

-- ---- words of a line

no_blank : (byte : ℕ) → is_word_byte byte ≡ true → is_blank byte ≡ false
no_blank byte e = grind (arith, nat_tests)

pub words_from-word : (piece word rest : List ℕ) → list_all is_word_byte word ≡ true → words_from piece (word ++ rest) ≡ words_from (piece ++ word) rest
words_from-word piece [] rest all = rw append-nil refl
words_from-word piece (byte ∷ word) rest all =
    let parts = and_parts (is_word_byte byte) (list_all is_word_byte word) all in
    let goes_on = no_blank byte parts.0 in
    rw goes_on (words_from-word (piece ++ byte ∷ []) word rest parts.1 ∙ ap (λ (p : List ℕ). words_from p rest) (append_assoc piece (byte ∷ []) word))

nonempty_piece-some : (piece : List ℕ) → nat_le 1 (length piece) ≡ true → nonempty_piece piece ≡ piece ∷ []
nonempty_piece-some [] some = absurd cc
nonempty_piece-some (byte ∷ piece) some = refl

words_from-spaced : (piece : List ℕ) (words : List (List ℕ)) → nat_le 1 (length piece) ≡ true → list_all is_word words ≡ true
    → words_from piece (flat_map spaced words) ≡ piece ∷ words
words_from-spaced piece [] some all = nonempty_piece-some piece some
words_from-spaced piece (word ∷ words) some all =
    let parts = and_parts (is_word word) (list_all is_word words) all in
    let is = and_parts (nat_le 1 (length word)) (list_all is_word_byte word) parts.0 in
    let rest : words_from [] (word ++ flat_map spaced words) ≡ word ∷ words =
    words_from-word [] word (flat_map spaced words) is.1 ∙ words_from-spaced word words is.0 parts.1 in
    rw (nonempty_piece-some piece some, rest) refl

pub text_words-joined : (words : List (List ℕ)) → list_all is_word words ≡ true → text_words (joined words) ≡ words
text_words-joined [] all = refl
text_words-joined (first ∷ words) all =
    let parts = and_parts (is_word first) (list_all is_word words) all in
    let is = and_parts (nat_le 1 (length first)) (list_all is_word_byte first) parts.0 in
    words_from-word [] first (flat_map spaced words) is.1 ∙ words_from-spaced first words is.0 parts.1

-- ---- lines of a text

-- bytes that end no line are of one line
pub lines_from-front : (piece front rest : List ℕ) → list_all is_line_byte front ≡ true → lines_from piece (front ++ rest) ≡ lines_from (piece ++ front) rest
lines_from-front piece [] rest all = rw append-nil refl
lines_from-front piece (byte ∷ front) rest all =
    let parts = and_parts (is_line_byte byte) (list_all is_line_byte front) all in
    rw (not-true (is_line_end byte) parts.0)
    (lines_from-front (piece ++ byte ∷ []) front rest parts.1 ∙ ap (λ (p : List ℕ). lines_from p rest) (append_assoc piece (byte ∷ []) front))

pub text_lines-ended : (lines : List (List ℕ)) → list_all (list_all is_line_byte) lines ≡ true → text_lines (flat_map (λ line. line ++ 10 ∷ []) lines) ≡ lines
text_lines-ended [] all = refl
text_lines-ended (line ∷ lines) all =
    let parts = and_parts (list_all is_line_byte line) (list_all (list_all is_line_byte) lines) all in
    ap text_lines (append_assoc line (10 ∷ []) (flat_map (λ l. l ++ 10 ∷ []) lines))
    ∙ lines_from-front [] line (10 ∷ flat_map (λ l. l ++ 10 ∷ []) lines) parts.0
    ∙ ap (λ (others : List (List ℕ)). line ∷ others) (text_lines-ended lines parts.1)

word_byte_in_line : (byte : ℕ) → is_word_byte byte ≡ true → is_line_byte byte ≡ true
word_byte_in_line byte e = grind (arith, nat_tests)

-- what holds of a space and of each byte of words holds of each byte of the words joined
module _ (p : ℕ → Bool) (space : p 32 ≡ true) (each : (byte : ℕ) → is_word_byte byte ≡ true → p byte ≡ true) where
  spaced_pass : (words : List (List ℕ)) → list_all is_word words ≡ true → list_all p (flat_map spaced words) ≡ true
  spaced_pass [] all = refl
  spaced_pass (word ∷ words) all =
      let parts = and_parts (is_word word) (list_all is_word words) all in
      let is = and_parts (nat_le 1 (length word)) (list_all is_word_byte word) parts.0 in
      and_from _ _ space (list_all-append p word (flat_map spaced words) ∙ and_from _ _ (all_weaker is_word_byte p each word is.1) (spaced_pass words parts.1))

  pub joined_pass : (words : List (List ℕ)) → list_all is_word words ≡ true → list_all p (joined words) ≡ true
  joined_pass [] all = refl
  joined_pass (first ∷ words) all = (and_parts (p 32) (list_all p (joined (first ∷ words))) (spaced_pass (first ∷ words) all)).1

-- words joined end no line
pub joined_in_line : (words : List (List ℕ)) → list_all is_word words ≡ true → list_all is_line_byte (joined words) ≡ true
joined_in_line words all = joined_pass is_line_byte refl word_byte_in_line words all
