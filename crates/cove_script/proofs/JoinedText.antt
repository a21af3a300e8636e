-- The text of lines of words is split into the same lines and words.
use Rattle.std.proofs.Common.{◌≡◌, ℕ, ◌+◌, true, List, [], ◌∷◌, Ok, refl, ap, ◌∙◌, append_assoc, arith}
use Rattle.std.specs.List.{list_all}
use Rattle.std.proofs.lemmas.Bool.Decides.{nat_tests}
use Rattle.cove_base.proofs.JoinedWords.{is_word, is_word_byte, joined_in_line, joined_pass, lines_from-front, text_words-joined}
use Rattle.cove_base.specs.Scripts.{ScriptValue}
use Rattle.cove_base.specs.Text.{text_lines}
use Rattle.cove_model.specs.Grammar.{Reading, Word, is_text_byte, words_read, line_read, lines_read}
use Rattle.cove_model.specs.ScriptText.{words_text, lines_text}

is_text : (b : ℕ) → is_word_byte b ≡ true → is_text_byte b ≡ true
is_text b e = grind (arith, nat_tests)

-- a line of words is read as those words
line_read-words_text : (R : Reading) (first : Word) (words : List Word) → list_all is_word (first ∷ words) ≡ true → line_read R (words_text first words) ≡ words_read R (first ∷ words)
unfolding line_read
line_read-words_text R first words all =
    let split = text_words-joined (first ∷ words) all in
    rw (joined_pass is_text_byte refl is_text (first ∷ words) all) (ap (λ (ws : List Word). words_read R ws) split)

-- ---- lines of words

-- the text of these lines, read on, makes this script
abbrev pub Spells : Reading → List (List Word) → ScriptValue → Type 0
Spells R lines script = (number : ℕ) → lines_read R number (text_lines (lines_text lines)) ≡ Ok script

pub Spells-cons : (R S : Reading) (first : Word) (words : List Word) (lines : List (List Word)) (script : ScriptValue) → list_all is_word (first ∷ words) ≡ true
    → words_read R (first ∷ words) ≡ Ok S → Spells S lines script → Spells R ((first ∷ words) ∷ lines) script
Spells-cons R S first words lines script all e rest = λ number.
    let split : text_lines (lines_text ((first ∷ words) ∷ lines)) ≡ words_text first words ∷ text_lines (lines_text lines) =
    ap text_lines (append_assoc (words_text first words) (10 ∷ []) (lines_text lines))
    ∙ lines_from-front [] (words_text first words) (10 ∷ lines_text lines) (joined_in_line (first ∷ words) all) in
    let read : line_read R (words_text first words) ≡ Ok S = line_read-words_text R first words all ∙ e in
    ap (λ (ls : List (List ℕ)). lines_read R number ls) split ∙ rw read (rest (number + 1))
