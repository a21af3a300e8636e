-- Numbers and bytes are written as words.
use Rattle.std.proofs.Common.{◌≡◌, ℕ, suc, ◌<◌, ◌≤◌, true, List, [], ◌∷◌, length, map, get_or, refl, arith}
use Rattle.std.specs.List.{list_all}
use Rattle.std.specs.Char.{digit_char, is_digit}
use Rattle.std.proofs.lemmas.Bool.{and_from, le-leb}
use Rattle.std.proofs.lemmas.Bool.Decides.{nat_tests}
use Rattle.std.proofs.lemmas.List.{length-map}
use Rattle.cove_base.specs.Numbers.{hex_text, natural_text, number_text, shortest_digits}
use Rattle.cove_base.proofs.JoinedWords.{is_word, is_word_byte}
use Rattle.cove_base.proofs.ScriptLimits.{all_weaker}
use Rattle.cove_text.proofs.HexDigits.{length-hex_text, list_all-hex_text}
use Rattle.cove_text.proofs.Numerals.{length-shortest_digits, list_all-shortest_digits}

list_all-digits : (base : ℕ) (digits : List ℕ) → base ≤ 16 → list_all (λ digit. is_digit digit base) digits ≡ true → list_all is_word_byte digits ≡ true
list_all-digits base digits small all = all_weaker (λ digit. is_digit digit base) is_word_byte (λ digit e. grind (arith, nat_tests)) digits all

pub is_word-number_text : (n : ℕ) → is_word (number_text n) ≡ true
is_word-number_text n =
    let digits = map digit_char (shortest_digits 16 n) in
    and_from _ _ (le-leb 1 (suc (suc (length digits))) (omega arith))
    (list_all-digits 16 digits (omega arith) (list_all-shortest_digits 16 n (omega arith) (omega arith)))

pub is_word-numbers : (ns : List ℕ) → list_all is_word (map number_text ns) ≡ true
is_word-numbers [] = refl
is_word-numbers (n ∷ ns) = and_from _ _ (is_word-number_text n) (is_word-numbers ns)

pub is_word-natural_text : (n : ℕ) → is_word (natural_text n) ≡ true
is_word-natural_text n =
    let digits = map digit_char (shortest_digits 10 n) in
    let some = length-shortest_digits 10 n (omega arith) in
    let len = length-map (shortest_digits 10 n) digit_char in
    and_from _ _ (le-leb 1 (length digits) (omega (arith, some, len)))
    (list_all-digits 10 digits (omega arith) (list_all-shortest_digits 10 n (omega arith) (omega arith)))

pub is_word-hex_text : (bytes : List ℕ) → 0 < length bytes → ((i : ℕ) → get_or bytes i 0 < 256) → is_word (hex_text bytes) ≡ true
is_word-hex_text bytes some small =
    and_from _ _ (le-leb 1 (length (hex_text bytes)) (omega (arith, some, length-hex_text bytes)))
    (list_all-digits 16 (hex_text bytes) (omega arith) (list_all-hex_text bytes small))
