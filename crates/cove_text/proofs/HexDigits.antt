-- Bytes as hex digits: how they are written, and that they are read back.
use Rattle.std.proofs.Common.{◌≡◌, ◌≢◌, ℕ, suc, ◌+◌, ◌*◌, ◌/◌, ◌%◌, ◌<◌, ◌≤◌, true, false, ◌&&◌, List, [], ◌∷◌, ◌++◌, length, take, drop, get_or, Some, refl, sym, ◌∙◌, ap, arith}
use Rattle.std.specs.List.{list_all}
use Rattle.std.specs.Char.{digit_char, digit_value}
use Rattle.std.proofs.lemmas.Bool.{and_from, and_parts, eqb-false, ne_eqb}
use Rattle.std.proofs.lemmas.List.{append_assoc, append-nil, drop_more, drop_all, take_more}
use Rattle.cove_base.specs.Numbers.{bytes_of_hex, hex_of, hex_text, is_hex_digit, is_odd}
use Rattle.cove_text.proofs.Numerals.{digit_value-digit_char, is_digit-digit_char}

-- ---- what is written

pub length-hex_text : (bytes : List ℕ) → length (hex_text bytes) ≡ 2 * length bytes
length-hex_text [] = refl
length-hex_text (byte ∷ bytes) = omega (arith, length-hex_text bytes)

pub hex_text-append : (xs ys : List ℕ) → hex_text (xs ++ ys) ≡ hex_text xs ++ hex_text ys
hex_text-append [] ys = refl
hex_text-append (x ∷ xs) ys = ap (λ (ds : List ℕ). digit_char (x / 16) ∷ digit_char (x % 16) ∷ ds) (hex_text-append xs ys)

pub hex_text-more : (bytes : List ℕ) (i : ℕ) (before : List ℕ) → i < length bytes
    → ((before ++ hex_text (take i bytes)) ++ (digit_char (get_or bytes i 0 / 16) ∷ [])) ++ (digit_char (get_or bytes i 0 % 16) ∷ [])
    ≡ before ++ hex_text (take (i + 1) bytes)
hex_text-more bytes i before within = rw (take_more bytes i 0 within, hex_text-append) (simp append_assoc)

-- ---- what is read

-- the bytes that were read, and the digits that are left
pub record IsReadSoFar (word : List ℕ) (i : ℕ) (bytes : List ℕ) : Type 0 where
  pub same : bytes ++ bytes_of_hex (drop (2 * i) word) ≡ bytes_of_hex word
  pub digits : list_all is_hex_digit (drop (2 * i) word) ≡ list_all is_hex_digit word

next_pair : (word : List ℕ) (i : ℕ) → i < length word / 2
    → drop (2 * i) word ≡ get_or word (2 * i) 0 ∷ get_or word (2 * i + 1) 0 ∷ drop (2 * (i + 1)) word
next_pair word i within =
    let same : 2 * i + 1 + 1 ≡ 2 * (i + 1) = omega arith in
    rw (drop_more word (2 * i) 0 (omega arith), drop_more word (2 * i + 1) 0 (omega arith), same) refl

pub IsReadSoFar-more : (word : List ℕ) (i : ℕ) (bytes : List ℕ) (byte : ℕ) → i < length word / 2
    → IsReadSoFar word i bytes
    → (is_hex_digit (get_or word (2 * i) 0) && is_hex_digit (get_or word (2 * i + 1) 0)) ≡ true
    → byte ≡ 16 * digit_value (get_or word (2 * i) 0) + digit_value (get_or word (2 * i + 1) 0)
    → IsReadSoFar word (i + 1) (bytes ++ byte ∷ [])
IsReadSoFar-more word i bytes byte within so_far good is =
    let next = next_pair word i within in
    let digits = and_parts (is_hex_digit (get_or word (2 * i) 0)) (is_hex_digit (get_or word (2 * i + 1) 0)) good in
    record {
      same = append_assoc bytes (byte ∷ []) (bytes_of_hex (drop (2 * (i + 1)) word))
          ∙ ap (λ (b : ℕ). bytes ++ b ∷ bytes_of_hex (drop (2 * (i + 1)) word)) is
          ∙ ap (λ (ds : List ℕ). bytes ++ bytes_of_hex ds) (sym next)
          ∙ so_far.same;
      digits =
          let kept : list_all is_hex_digit (drop (2 * i) word) ≡ list_all is_hex_digit (drop (2 * (i + 1)) word) = rw (next, digits.0, digits.1) refl in
          sym kept ∙ so_far.digits;
    }

pub hex_of-read : (word : List ℕ) (i : ℕ) (bytes : List ℕ) → is_odd word ≡ false → length word / 2 ≤ i
    → IsReadSoFar word i bytes → hex_of word ≡ Some bytes
hex_of-read word i bytes even past so_far =
    let even_length : length word % 2 ≢ 1 = eqb-false (length word % 2) 1 even in
    let none : drop (2 * i) word ≡ [] = drop_all (2 * i) word (omega (arith, even_length)) in
    let all : list_all is_hex_digit word ≡ true = sym so_far.digits ∙ ap (list_all is_hex_digit) none in
    let same : bytes ≡ bytes_of_hex word = sym (append-nil bytes) ∙ sym (ap (λ (ds : List ℕ). bytes ++ bytes_of_hex ds) none) ∙ so_far.same in
    rw (even, all) (ap Some (sym same))

-- ---- what was written is read back

pub list_all-hex_text : (bytes : List ℕ) → ((i : ℕ) → get_or bytes i 0 < 256) → list_all is_hex_digit (hex_text bytes) ≡ true
list_all-hex_text [] small = refl
list_all-hex_text (byte ∷ bytes) small =
    let fits : byte < 256 = small 0 in
    and_from _ _ (is_digit-digit_char 16 (byte / 16) (omega arith) (omega arith))
    (and_from _ _ (is_digit-digit_char 16 (byte % 16) (omega arith) (omega arith)) (list_all-hex_text bytes (λ i. small (suc i))))

bytes_of_hex-hex_text : (bytes : List ℕ) → ((i : ℕ) → get_or bytes i 0 < 256) → bytes_of_hex (hex_text bytes) ≡ bytes
bytes_of_hex-hex_text [] small = refl
bytes_of_hex-hex_text (byte ∷ bytes) small =
    let fits : byte < 256 = small 0 in
    let whole : 16 * (byte / 16) + byte % 16 ≡ byte = omega arith in
    rw (digit_value-digit_char (byte / 16) (omega arith), digit_value-digit_char (byte % 16) (omega arith), bytes_of_hex-hex_text bytes (λ i. small (suc i)))
    (ap (λ (b : ℕ). b ∷ bytes) whole)

pub hex_of-hex_text : (bytes : List ℕ) → ((i : ℕ) → get_or bytes i 0 < 256) → hex_of (hex_text bytes) ≡ Some bytes
hex_of-hex_text bytes small =
    let even : is_odd (hex_text bytes) ≡ false = ne_eqb (length (hex_text bytes) % 2) 1 (λ e. omega (arith, e, length-hex_text bytes)) in
    rw (even, list_all-hex_text bytes small, bytes_of_hex-hex_text bytes small) refl
