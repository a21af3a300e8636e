-- What is written of a number, or of bytes, is a word that is read back.
use Rattle.std.proofs.Common.{◌≡◌, ℕ, ◌^◌, ◌<◌, true, nat_le, nat_lt, List, [], ◌∷◌, length, map, slice_index, Option, Some, is_some, unwrap_or, refl, ap, ◌∙◌}
use Rattle.std.specs.List.{list_all}
use Rattle.std.proofs.lemmas.Bool.{and_parts, and_from, leb-true, ltb-true}
use Rattle.cove_base.specs.Numbers.{number_of, number_text, natural_text, hex_text}
use Rattle.cove_text.proofs.JoinedWords.{is_word-hex_text, is_word-natural_text, is_word-number_text}
use Rattle.cove_text.proofs.Numerals.{number_of-number_text, number_of-natural_text}
use Rattle.cove_text.proofs.HexDigits.{hex_of-hex_text}
use Rattle.cove_model.specs.Grammar.{Word, is_number, value, bytes_of, is_hex, are_numbers}
use Rattle.cove_base.proofs.JoinedWords.{is_word}

-- ---- one number

-- a word that writes a number
pub record Writes (word : Word) (n : ℕ) : Type 0 where
  pub printed : is_word word ≡ true
  pub number : is_number word ≡ true
  pub meaning : value word ≡ n

writes : (word : Word) (n : ℕ) → is_word word ≡ true → number_of word ≡ Some n → Writes word n
unfolding is_number value
writes word n printed e = record {
  printed = printed;
  number = ap is_some e;
  meaning = ap (λ (o : Option ℕ). unwrap_or o 0) e;
}

pub number_text_writes : (n : ℕ) → n < 2 ^ 64 → Writes (number_text n) n
number_text_writes n small = writes (number_text n) n (is_word-number_text n) (number_of-number_text n small)

pub natural_text_writes : (n : ℕ) → n < 2 ^ 64 → Writes (natural_text n) n
natural_text_writes n small = writes (natural_text n) n (is_word-natural_text n) (number_of-natural_text n small)

-- ---- several numbers

-- words that write numbers
pub record WriteAll (words : List Word) (numbers : List ℕ) : Type 0 where
  pub printed : list_all is_word words ≡ true
  pub number : are_numbers words ≡ true
  pub meaning : map value words ≡ numbers

pub write_all : (text : ℕ → Word) (limit : ℕ) → ((n : ℕ) → n < limit → Writes (text n) n) → (numbers : List ℕ) → list_all (λ n. nat_lt n limit) numbers ≡ true → WriteAll (map text numbers) numbers
write_all text limit each [] small = record { printed = refl; number = refl; meaning = refl }
write_all text limit each (n ∷ numbers) small =
    let p = and_parts (nat_lt n limit) (list_all (λ m. nat_lt m limit) numbers) small in
    let one : Writes (text n) n = each n (ltb-true n limit p.0) in
    let others : WriteAll (map text numbers) numbers = write_all text limit each numbers p.1 in
    record {
      printed = and_from _ _ one.printed others.printed;
      number = and_from _ _ one.number others.number;
      meaning = rw (one.meaning, others.meaning) refl;
    }

-- ---- bytes

-- a word that writes bytes
pub record WritesBytes (word : Word) (bytes : List ℕ) : Type 0 where
  pub printed : is_word word ≡ true
  pub hex : is_hex word ≡ true
  pub meaning : bytes_of word ≡ bytes

pub hex_text_writes : (bytes : List ℕ) → nat_le 1 (length bytes) ≡ true → ((i : ℕ) → slice_index bytes i < 256) → WritesBytes (hex_text bytes) bytes
unfolding bytes_of
hex_text_writes bytes some fit =
    let meaning : bytes_of (hex_text bytes) ≡ bytes = ap (λ (o : Option (List ℕ)). unwrap_or o []) (hex_of-hex_text bytes fit) in
    record {
      printed = is_word-hex_text bytes (leb-true 1 (length bytes) some) fit;
      hex = ap (λ (bs : List ℕ). nat_le 1 (length bs)) meaning ∙ some;
      meaning = meaning;
    }
