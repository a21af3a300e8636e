-- Bytes that were written in hex are read back.
use Rattle.std.proofs.Common.{◌≡◌, ◌==◌, sym, ℕ, zero, suc, ◌/◌, ◌%◌, ◌^◌, ◌<◌, true, false, List, [], ◌∷◌, length, get_or, Some, option_map, codes, bytes_eq, refl, ap, ◌∙◌, arith}
use Rattle.std.specs.Char.{digit_char}
use Rattle.std.specs.Int.{bytes_high_first, from_be_bytes, to_be_bytes, w64}
use Rattle.std.specs.List.{list_all}
use Rattle.std.specs.Result.{result_ok}
use Rattle.std.proofs.lemmas.Bool.{agree_below_at, and_parts, eqb-true, false_from_ne_true, ltb-true}
use Rattle.std.proofs.lemmas.Nat.{from_be_bytes-to_be_bytes_8}
use Rattle.std.proofs.lemmas.Slice.Eq.{bytes_eq-Decides}
use Rattle.cove_base.specs.EventWords.{word_text}
use Rattle.hex.specs.Hex.{decode_sized, encode_lower, encode_with, lower_digits}
use Rattle.hex.proofs.HexLemmas.{decode_sized-encode_lower}
use Rattle.cove_base.specs.Numbers.{hex_text, is_u8, is_u64}
use Rattle.cove_journal.specs.Reading.{memory_word_of, quote_of}

lower_digit : (d : ℕ) → d < 16 → get_or lower_digits d 0 ≡ digit_char d
lower_digit d small = eqb-true _ _ (agree_below_at (λ n. get_or lower_digits n 0 == digit_char n) (λ _. true) 16 d refl small)

encode_lower-is : (bytes : List ℕ) → ((k : ℕ) → get_or bytes k 0 < 256) → encode_lower bytes ≡ hex_text bytes
unfolding encode_with
encode_lower-is [] small = refl
encode_lower-is (byte ∷ bytes) small =
    let fits : byte < 256 = small 0 in
    rw (lower_digit (byte / 16) (omega arith), lower_digit (byte % 16) (omega arith), encode_lower-is bytes (λ k. small (suc k))) refl

pub decode_sized-hex_text : (bytes : List ℕ) (n : ℕ) → length bytes ≡ n → ((k : ℕ) → get_or bytes k 0 < 256)
    → result_ok (decode_sized (hex_text bytes) n) ≡ Some bytes
decode_sized-hex_text bytes n len small =
    ap (λ (text : List ℕ). result_ok (decode_sized text n)) (sym (encode_lower-is bytes small)) ∙ ap result_ok (decode_sized-encode_lower bytes n len small)

-- the bytes of a quote are read back
pub quote_is_read : (quote : List ℕ) → length quote ≡ 360 → ((k : ℕ) → get_or quote k 0 < 256) → quote_of (hex_text quote) ≡ Some quote
quote_is_read quote len small = decode_sized-hex_text quote 360 len small

pub bytes_are_small : (bytes : List ℕ) → list_all is_u8 bytes ≡ true → (k : ℕ) → get_or bytes k 0 < 256
bytes_are_small [] all k = omega arith
bytes_are_small (byte ∷ bytes) all zero = ltb-true byte 256 (and_parts (is_u8 byte) (list_all is_u8 bytes) all).0
bytes_are_small (byte ∷ bytes) all (suc k) = bytes_are_small bytes (and_parts (is_u8 byte) (list_all is_u8 bytes) all).1 k

-- ---- words of memory

byte_at-small : (k n : ℕ) → get_or (bytes_high_first (suc k) n) 0 0 < 256
byte_at-small zero n = omega arith
byte_at-small (suc k) n = omega arith

bytes_high_first-small : (k n i : ℕ) → get_or (bytes_high_first k n) i 0 < 256
bytes_high_first-small zero n i = omega arith
bytes_high_first-small (suc k) n zero = byte_at-small k n
bytes_high_first-small (suc k) n (suc i) = bytes_high_first-small k n i

pub word_bytes_are_small : (n k : ℕ) → get_or (to_be_bytes w64 n) k 0 < 256
word_bytes_are_small n k = bytes_high_first-small 8 n k

pub memory_word_is_read : (value : ℕ) → is_u64 value ≡ true → memory_word_of (word_text value) ≡ Some value
memory_word_is_read value fits =
    ap (option_map (from_be_bytes w64)) (decode_sized-hex_text (to_be_bytes w64 value) 8 refl (word_bytes_are_small value))
    ∙ ap Some (from_be_bytes-to_be_bytes_8 value (ltb-true value (2 ^ 64) fits))

-- a word of memory is not `fault`
pub memory_word_is_no_fault : (value : ℕ) → bytes_eq (word_text value) (codes "fault") ≡ false
memory_word_is_no_fault value =
    false_from_ne_true (bytes_eq (word_text value) (codes "fault"))
    (λ e. let same : word_text value ≡ codes "fault" = (bytes_eq-Decides (word_text value) (codes "fault")).0 e in
    let lengths : 16 ≡ 5 = ap length same in
    omega arith)
