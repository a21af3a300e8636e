-- The meanings of text at worked rows.
use Rattle.std.specs.Prelude.{◌≡◌, refl, true, false, [], ◌∷◌, ◌++◌, Some, None, negsuc, codes}
use Rattle.cove_base.specs.declared.calls.HostCall.TheVariants.{Convert, Measured}
use Rattle.cove_base.specs.CallWords.{call_of, call_text, is_call_word}
use Rattle.cove_base.specs.Text.{text_lines, text_words}
use Rattle.cove_base.specs.Numbers.{number_of, hex_of, number_text, decimal_text, natural_text, hex_text}

words_are_split : text_words (codes " 0  convert 0x4000 12") ≡ codes "0" ∷ codes "convert" ∷ codes "0x4000" ∷ codes "12" ∷ []
words_are_split = refl

blanks_are_no_words : text_words (9 ∷ 13 ∷ 32 ∷ []) ≡ []
blanks_are_no_words = refl

lines_are_split : text_lines (codes "board 1 1 0" ++ 10 ∷ 10 ∷ codes "end") ≡ codes "board 1 1 0" ∷ [] ∷ codes "end" ∷ []
lines_are_split = refl

last_line_is_ended : text_lines (codes "end" ++ 10 ∷ []) ≡ codes "end" ∷ []
last_line_is_ended = refl

hex_is_read : number_of (codes "0xFfFfFfFfFfFfFfFf") ≡ Some 18446744073709551615
hex_is_read = refl

decimal_is_read : number_of (codes "18446744073709551615") ≡ Some 18446744073709551615
decimal_is_read = refl

zeros_are_read : number_of (codes "007") ≡ Some 7
zeros_are_read = refl

upper_case_prefix_is_refused : number_of (codes "0X1") ≡ None
upper_case_prefix_is_refused = refl

bare_prefix_is_refused : number_of (codes "0x") ≡ None
bare_prefix_is_refused = refl

seventeen_hex_digits_are_refused : number_of (codes "0x00000000000000001") ≡ None
seventeen_hex_digits_are_refused = refl

large_decimal_is_refused : number_of (codes "18446744073709551616") ≡ None
large_decimal_is_refused = refl

long_decimal_is_refused : number_of (codes "000000000000000000001") ≡ None
long_decimal_is_refused = refl

empty_word_is_refused : number_of [] ≡ None
empty_word_is_refused = refl

hex_word_is_read : hex_of (codes "6F000000") ≡ Some (0x6f ∷ 0 ∷ 0 ∷ 0 ∷ [])
hex_word_is_read = refl

odd_hex_word_is_refused : hex_of (codes "6f0") ≡ None
odd_hex_word_is_refused = refl

bad_hex_word_is_refused : hex_of (codes "6g") ≡ None
bad_hex_word_is_refused = refl

number_is_written : number_text 18364758544493064720 ≡ codes "0xfedcba9876543210"
number_is_written = refl

zero_is_written : number_text 0 ≡ codes "0x0"
zero_is_written = refl

natural_is_written : natural_text 18446744073709551615 ≡ codes "18446744073709551615"
natural_is_written = refl

negative_is_written : decimal_text (negsuc 7) ≡ codes "-8"
negative_is_written = refl

bytes_are_written : hex_text (0 ∷ 0x6f ∷ 255 ∷ []) ≡ codes "006fff"
bytes_are_written = refl

script_is_split : text_lines (codes "board 16 1 0" ++ 10 ∷ codes "key 000000000000000000000000000000000000000000000000000000000000000000000000000000" ++ 10 ∷ codes "fill 0x1000 6f0000006f0000006f0000006f0000006f0000006f0000006f0000006f0000006f000000" ++ 10 ∷ codes "0 convert 0x4000 12" ++ 10 ∷ codes "end" ++ 10 ∷ []) ≡ codes "board 16 1 0" ∷ codes "key 000000000000000000000000000000000000000000000000000000000000000000000000000000" ∷ codes "fill 0x1000 6f0000006f0000006f0000006f0000006f0000006f0000006f0000006f0000006f000000" ∷ codes "0 convert 0x4000 12" ∷ codes "end" ∷ []
script_is_split = refl

call_is_read : call_of (codes "convert") (16384 ∷ 12 ∷ []) ≡ Some (Convert 16384 12)
call_is_read = refl

short_call_is_refused : call_of (codes "convert") (16384 ∷ []) ≡ None
short_call_is_refused = refl

unknown_word_is_refused : call_of (codes "fly") [] ≡ None
unknown_word_is_refused = refl

call_is_written : call_text (Measured 1 0x1000 0xb000 1 0x10000) ≡ codes "measured 0x1 0x1000 0xb000 0x1 0x10000"
call_is_written = refl

word_is_known : is_call_word (codes "inject") ≡ true
word_is_known = refl

word_is_unknown : is_call_word (codes "ld") ≡ false
word_is_unknown = refl
