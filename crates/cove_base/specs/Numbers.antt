use Rattle.std.specs.Prelude.{ℕ, zero, suc, ◌+◌, ◌*◌, ◌/◌, ◌%◌, ◌^◌, ℤ, pos, negsuc, Bool, true, false, ◌==◌, ◌&&◌, not, nat_lt, nat_le, nat_eq, List, [], ◌∷◌, ◌++◌, length, map, drop, Option, Some, None, if◌then◌else◌, codes}
use Rattle.std.specs.List.{list_all, starts_with}
use Rattle.std.specs.Char.{digit_value, digit_char, is_digit}
use Rattle.std.specs.Str.Parse.{digits_value}

-- one to `most` digits of a base, of a value below 2 ^ 64
abbrev pub is_numeral : (base most : ℕ) → List ℕ → Bool
is_numeral base most digits =
    nat_le 1 (length digits) && nat_le (length digits) most
    && list_all (λ digit. is_digit digit base) digits
    && nat_lt (digits_value base digits) (2 ^ 64)

-- the value of a numeral
abbrev pub value_of_numeral : (base most : ℕ) → List ℕ → Option ℕ
value_of_numeral base most digits = if is_numeral base most digits then Some (digits_value base digits) else None

-- the number that a word writes: `0x` and 1 to 16 hex digits of either case, or 1 to 20 decimal digits
abbrev pub number_of : List ℕ → Option ℕ
number_of word =
    if starts_with nat_eq word (codes "0x") then value_of_numeral 16 16 (drop 2 word) else value_of_numeral 10 20 word

-- a number of a u64
abbrev pub is_u64 : ℕ → Bool
is_u64 n = nat_lt n (2 ^ 64)

-- a number of a u8
abbrev pub is_u8 : ℕ → Bool
is_u8 n = nat_lt n 256

-- a hex digit of either case
abbrev pub is_hex_digit : ℕ → Bool
is_hex_digit digit = is_digit digit 16

-- an odd number of digits
abbrev pub is_odd : List ℕ → Bool
is_odd digits = length digits % 2 == 1

-- the bytes of pairs of hex digits, the high four bits first
abbrev pub bytes_of_hex : List ℕ → List ℕ
bytes_of_hex [] = []
bytes_of_hex (digit ∷ []) = []
bytes_of_hex (high ∷ low ∷ digits) = (16 * digit_value high + digit_value low) ∷ bytes_of_hex digits

-- the bytes that a word of hex digits writes, where their number is even
abbrev pub hex_of : List ℕ → Option (List ℕ)
hex_of word = if not (is_odd word) && list_all is_hex_digit word then Some (bytes_of_hex word) else None

-- the digits of a number in a base, the highest first, where as many divisions are enough
abbrev pub digits_within : (divisions base n : ℕ) → List ℕ
digits_within zero base n = n ∷ []
digits_within (suc divisions) base n =
    elim (nat_lt n base) [ true ↦ n ∷ [] | false ↦ digits_within divisions base (n / base) ++ (n % base ∷ []) ]

-- the digits of a number in a base of 2 or more, the highest first: no 0 in front, and one digit at least
abbrev pub shortest_digits : (base n : ℕ) → List ℕ
shortest_digits base n = digits_within n base n

-- a number in decimal
abbrev pub natural_text : ℕ → List ℕ
natural_text n = map digit_char (shortest_digits 10 n)

-- a number in lower-case hex, after `0x`
abbrev pub number_text : ℕ → List ℕ
number_text n = codes "0x" ++ map digit_char (shortest_digits 16 n)

-- a number in decimal, after `-` below 0
abbrev pub decimal_text : ℤ → List ℕ
decimal_text (pos n) = natural_text n
decimal_text (negsuc n) = codes "-" ++ natural_text (suc n)

-- bytes in hex, two lower-case digits for each
abbrev pub hex_text : List ℕ → List ℕ
hex_text [] = []
hex_text (byte ∷ bytes) = digit_char (byte / 16) ∷ digit_char (byte % 16) ∷ hex_text bytes
