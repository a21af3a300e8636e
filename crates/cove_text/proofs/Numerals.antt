-- The digits of a number: how they are written, and that they are read back.
use Rattle.std.proofs.Common.{◌≡◌, ℕ, zero, suc, ◌+◌, ◌*◌, ◌/◌, ◌%◌, ◌^◌, ◌<◌, ◌≤◌, true, false, ◌&&◌, List, [], ◌∷◌, ◌++◌, length, map, take, get_or, Some, None, nat_le, nat_lt, nat_eq, codes, refl, sym, ◌∙◌, ap, inl, inr, arith}
use Rattle.std.specs.List.{list_all, starts_with}
use Rattle.std.specs.Char.{digit_char, digit_value, is_digit}
use Rattle.std.specs.Str.Parse.{digits_value}
use Rattle.std.proofs.Math.Nat.{div-lt_self, mod-eq_of_lt, pow-suc, pow-zero, one-mul}
use Rattle.std.proofs.lemmas.Bool.{cond-false, cases_lt, ltb-true, lt-ltb, le-ltb, le-leb, and_parts, and_from, and_right, false_from_ne_true}
use Rattle.std.proofs.lemmas.Int.Digits.{digits_value_push, digits_value_more}
use Rattle.std.proofs.lemmas.List.{map_push, length_push, length-map, append_assoc, take_all, take_more}
use Rattle.std.proofs.lemmas.List.Folds.{list_all-append}
use Rattle.std.proofs.lemmas.List.Sums.{AllPass-from_list_all}
use Rattle.std.proofs.lemmas.Bool.Decides.{nat_tests}
use Rattle.std.proofs.lemmas.Nat.{div-add-mod', div_below, mod_below}
use Rattle.std.proofs.lemmas.Str.Parse.{digits_value-take-le}
use Rattle.cove_base.specs.Numbers.{digits_within, shortest_digits, number_text, natural_text, is_numeral, value_of_numeral, number_of}

-- ---- the digits of a number

-- a number below the base is its one digit
digits_within-last : (divisions base n : ℕ) → n < base → digits_within divisions base n ≡ n ∷ []
digits_within-last zero base n below = refl
digits_within-last (suc divisions) base n below = rw (lt-ltb n base below, digits_within) refl

-- another number's last digit is its remainder
digits_within-more : (divisions base n : ℕ) → base ≤ n
    → digits_within (suc divisions) base n ≡ digits_within divisions base (n / base) ++ (n % base ∷ [])
digits_within-more divisions base n large = rw (le-ltb n base large, digits_within) refl

-- more divisions than are enough change nothing
digits_within-enough : (base f g n : ℕ) → 2 ≤ base → n ≤ f → n ≤ g → digits_within f base n ≡ digits_within g base n
digits_within-enough base zero g n two p q = sym (digits_within-last g base n (omega arith))
digits_within-enough base (suc f) zero n two p q = digits_within-last (suc f) base n (omega arith)
digits_within-enough base (suc f) (suc g) n two p q =
    elim (cases_lt n base) [
      | inl last ↦ digits_within-last (suc f) base n last ∙ sym (digits_within-last (suc g) base n last)
      | inr large ↦
          let less : n / base < n = div-lt_self {n = n} {k = base} (omega arith) (omega arith) in
          rw (digits_within-more f base n large, digits_within-more g base n large)
          (ap (λ (ds : List ℕ). ds ++ (n % base ∷ [])) (digits_within-enough base f g (n / base) two (omega arith) (omega arith)))
    ]

-- a number below the base is its one digit
pub shortest_digits-last : (base n : ℕ) → n < base → shortest_digits base n ≡ n ∷ []
shortest_digits-last base n below = digits_within-last n base n below

-- another number's last digit is its remainder
pub shortest_digits-more : (base n : ℕ) → 2 ≤ base → base ≤ n
    → shortest_digits base n ≡ shortest_digits base (n / base) ++ (n % base ∷ [])
shortest_digits-more base zero two large = absurd (omega arith)
shortest_digits-more base (suc n) two large =
    let less : suc n / base < suc n = div-lt_self {n = suc n} {k = base} (omega arith) (omega arith) in
    digits_within-more n base (suc n) large
    ∙ ap (λ (ds : List ℕ). ds ++ (suc n % base ∷ [])) (digits_within-enough base n (suc n / base) (suc n / base) two (omega arith) (omega arith))

-- what holds of one digit, and of one more digit behind those of which it holds, holds of the digits of each number
module _ (base : ℕ) (two : 2 ≤ base) (P : ℕ → List ℕ → Type 0) (last : (n : ℕ) → n < base → P n (n ∷ []))
    (more : (n : ℕ) (ds : List ℕ) → base ≤ n → P (n / base) ds → P n (ds ++ n % base ∷ [])) where
  by_most : (most n : ℕ) → n ≤ most → P n (shortest_digits base n)
  by_most zero n few = rw (shortest_digits-last base n (omega arith)) (last n (omega arith))
  by_most (suc most) n few =
      elim (cases_lt n base) [
        | inl below ↦ rw (shortest_digits-last base n below) (last n below)
        | inr large ↦
            let less : n / base < n = div-lt_self {n = n} {k = base} (omega arith) (omega arith) in
            rw (shortest_digits-more base n two large) (more n _ large (by_most most (n / base) (omega arith)))
      ]

  by_digits : (n : ℕ) → P n (shortest_digits base n)
  by_digits n = by_most n n (omega arith)

-- ---- the digit of a value reads as that value

pub digit_value-digit_char : (d : ℕ) → d < 16 → digit_value (digit_char d) ≡ d
digit_value-digit_char d below = grind arith

pub is_digit-digit_char : (base d : ℕ) → d < base → base ≤ 16 → is_digit (digit_char d) base ≡ true
is_digit-digit_char base d below small = rw (digit_value-digit_char d (omega arith)) (lt-ltb d base below)

-- ---- what is written

digits_value-written : (base n : ℕ) → 2 ≤ base → base ≤ 16 → digits_value base (map digit_char (shortest_digits base n)) ≡ n
digits_value-written base n two small =
    by_digits base two (λ m ds. digits_value base (map digit_char ds) ≡ m)
    (λ m below. rw (digit_value-digit_char m (omega arith)) (omega arith))
    (λ m ds large is.
    let below : m % base < base = mod_below m base (omega arith) in
    rw (map_push, digits_value_push, is, digit_value-digit_char (m % base) (omega arith)) (div-add-mod' m base)) n

one_digit : (base n : ℕ) → n < base → base ≤ 16 → list_all (λ digit. is_digit digit base) (digit_char n ∷ []) ≡ true
one_digit base n below small = and_from _ _ (is_digit-digit_char base n below small) refl

-- and each of them is a digit
pub list_all-shortest_digits : (base n : ℕ) → 2 ≤ base → base ≤ 16
    → list_all (λ digit. is_digit digit base) (map digit_char (shortest_digits base n)) ≡ true
list_all-shortest_digits base n two small =
    by_digits base two (λ m ds. list_all (λ digit. is_digit digit base) (map digit_char ds) ≡ true) (λ m below. one_digit base m below small)
    (λ m ds large all. rw (map_push, list_all-append) (and_from _ _ all (one_digit base (m % base) (mod_below m base (omega arith)) small))) n

length_more : (base n k : ℕ) (ds : List ℕ) → 2 ≤ base → base ≤ n → ((j : ℕ) → n / base < base ^ suc j → length ds ≤ suc j) → n < base ^ suc k
    → length (ds ++ n % base ∷ []) ≤ suc k
length_more base n zero ds two large short small =
    absurd (let below : n < base = rw (pow-suc base 0, pow-zero base, one-mul base) at small in omega arith)
length_more base n (suc k) ds two large short small =
    let product : n < base ^ suc k * base = rw (pow-suc base (suc k)) at small in
    let rest = short k (div_below n base (base ^ suc k) (omega arith) product) in
    rw length_push (omega arith)

-- a number below a power of the base has no more digits than the power's exponent
pub length-shortest_digits-le : (base n k : ℕ) → 2 ≤ base → n < base ^ suc k → length (shortest_digits base n) ≤ suc k
length-shortest_digits-le base n k two small =
    by_digits base two (λ m ds. (j : ℕ) → m < base ^ suc j → length ds ≤ suc j) (λ m below j few. omega arith)
    (λ m ds large short j few. length_more base m j ds two large short few) n k small

-- and has a digit
pub length-shortest_digits : (base n : ℕ) → 2 ≤ base → 0 < length (shortest_digits base n)
length-shortest_digits base n two =
    by_digits base two (λ m ds. 0 < length ds) (λ m below. omega arith) (λ m ds large some. rw length_push (omega arith)) n

pub length-shortest_digits-more : (base n : ℕ) → 2 ≤ base → base ≤ n
    → length (shortest_digits base n) ≡ length (shortest_digits base (n / base)) + 1
length-shortest_digits-more base n two large = ap length (shortest_digits-more base n two large) ∙ length_push _ _

-- the text of a number, its last digit apart
pub text-more : (base n : ℕ) (before : List ℕ) → 2 ≤ base → base ≤ n
    → (before ++ map digit_char (shortest_digits base (n / base))) ++ (digit_char (n % base) ∷ [])
    ≡ before ++ map digit_char (shortest_digits base n)
text-more base n before two large = rw (shortest_digits-more base n two large, map_push) (append_assoc before _ _)

pub text-last : (base n : ℕ) (before : List ℕ) → 2 ≤ base → n < base
    → before ++ (digit_char (n % base) ∷ []) ≡ before ++ map digit_char (shortest_digits base n)
text-last base n before two below = rw (shortest_digits-last base n below, mod-eq_of_lt {n = n} {m = base} below) refl

-- ---- what is read

-- a numeral has its value
pub value_of_numeral-some : (base most : ℕ) (digits : List ℕ) → 0 < length digits → length digits ≤ most
    → list_all (λ digit. is_digit digit base) digits ≡ true → digits_value base digits < 2 ^ 64
    → value_of_numeral base most digits ≡ Some (digits_value base digits)
value_of_numeral-some base most digits some few all small =
    rw (le-leb 1 (length digits) some, le-leb (length digits) most few, all, lt-ltb (digits_value base digits) (2 ^ 64) small) refl

-- a word with a digit that is none, or a front that is too large, is no numeral
pub value_of_numeral-bad : (base most : ℕ) (digits : List ℕ) (i value : ℕ) → 1 ≤ base → i < length digits
    → value ≡ digits_value base (take i digits)
    → ((digit_value (get_or digits i 0) < base) × (value * base + digit_value (get_or digits i 0) < 2 ^ 64) → ⊥)
    → value_of_numeral base most digits ≡ None
value_of_numeral-bad base most digits i value positive within same bad =
    cond-false (is_numeral base most digits) (Some (digits_value base digits)) None
    (false_from_ne_true (is_numeral base most digits) (λ e.
    let parts = and_parts _ (nat_lt (digits_value base digits) (2 ^ 64)) e in
    let all : list_all (λ d. is_digit d base) digits ≡ true = (and_parts (nat_le 1 (length digits) && nat_le (length digits) most) _ parts.0).1 in
    let below : digit_value (get_or digits i 0) < base = ltb-true _ base (AllPass-from_list_all (λ d. is_digit d base) digits all i 0 within) in
    let whole : digits_value base digits < 2 ^ 64 = ltb-true (digits_value base digits) (2 ^ 64) parts.1 in
    let front = digits_value-take-le base digits (i + 1) positive in
    let next : digits_value base (take (i + 1) digits) ≡ value * base + digit_value (get_or digits i 0) =
    digits_value_more base digits i within ∙ ap (λ (v : ℕ). v * base + digit_value (get_or digits i 0)) (sym same) in
    bad (below, omega (arith, front, next, whole))))

-- a value is that of the digits so far, which are digits
pub record IsValueSoFar (base : ℕ) (digits : List ℕ) (i value : ℕ) : Type 0 where
  pub same : value ≡ digits_value base (take i digits)
  pub all : list_all (λ digit. is_digit digit base) (take i digits) ≡ true
  pub fits : value < 2 ^ 64

pub IsValueSoFar-more : (base : ℕ) (digits : List ℕ) (i value next : ℕ) → i < length digits
    → IsValueSoFar base digits i value
    → (digit_value (get_or digits i 0) < base) × (value * base + digit_value (get_or digits i 0) < 2 ^ 64)
    → next ≡ value * base + digit_value (get_or digits i 0)
    → IsValueSoFar base digits (i + 1) next
IsValueSoFar-more base digits i value next within so_far digit same = record {
  same = same ∙ ap (λ (v : ℕ). v * base + digit_value (get_or digits i 0)) so_far.same ∙ sym (digits_value_more base digits i within);
  all = rw (take_more digits i 0 within, list_all-append)
      (and_from _ _ so_far.all (and_from (is_digit (get_or digits i 0) base) true (lt-ltb (digit_value (get_or digits i 0)) base digit.0) refl));
  fits = rw same digit.1;
}

pub value_of_numeral-end : (base most : ℕ) (digits : List ℕ) (i value : ℕ) → 0 < length digits → length digits ≤ most
    → length digits ≤ i → IsValueSoFar base digits i value
    → Some value ≡ value_of_numeral base most digits
value_of_numeral-end base most digits i value some few past so_far =
    let all = take_all i digits past in
    let same : value ≡ digits_value base digits = so_far.same ∙ ap (digits_value base) all in
    ap Some same
    ∙ sym (value_of_numeral-some base most digits some few (rw all at so_far.all) (rw (← same) so_far.fits))

-- ---- what was written is read back

written_is_read : (base most n k : ℕ) → 2 ≤ base → base ≤ 16 → n < base ^ suc k → suc k ≤ most → n < 2 ^ 64
    → value_of_numeral base most (map digit_char (shortest_digits base n)) ≡ Some n
written_is_read base most n k two small fits few bound =
    let same = digits_value-written base n two small in
    let len = length-map (shortest_digits base n) digit_char in
    value_of_numeral-some base most (map digit_char (shortest_digits base n))
    (omega (arith, len, length-shortest_digits base n two)) (omega (arith, len, length-shortest_digits-le base n k two fits))
    (list_all-shortest_digits base n two small) (rw same bound)
    ∙ ap Some same

pub number_of-number_text : (n : ℕ) → n < 2 ^ 64 → number_of (number_text n) ≡ Some n
number_of-number_text n bound = written_is_read 16 16 n 15 (omega arith) (omega arith) bound (omega arith) bound

-- decimal digits do not begin with `0x`
no_prefix : (digits : List ℕ) → list_all (λ digit. is_digit digit 10) digits ≡ true → starts_with nat_eq digits (codes "0x") ≡ false
no_prefix [] all = refl
no_prefix (a ∷ []) all = and_right (nat_eq 48 a) false refl
no_prefix (a ∷ b ∷ digits) all = grind (arith, nat_tests)

pub number_of-natural_text : (n : ℕ) → n < 2 ^ 64 → number_of (natural_text n) ≡ Some n
number_of-natural_text n bound =
    rw (no_prefix (natural_text n) (list_all-shortest_digits 10 n (omega arith) (omega arith)))
    (written_is_read 10 20 n 19 (omega arith) (omega arith) (omega arith) (omega arith) bound)

-- ---- room

pub length-number_text : (n : ℕ) → n < 2 ^ 64 → length (number_text n) ≤ 18
length-number_text n bound = omega (arith, length-map (shortest_digits 16 n) digit_char, length-shortest_digits-le 16 n 15 (omega arith) bound)

pub length-natural_text : (n : ℕ) → n < 2 ^ 64 → length (natural_text n) ≤ 20
length-natural_text n bound = omega (arith, length-map (shortest_digits 10 n) digit_char, length-shortest_digits-le 10 n 19 (omega arith) (omega arith))

pub length-hex_digits : (n : ℕ) → n < 2 ^ 64 → length (shortest_digits 16 n) ≤ 16
length-hex_digits n bound = length-shortest_digits-le 16 n 15 (omega arith) bound

-- the absolute value of a signed number of 64 bits
pub length-decimal_digits : (n : ℕ) → n ≤ 2 ^ 63 → length (shortest_digits 10 n) ≤ 19
length-decimal_digits n bound = length-shortest_digits-le 10 n 18 (omega arith) (omega arith)
