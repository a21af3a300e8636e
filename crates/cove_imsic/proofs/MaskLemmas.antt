-- What the operations on masks do to the sets.
use Rattle.std.proofs.Common.{◌≡◌, ◌≢◌, ◌<◌, ◌≤◌, ℕ, ◌*◌, ◌-◌, ◌%◌, ◌^◌, Bool, true, false, ◌⊎◌, inl, inr, min, refl, sym, ◌∙◌, ap, arith}
use Rattle.std.specs.Prelude.{◌==◌, ◌&&◌, ◌||◌, not, nat_lt, bit_or, bit_and}
use Rattle.std.specs.Int.{w64, bit_at, bit_not, trailing_zeros}
use Rattle.std.proofs.lemmas.Bool.{le-ltb, lt-ltb}
use Rattle.std.proofs.lemmas.Bool.Decides.{eqb_tells, leb_tells}
use Rattle.std.proofs.lemmas.Nat.{and_le_l, mod_below, pow_below, or_lt}
use Rattle.std.proofs.lemmas.Nat.Bits.{bit_at-lt, bit_at-zero, bit_at_lowest, bit_at_and, bit_at_set_same, bit_at_set_other, bit_at_clear_same, bit_at_clear_other, bit_at_ones, bit_at_ones_above, bit_at-trailing_zeros}
use Rattle.cove_base.specs.InterruptFiles.{InterruptFile, has_id, is_signalled, set_of_mask, those, top}
use Rattle.cove_imsic.specs.Masks.{IsMask}
use Rattle.cove_imsic.proofs.SetLemmas.{has-those, least-is, least-none, those-same}

-- a mask with one more bit
abbrev pub with_bit : (mask id : ℕ) → ℕ
with_bit mask id = bit_or mask (1 * 2 ^ id % 2 ^ 64)

-- a mask with one bit less
abbrev pub without_bit : (mask id : ℕ) → ℕ
without_bit mask id = bit_and mask (bit_not w64 (1 * 2 ^ id % 2 ^ 64))

-- an identity is in a mask's set where its bit is set
pub has-mask : (mask i : ℕ) → 1 ≤ i → i < 64 → has_id (set_of_mask mask) i ≡ (bit_at mask i == 1)
has-mask mask i above below = has-those (λ id. bit_at mask id == 1) i above below

pub IsMask-with_bit : (mask id : ℕ) → 1 ≤ id → id ≤ 63 → IsMask mask → IsMask (with_bit mask id)
IsMask-with_bit mask id above below was = record {
  fits = or_lt 64 mask (1 * 2 ^ id % 2 ^ 64) was.fits (mod_below (1 * 2 ^ id) (2 ^ 64) (omega arith));
  no_bit_0 =
      sym (bit_at_lowest (with_bit mask id)) ∙ bit_at_set_other w64 mask id (omega arith) 0 (omega arith) ∙ bit_at_lowest mask ∙ was.no_bit_0;
}

pub set-with_bit : (mask id : ℕ) → 1 ≤ id → id ≤ 63
    → set_of_mask (with_bit mask id) ≡ those (λ other. (other == id) || has_id (set_of_mask mask) other)
set-with_bit mask id above below = those-same _ _ each
  where
    each : (i : ℕ) → 1 ≤ i → i < 64 → (bit_at (with_bit mask id) i == 1) ≡ ((i == id) || has_id (set_of_mask mask) i)
    each i from to =
        elim (eqb_tells i id) [
          | inl same ↦
              let bit : bit_at (with_bit mask id) i ≡ 1 = ap (bit_at (with_bit mask id)) same.1 ∙ bit_at_set_same w64 mask id (omega arith) in
              rw (bit, same.0)
          | inr other ↦
              let bit : bit_at (with_bit mask id) i ≡ bit_at mask i = bit_at_set_other w64 mask id (omega arith) i other.1 in
              rw (bit, other.0) (sym (has-mask mask i from to))
        ]

pub IsMask-without_bit : (mask id : ℕ) → 1 ≤ id → id < 64 → IsMask mask → IsMask (without_bit mask id)
IsMask-without_bit mask id above below was = record {
  fits = let small = and_le_l mask (bit_not w64 (1 * 2 ^ id % 2 ^ 64)) in let fits' = was.fits in omega arith;
  no_bit_0 =
      sym (bit_at_lowest (without_bit mask id)) ∙ bit_at_clear_other w64 mask id (omega arith) 0 (omega arith) (omega arith) ∙ bit_at_lowest mask ∙ was.no_bit_0;
}

and_false : (b : Bool) → false ≡ (b && false)
and_false true = refl
and_false false = refl

and_true : (b : Bool) → b ≡ (b && true)
and_true true = refl
and_true false = refl

pub set-without_bit : (mask id : ℕ) → 1 ≤ id → id < 64
    → set_of_mask (without_bit mask id) ≡ those (λ other. has_id (set_of_mask mask) other && not (other == id))
set-without_bit mask id above below = those-same _ _ each
  where
    each : (i : ℕ) → 1 ≤ i → i < 64 → (bit_at (without_bit mask id) i == 1) ≡ (has_id (set_of_mask mask) i && not (i == id))
    each i from to =
        elim (eqb_tells i id) [
          | inl same ↦
              let bit : bit_at (without_bit mask id) i ≡ 0 = ap (bit_at (without_bit mask id)) same.1 ∙ bit_at_clear_same w64 mask id (omega arith) in
              rw (bit, same.0) (and_false (has_id (set_of_mask mask) i))
          | inr other ↦
              let bit : bit_at (without_bit mask id) i ≡ bit_at mask i = bit_at_clear_other w64 mask id (omega arith) i (omega arith) other.1 in
              rw (bit, other.0) (sym (has-mask mask i from to) ∙ and_true (has_id (set_of_mask mask) i))
        ]

-- where nothing is signalled, no identity is claimed
pub set-without_none : (mask : ℕ) → set_of_mask mask ≡ those (λ other. has_id (set_of_mask mask) other && not (other == 0))
set-without_none mask = those-same _ _ each
  where
    each : (i : ℕ) → 1 ≤ i → i < 64 → (bit_at mask i == 1) ≡ (has_id (set_of_mask mask) i && not (i == 0))
    each i from to =
        elim (eqb_tells i 0) [
          | inl same ↦ absurd (let zero' : i ≡ 0 = same.1 in omega arith)
          | inr other ↦ rw other.0 (sym (has-mask mask i from to) ∙ and_true (has_id (set_of_mask mask) i))
        ]

bit_cases : (a : ℕ) → a < 2 → (a ≡ 0) ⊎ (a ≡ 1)
bit_cases a below =
    elim (eqb_tells a 1) [ inl one ↦ inr one.1 | inr other ↦ let not_one : a ≢ 1 = other.1 in inl (omega arith) ]

min_one : (a b : ℕ) → a < 2 → b < 2 → (min a b == 1) ≡ ((a == 1) && (b == 1))
min_one a b below below' =
    elim (bit_cases a below) [
      | inl none ↦ rw (none)
          (elim (bit_cases b below') [ inl none' ↦ rw none' | inr one' ↦ rw one' ])
      | inr one ↦ rw (one)
          (elim (bit_cases b below') [ inl none' ↦ rw none' | inr one' ↦ rw one' ])
    ]

-- the identities of three masks
pub bit_at-three : (p e s i : ℕ) → (bit_at (bit_and (bit_and p e) s) i == 1) ≡ ((bit_at p i == 1) && (bit_at e i == 1) && (bit_at s i == 1))
bit_at-three p e s i =
    ap (λ n. n == 1) (bit_at_and (bit_and p e) s i)
    ∙ min_one (bit_at (bit_and p e) i) (bit_at s i) (bit_at-lt (bit_and p e) i) (bit_at-lt s i)
    ∙ ap (λ b. b && (bit_at s i == 1)) (ap (λ n. n == 1) (bit_at_and p e i) ∙ min_one (bit_at p i) (bit_at e i) (bit_at-lt p i) (bit_at-lt e i))

-- the identities that a threshold does not hide
abbrev pub Shows : (s threshold : ℕ) → Type 0
Shows s threshold = (id : ℕ) → id < 64 → (bit_at s id == 1) ≡ ((threshold == 0) || nat_lt id threshold)

-- which bits of three masks are set, in the words of a file
pub signalled-bit : (p e s t : ℕ) (file : InterruptFile) → file.pending ≡ set_of_mask p → file.enabled ≡ set_of_mask e → file.threshold ≡ t → Shows s t
    → (i : ℕ) → 1 ≤ i → i < 64 → is_signalled file i ≡ (bit_at (bit_and (bit_and p e) s) i == 1)
signalled-bit p e s t file pending enabled hides shows i above below =
    rw (pending, enabled, hides, has-mask p i above below, has-mask e i above below, ← shows i below) (sym (bit_at-three p e s i))

pub top-none : (p e s t : ℕ) (file : InterruptFile) → file.pending ≡ set_of_mask p → file.enabled ≡ set_of_mask e → file.threshold ≡ t → Shows s t
    → bit_and (bit_and p e) s ≡ 0 → top file ≡ 0
top-none p e s t file pending enabled hides shows none =
    least-none (is_signalled file) (λ k above below.
    signalled-bit p e s t file pending enabled hides shows k above below
    ∙ ap (λ n. n == 1) (ap (λ w. bit_at w k) none ∙ bit_at-zero k))

pub top-trailing_zeros : (p e s t : ℕ) (file : InterruptFile) → file.pending ≡ set_of_mask p → file.enabled ≡ set_of_mask e → file.threshold ≡ t → Shows s t
    → p % 2 ≡ 0 → 0 < bit_and (bit_and p e) s → bit_and (bit_and p e) s < 2 ^ 64
    → (top file ≡ trailing_zeros w64 (bit_and (bit_and p e) s)) × (1 ≤ trailing_zeros w64 (bit_and (bit_and p e) s)) × (trailing_zeros w64 (bit_and (bit_and p e) s) < 64)
top-trailing_zeros p e s t file pending enabled hides shows even some fits = (is_top, positive, lowest.0)
  where
    w : ℕ
    w = bit_and (bit_and p e) s

    lowest : (trailing_zeros w64 (bit_and (bit_and p e) s) < 64) × (bit_at (bit_and (bit_and p e) s) (trailing_zeros w64 (bit_and (bit_and p e) s)) ≡ 1) × ((i : ℕ) → i < trailing_zeros w64 (bit_and (bit_and p e) s) → bit_at (bit_and (bit_and p e) s) i ≡ 0)
    lowest = bit_at-trailing_zeros w64 (bit_and (bit_and p e) s) some fits

    no_bit_0 : bit_at (bit_and (bit_and p e) s) 0 ≡ 0
    no_bit_0 =
        let whole = bit_at_and (bit_and p e) s 0 in
        let first = bit_at_and p e 0 in
        let low : bit_at p 0 ≡ 0 = bit_at_lowest p ∙ even in
        omega arith

    positive : 1 ≤ trailing_zeros w64 (bit_and (bit_and p e) s)
    positive =
        elim (eqb_tells (trailing_zeros w64 (bit_and (bit_and p e) s)) 0) [
          | inl same ↦
              let none : bit_at (bit_and (bit_and p e) s) (trailing_zeros w64 (bit_and (bit_and p e) s)) ≡ 0 = ap (bit_at (bit_and (bit_and p e) s)) same.1 ∙ no_bit_0 in
              let one : bit_at (bit_and (bit_and p e) s) (trailing_zeros w64 (bit_and (bit_and p e) s)) ≡ 1 = lowest.1 in
              absurd (omega arith)
          | inr other ↦ let above : trailing_zeros w64 (bit_and (bit_and p e) s) ≢ 0 = other.1 in omega arith
        ]

    is_top : top file ≡ trailing_zeros w64 (bit_and (bit_and p e) s)
    is_top = least-is (is_signalled file) (trailing_zeros w64 (bit_and (bit_and p e) s)) positive lowest.0
        (signalled-bit p e s t file pending enabled hides shows _ positive lowest.0 ∙ ap (λ n. n == 1) lowest.1)
        (λ k above below. signalled-bit p e s t file pending enabled hides shows k above (let fits' = lowest.0 in omega arith) ∙ ap (λ n. n == 1) (lowest.2 k below))

or_true : (b : Bool) → true ≡ (b || true)
or_true true = refl
or_true false = refl

-- `2 ^ t - 1`, as it is computed, shows what is below t
pub shows_below : (t : ℕ) → t < 64 → t ≢ 0 → Shows (1 * 2 ^ t % 2 ^ 64 - 1) t
shows_below t below some id fits = ap (λ n. bit_at n id == 1) mask ∙ bit
  where
    mask : 1 * 2 ^ t % 2 ^ 64 - 1 ≡ 2 ^ t - 1
    mask = let fits' = pow_below t 64 below in omega arith

    not_zero : (t == 0) ≡ false
    not_zero = elim (eqb_tells t 0) [ inl same ↦ absurd (some same.1) | inr other ↦ other.0 ]

    bit : (bit_at (2 ^ t - 1) id == 1) ≡ ((t == 0) || nat_lt id t)
    bit =
        elim (leb_tells t id) [
          | inl above ↦ ap (λ n. n == 1) (bit_at_ones_above t id above.1) ∙ sym (ap (λ b. b || nat_lt id t) not_zero ∙ le-ltb id t above.1)
          | inr under ↦ ap (λ n. n == 1) (bit_at_ones t id under.1) ∙ or_true (t == 0) ∙ sym (ap (λ b. (t == 0) || b) (lt-ltb id t under.1))
        ]

pub shows_all : Shows (2 ^ 64 - 1) 0
shows_all id below = ap (λ n. n == 1) (bit_at_ones 64 id below)

-- a mask whose bit 0 was cleared has the same set
pub set-even : (v : ℕ) → set_of_mask (bit_and v (bit_not w64 1)) ≡ set_of_mask v
set-even v = those-same _ _ (λ i above below. ap (λ n. n == 1) (bit_at_clear_other w64 v 0 (omega arith) i below (omega arith)))

-- and is a mask
pub IsMask-even : (v : ℕ) → v < 2 ^ 64 → IsMask (bit_and v (bit_not w64 1))
IsMask-even v fits' = record {
  fits = let small = and_le_l v (bit_not w64 1) in omega arith;
  no_bit_0 = sym (bit_at_lowest (bit_and v (bit_not w64 1))) ∙ bit_at_clear_same w64 v 0 (omega arith);
}
