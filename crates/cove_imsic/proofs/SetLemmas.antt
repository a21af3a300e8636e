-- Sets of identities, by their tests and by their masks.
use Rattle.std.proofs.Common.{◌≡◌, ◌≢◌, ◌<◌, ◌≤◌, ℕ, zero, suc, ◌+◌, ◌*◌, ◌/◌, ◌%◌, ◌^◌, Bool, true, false, List, ◌∷◌, inl, inr, cond, eqb, refl, sym, ◌∙◌, ap, subst, arith, add-one}
use Rattle.std.specs.Prelude.{◌==◌, filter, find, sum_by, Some, None}
use Rattle.std.specs.Int.{bit_at}
use Rattle.std.specs.List.{range_with_len}
use Rattle.std.proofs.lemmas.Bool.Decides.{eqb_tells}
use Rattle.std.proofs.lemmas.Bool.{eq-eqb}
use Rattle.std.proofs.lemmas.List.Sums.{sum_by-cons}
use Rattle.std.proofs.lemmas.Nat.{pow_pos}
use Rattle.std.proofs.lemmas.Nat.Bits.{bit_at-lt}
use Rattle.std.proofs.Math.Arith.{mod-mul}
use Rattle.std.proofs.Math.Nat.{pow-suc, div-div-eq-div-mul, zero-mul}
use Rattle.cove_base.specs.InterruptFiles.{has_id, identities, least, mask_of_set, set_of_mask, those}

-- ---- numbers from a on that meet a test

pub filter-same : (p q : ℕ → Bool) (a n : ℕ) → ((i : ℕ) → a ≤ i → i < a + n → p i ≡ q i)
    → filter p (range_with_len a n) ≡ filter q (range_with_len a n)
filter-same p q a zero same = refl
filter-same p q a (suc n) same =
    let here : p a ≡ q a = same a (omega arith) (omega arith) in
    let rest : filter p (range_with_len (a + 1) n) ≡ filter q (range_with_len (a + 1) n) =
    filter-same p q (a + 1) n (λ i above below. same i (omega arith) (omega arith)) in
    rw (here, rest)

pub has-filter_below : (p : ℕ → Bool) (i a n : ℕ) → i < a → has_id (filter p (range_with_len a n)) i ≡ false
has-filter_below p i a zero below = refl
has-filter_below p i a (suc n) below =
    let rest : has_id (filter p (range_with_len (a + 1) n)) i ≡ false = has-filter_below p i (a + 1) n (omega arith) in
    let other : eqb a i ≡ false = grind arith in
    elim (p a) as (λ b. has_id (cond b (a ∷ filter p (range_with_len (a + 1) n)) (filter p (range_with_len (a + 1) n))) i ≡ false)
    [ true ↦ rw other rest | false ↦ rest ]

pub has-filter : (p : ℕ → Bool) (i a n : ℕ) → a ≤ i → i < a + n → has_id (filter p (range_with_len a n)) i ≡ p i
has-filter p i a zero above below = absurd (omega arith)
has-filter p i a (suc n) above below =
    elim (eqb_tells a i) as (λ _. has_id (filter p (range_with_len a (suc n))) i ≡ p i) [
      | inl same ↦ subst (λ j. has_id (filter p (range_with_len a (suc n))) j ≡ p j) same.1
          (elim (p a) as (λ b. has_id (cond b (a ∷ filter p (range_with_len (a + 1) n)) (filter p (range_with_len (a + 1) n))) a ≡ b)
          [ true ↦ rw (eq-eqb a a refl) | false ↦ has-filter_below p a (a + 1) n (omega arith) ])
      | inr other ↦
          let differ : a ≢ i = other.1 in
          let rest : has_id (filter p (range_with_len (a + 1) n)) i ≡ p i = has-filter p i (a + 1) n (omega arith) (omega arith) in
          elim (p a) as (λ b. has_id (cond b (a ∷ filter p (range_with_len (a + 1) n)) (filter p (range_with_len (a + 1) n))) i ≡ p i)
          [ true ↦ rw other.0 rest | false ↦ rest ]
    ]

pub find-first : (p : ℕ → Bool) (i a n : ℕ) → a ≤ i → i < a + n → p i ≡ true
    → ((k : ℕ) → a ≤ k → k < i → p k ≡ false) → find p (range_with_len a n) ≡ Some i
find-first p i a zero above below here before = absurd (omega arith)
find-first p i a (suc n) above below here before =
    elim (eqb_tells a i) [
      | inl same ↦ let first : p a ≡ true = ap p same.1 ∙ here in rw first (ap (λ j. Some j) same.1)
      | inr other ↦
          let differ : a ≢ i = other.1 in
          let first : p a ≡ false = before a (omega arith) (omega arith) in
          rw first (find-first p i (a + 1) n (omega arith) (omega arith) here (λ k above' below'. before k (omega arith) below'))
    ]

pub find-none : (p : ℕ → Bool) (a n : ℕ) → ((k : ℕ) → a ≤ k → k < a + n → p k ≡ false) → find p (range_with_len a n) ≡ None
find-none p a zero none = refl
find-none p a (suc n) none =
    let first : p a ≡ false = none a (omega arith) (omega arith) in
    rw first (find-none p (a + 1) n (λ k above below. none k (omega arith) (omega arith)))

spread : (y power : ℕ) → power + y * (power * 2) ≡ (y * 2 + 1) * power
spread y power = omega arith

spread_none : (y power : ℕ) → y * (power * 2) ≡ (y * 2 + 0) * power
spread_none y power = omega arith

-- a bit more, in front of those from a + 1 on
chosen : (bit a y : ℕ) (rest : List ℕ) → bit < 2 → sum_by (λ id. 2 ^ id) rest ≡ y * (2 ^ a * 2)
    → sum_by (λ id. 2 ^ id) (cond (bit == 1) (a ∷ rest) rest) ≡ (y * 2 + bit) * 2 ^ a
chosen bit a y rest below added =
    elim (eqb_tells bit 1) [
      | inl one ↦ subst added_up (sym one.1) (sum_by-cons (λ id. 2 ^ id) a rest ∙ ap (λ k. 2 ^ a + k) added ∙ spread y (2 ^ a))
      | inr other ↦
          let not_one : bit ≢ 1 = other.1 in
          let none : 0 ≡ bit = omega arith in
          subst added_up none (added ∙ spread_none y (2 ^ a))
    ]
  where
    added_up : ℕ → Type 0
    added_up v = sum_by (λ id. 2 ^ id) (cond (v == 1) (a ∷ rest) rest) ≡ (y * 2 + v) * 2 ^ a

-- the bits of a number from a on, added up
pub sum_by-bits : (m a n : ℕ) → sum_by (λ id. 2 ^ id) (filter (λ id. bit_at m id == 1) (range_with_len a n)) ≡ (m / 2 ^ a % 2 ^ n) * 2 ^ a
sum_by-bits m a zero =
    let none : m / 2 ^ a % 1 ≡ 0 = omega arith in
    sym (ap (λ k. k * 2 ^ a) none ∙ zero-mul (2 ^ a))
sum_by-bits m a (suc n) =
    let power : 2 ^ (a + 1) ≡ 2 ^ a * 2 = ap (λ k. 2 ^ k) (add-one a) ∙ pow-suc 2 a in
    let half : m / 2 ^ (a + 1) ≡ m / 2 ^ a / 2 = ap (λ k. m / k) power ∙ sym (div-div-eq-div-mul m (2 ^ a) 2) in
    let rest : sum_by (λ id. 2 ^ id) (filter (λ id. bit_at m id == 1) (range_with_len (a + 1) n)) ≡ (m / 2 ^ a / 2 % 2 ^ n) * (2 ^ a * 2) =
    sum_by-bits m (a + 1) n ∙ rw (half, power) in
    let split : m / 2 ^ a % 2 ^ suc n ≡ (m / 2 ^ a / 2 % 2 ^ n) * 2 + m / 2 ^ a % 2 =
    ap (λ k. m / 2 ^ a % k) (pow-suc 2 n) ∙ mod-mul (m / 2 ^ a) {m = 2 ^ n} {c = 2} (pow_pos n) (omega arith) in
    chosen (bit_at m a) a (m / 2 ^ a / 2 % 2 ^ n) (filter (λ id. bit_at m id == 1) (range_with_len (a + 1) n)) (bit_at-lt m a) rest
    ∙ ap (λ k. k * 2 ^ a) (sym split)

-- ---- sets of identities

pub those-same : (p q : ℕ → Bool) → ((i : ℕ) → 1 ≤ i → i < 64 → p i ≡ q i) → those p ≡ those q
unfolding those identities
those-same p q same = filter-same p q 1 63 same

pub has-those : (p : ℕ → Bool) (i : ℕ) → 1 ≤ i → i < 64 → has_id (those p) i ≡ p i
unfolding those identities
has-those p i above below = has-filter p i 1 63 above below

pub least-is : (p : ℕ → Bool) (i : ℕ) → 1 ≤ i → i < 64 → p i ≡ true → ((k : ℕ) → 1 ≤ k → k < i → p k ≡ false) → least p ≡ i
unfolding least identities
least-is p i above below here before = rw (find-first p i 1 63 above below here before)

pub least-none : (p : ℕ → Bool) → ((k : ℕ) → 1 ≤ k → k < 64 → p k ≡ false) → least p ≡ 0
unfolding least identities
least-none p none = rw (find-none p 1 63 none)

halves : (m : ℕ) → m < 2 ^ 64 → m % 2 ≡ 0 → (m / 2 ^ 1 % 2 ^ 63) * 2 ^ 1 ≡ m
halves m fits even = omega arith

-- an even number of 64 bits is the mask of its set
pub mask_of_set-set_of_mask : (m : ℕ) → m < 2 ^ 64 → m % 2 ≡ 0 → mask_of_set (set_of_mask m) ≡ m
unfolding those identities
mask_of_set-set_of_mask m fits even = sum_by-bits m 1 63 ∙ halves m fits even
