-- Numbers in lists.
use Rattle.cove_model.specs.Machine.{has, without, Rises, harts_below, filled}
use Rattle.std.proofs.Common.{List, [], arith, drop, eqb, false, length, not, refl, suc, sym, true, zero, ℕ, ◌++◌, ◌+◌, ◌-◌, ◌<◌, ◌∙◌, ◌∷◌, ◌≡◌, ◌≤◌, ◌⊎◌}
use Rattle.std.proofs.lemmas.Bool.{cond_both, or_cases, or_right}
use Rattle.std.proofs.lemmas.Bool.Decides.{nat_tests}
use Rattle.std.proofs.lemmas.List.Folds.{list_any-append}
use Rattle.std.specs.List.{AllByRecursion, range_with_len}

pub false-true : {P : Type 0} → false ≡ true → P
false-true e = cc

pub has_without : (k h : ℕ) → (h ≡ k → ⊥) → (ns : List ℕ) → has h ns ≡ true → has h (without k ns) ≡ true
has_without k h ne [] e = cc
has_without k h ne (x ∷ xs) e = grind (arith, nat_tests, has_without k h ne xs)

pub has_with : (k h : ℕ) (ns : List ℕ) → has h (without k ns) ≡ true → has h ns ≡ true
has_with k h [] e = e
has_with k h (x ∷ xs) e = grind (arith, nat_tests, has_with k h xs)

pub has_not : (k : ℕ) (ns : List ℕ) → has k (without k ns) ≡ false
has_not k [] = refl
has_not k (x ∷ xs) = grind (arith, nat_tests, has_not k xs)

-- the numbers of a run are these
pub has_range : (a n h : ℕ) → a ≤ h → h < a + n → has h (range_with_len a n) ≡ true
has_range a zero h low high = absurd (omega arith)
has_range a (suc n) h low high = grind (arith, nat_tests, has_range (a + 1) n h)

pub range_has : (a n h : ℕ) → has h (range_with_len a n) ≡ true → (a ≤ h) × (h < a + n)
range_has a zero h e = false-true e
range_has a (suc n) h e = grind (arith, nat_tests, range_has (a + 1) n h)

-- the harts below a number are these
pub has_below : (n h : ℕ) → h < n → has h (harts_below n) ≡ true
has_below n h lt = has_range 0 n h (omega arith) (omega arith)

pub below_has : (n h : ℕ) → has h (harts_below n) ≡ true → h < n
below_has n h e = let q = range_has 0 n h e in omega arith

pub has_append : (n : ℕ) (xs ys : List ℕ) → has n (xs ++ ys) ≡ true → (has n xs ≡ true) ⊎ (has n ys ≡ true)
has_append n xs ys e = or_cases (has n xs) (has n ys) (sym (list_any-append (λ m. eqb m n) xs ys) ∙ e)

pub has_drop : (n k : ℕ) (xs : List ℕ) → has n (drop k xs) ≡ true → has n xs ≡ true
has_drop n zero xs e = e
has_drop n (suc k) [] e = e
has_drop n (suc k) (x ∷ xs) e = or_right (eqb x n) (has n xs) (has_drop n k xs e)

-- a walk adds its page alone
pub has_filled : (n p : ℕ) (ps : List ℕ) → has n (filled ps p) ≡ true → (has n ps ≡ true) ⊎ (p ≡ n)
has_filled n p ps e =
    let there = has_append n ps (p ∷ []) (has_drop n (length (ps ++ p ∷ []) - 4) (ps ++ p ∷ []) e) in
    grind (arith, nat_tests)

-- ---- rising lists

all_without : (P : ℕ → Type 0) (k : ℕ) (ns : List ℕ) → AllByRecursion P ns → AllByRecursion P (without k ns)
all_without P k [] all = tt
all_without P k (x ∷ xs) all = cond_both (not (eqb x k)) (x ∷ without k xs) (without k xs) (AllByRecursion P) (λ kept. (all.0, all_without P k xs all.1)) (λ left. all_without P k xs all.1)

pub rises_without : (k : ℕ) (ns : List ℕ) → Rises ns → Rises (without k ns)
rises_without k [] rises = tt
rises_without k (x ∷ xs) rises = cond_both (not (eqb x k)) (x ∷ without k xs) (without k xs) Rises (λ kept. (all_without (λ m. x < m) k xs rises.0, rises_without k xs rises.1)) (λ left. rises_without k xs rises.1)

above_range : (b a n : ℕ) → b < a → AllByRecursion (λ m. b < m) (range_with_len a n)
above_range b a zero lt = tt
above_range b a (suc n) lt = (lt, above_range b (a + 1) n (omega arith))

rises_range : (a n : ℕ) → Rises (range_with_len a n)
rises_range a zero = tt
rises_range a (suc n) = (above_range a (a + 1) n (omega arith), rises_range (a + 1) n)

pub rises_below : (n : ℕ) → Rises (harts_below n)
rises_below n = rises_range 0 n
