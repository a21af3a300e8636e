-- Sums over the harts of a board, and what a search over them finds.
use Rattle.std.proofs.Common.{Bool, List, Some, [], ap, arith, cond, eq-eqb, eqb, false, find, inl, inr, refl, suc, sym, true, zero, ℕ, ◌+◌, ◌<◌, ◌||◌, ◌∙◌, ◌∷◌, ◌≡◌, ◌≢◌, ◌≤◌, ◌⊎◌}
use Rattle.std.proofs.lemmas.Bool.{cases_eq, or_left, or_right}
use Rattle.std.proofs.lemmas.Option.{same_Some}
use Rattle.std.specs.List.{AllByRecursion, range_with_len}
use Rattle.cove_model.specs.Machine.{has, harts_below}

unfoldable pub sum_below : (ℕ → ℕ) → ℕ → ℕ
sum_below f zero = 0
sum_below f (suc n) = f n + sum_below f n

pub sum_same : (f g : ℕ → ℕ) (n : ℕ) → ((k : ℕ) → k < n → g k ≡ f k) → sum_below g n ≡ sum_below f n
unfolding sum_below
sum_same f g zero e = refl
sum_same f g (suc n) e =
    let here = e n (omega arith) in
    let rest = sum_same f g n (λ k lt. e k (omega arith)) in
    omega arith

pub sum_changed : (f g : ℕ → ℕ) (h n : ℕ) → h < n → ((k : ℕ) → (k ≡ h → ⊥) → g k ≡ f k) → sum_below g n + f h ≡ sum_below f n + g h
unfolding sum_below
sum_changed f g h zero lt e = absurd (omega arith)
sum_changed f g h (suc n) lt e = go (cases_eq n h) (λ l. sum_changed f g h n l e)
  where
    nearer : (m k : ℕ) → (m ≡ k → ⊥) → k < suc m → k < m
    nearer m k ne l = let ne' : m ≢ k = ne in omega arith

    go : (n ≡ h) ⊎ (n ≡ h → ⊥) → (h < n → sum_below g n + f h ≡ sum_below f n + g h) → (g n + sum_below g n) + f h ≡ (f n + sum_below f n) + g h
    go (inl q) more =
        let rest = sum_same f g n (λ k l. e k (λ s. let s' = s in omega arith)) in
        let gq = ap g q in
        let fq = ap f q in
        omega arith
    go (inr ne) more =
        let here = e n ne in
        let rest = more (nearer n h ne lt) in
        omega arith

pub sum_le : (f g : ℕ → ℕ) (n : ℕ) → ((k : ℕ) → k < n → f k ≤ g k) → sum_below f n ≤ sum_below g n
unfolding sum_below
sum_le f g zero le = omega arith
sum_le f g (suc n) le =
    let here = le n (omega arith) in
    let rest = sum_le f g n (λ k lt. le k (omega arith)) in
    omega arith

below_range : (a n b : ℕ) → a + n ≤ b → AllByRecursion (λ h. h < b) (range_with_len a n)
below_range a zero b le = tt
below_range a (suc n) b le = (omega arith, below_range (a + 1) n b (omega arith))

pub harts_are_below : (n : ℕ) → AllByRecursion (λ h. h < n) (harts_below n)
harts_are_below n = below_range 0 n n (omega arith)

pub find_some : (p : ℕ → Bool) (xs : List ℕ) (k : ℕ) → find p xs ≡ Some k → (p k ≡ true) × (has k xs ≡ true)
find_some p [] k e = cc
find_some p (x ∷ xs) k e = go (p x) refl e (find_some p xs k)
  where
    go : (b : Bool) → p x ≡ b → cond b (Some x) (find p xs) ≡ Some k → (find p xs ≡ Some k → (p k ≡ true) × (has k xs ≡ true)) → (p k ≡ true) × ((eqb x k || has k xs) ≡ true)
    go true t q more = let s = same_Some x k q in (ap p (sym s) ∙ t, or_left (eqb x k) (has k xs) (eq-eqb x k s))
    go false t q more = let m = more q in (m.0, or_right (eqb x k) (has k xs) m.1)
