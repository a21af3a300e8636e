-- Lists of the harts that pass a test.
use Rattle.std.proofs.Common.{◌≡◌, ◌≢◌, ℕ, zero, suc, ◌+◌, ◌<◌, ◌≤◌, Bool, true, eqb, ltb, not, ◌&&◌, List, [], ◌∷◌, ap, refl, ◌∙◌, arith, eq-eqb}
use Rattle.std.proofs.lemmas.Bool.{or_left, false≢true, ltb-true, lt-ltb}
use Rattle.std.proofs.lemmas.Bool.Decides.{nat_tests}
use Rattle.std.specs.List.{filter, range_with_len}
use Rattle.cove_model.specs.Machine.{has, without, harts_below, harts_behind}

filter_range : (p q : ℕ → Bool) (a n : ℕ) → ((k : ℕ) → a ≤ k → k < a + n → p k ≡ q k) → filter p (range_with_len a n) ≡ filter q (range_with_len a n)
filter_range p q a zero agree = refl
filter_range p q a (suc n) agree =
    rw (agree a (omega arith) (omega arith), filter_range p q (a + 1) n (λ k low high. agree k (omega arith) (omega arith)))

-- two tests that agree on each hart keep the same harts
pub filter_harts : (p q : ℕ → Bool) (n : ℕ) → ((k : ℕ) → k < n → p k ≡ q k) → filter p (harts_below n) ≡ filter q (harts_below n)
filter_harts p q n agree = filter_range p q 0 n (λ k low high. agree k (omega arith))

-- a filter of a filter
pub filter-filter : (p q : ℕ → Bool) (xs : List ℕ) → filter p (filter q xs) ≡ filter (λ x. q x && p x) xs
filter-filter p q [] = refl
filter-filter p q (x ∷ xs) = grind (arith, filter-filter p q xs)

pub range_passes : (p : ℕ → Bool) (a n : ℕ) (k : ℕ) → has k (filter p (range_with_len a n)) ≡ true → (a ≤ k) × (k < a + n) × (p k ≡ true)
range_passes p a zero k e = absurd (false≢true e)
range_passes p a (suc n) k e = grind (arith, nat_tests, range_passes p (a + 1) n k)

pub range_keeps : (p : ℕ → Bool) (a n : ℕ) (k : ℕ) → a ≤ k → k < a + n → p k ≡ true → has k (filter p (range_with_len a n)) ≡ true
range_keeps p a zero k low high passes = absurd (omega arith)
range_keeps p a (suc n) k low high passes = grind (arith, nat_tests, range_keeps p (a + 1) n k)

-- a hart that is behind is of the board, and has answered less
pub behind_has : (harts : ℕ) (answered : ℕ → ℕ) (number k : ℕ) → has k (harts_behind harts answered number) ≡ true → (k < harts) × (answered k < number)
behind_has harts answered number k e =
    let q = range_passes (λ hart. ltb (answered hart) number) 0 harts k e in
    (omega arith, ltb-true (answered k) number q.2)

-- and each such hart is behind
pub has_behind : (harts : ℕ) (answered : ℕ → ℕ) (number k : ℕ) → k < harts → answered k < number → has k (harts_behind harts answered number) ≡ true
has_behind harts answered number k within less =
    range_keeps (λ hart. ltb (answered hart) number) 0 harts k (omega arith) (omega arith) (lt-ltb (answered k) number less)

-- the first of a list is in it
pub has_first : (x : ℕ) (xs : List ℕ) → has x (x ∷ xs) ≡ true
has_first x xs = or_left (eqb x x) (has x xs) (eq-eqb x x refl)

-- where no hart is behind, each has answered
pub none_behind : (harts : ℕ) (answered : ℕ → ℕ) (number : ℕ) → [] ≡ harts_behind harts answered number → (k : ℕ) → k < harts → number ≤ answered k
none_behind harts answered number none k within =
    let has_it = has_behind harts answered number k within in
    let none_there = ap (has k) none in
    grind arith

-- the others of a board, by a test that fails of one hart alone
pub others_behind : (harts hart : ℕ) (answered : ℕ → ℕ) (number : ℕ) → number ≤ answered hart → ((k : ℕ) → k < harts → k ≢ hart → answered k < number) → without hart (harts_below harts) ≡ harts_behind harts answered number
others_behind harts hart answered number own others =
    filter_harts (λ k. not (eqb k hart)) (λ k. ltb (answered k) number) harts (λ k within. grind (arith, nat_tests, others k within))

-- the harts behind without one that answers
pub without-behind : (harts hart : ℕ) (before after : ℕ → ℕ) (number : ℕ) → number ≤ after hart → ((k : ℕ) → k ≢ hart → after k ≡ before k) → without hart (harts_behind harts before number) ≡ harts_behind harts after number
without-behind harts hart before after number own others =
    filter-filter (λ k. not (eqb k hart)) (λ k. ltb (before k) number) (harts_below harts)
    ∙ filter_harts (λ k. ltb (before k) number && not (eqb k hart)) (λ k. ltb (after k) number) harts (λ k within. grind (arith, nat_tests, others k))
