-- The first number of a run that passes a test.
use Rattle.std.proofs.Common.{◌≡◌, ℕ, zero, suc, ◌+◌, ◌<◌, ◌≤◌, Bool, true, false, cond, find, Some, None, inl, inr, refl, sym, subst, ap, ◌∙◌, arith}
use Rattle.std.proofs.lemmas.Bool.{cases_lt}
use Rattle.std.specs.List.{range_with_len}

-- the first of a run of numbers that passes
pub find_first : (p : ℕ → Bool) (a n k : ℕ) → a ≤ k → k < a + n → p k ≡ true → ((j : ℕ) → j < k → p j ≡ false) → find p (range_with_len a n) ≡ Some k
find_first p a zero k low high passes fails = absurd (omega arith)
find_first p a (suc n) k low high passes fails =
    elim (cases_lt a k) [
      | inl less ↦
          ap (λ b. cond b (Some a) (find p (range_with_len (a + 1) n))) (fails a less)
          ∙ find_first p (a + 1) n k (omega arith) (omega arith) passes fails
      | inr here ↦
          let is : k ≡ a = omega arith in
          ap (λ b. cond b (Some a) (find p (range_with_len (a + 1) n))) (subst (λ j. p j ≡ true) is passes) ∙ ap (λ j. Some j) (sym is)
    ]

pub find_none : (p : ℕ → Bool) (a n : ℕ) → ((k : ℕ) → a ≤ k → k < a + n → p k ≡ false) → find p (range_with_len a n) ≡ None
find_none p a zero fails = refl
find_none p a (suc n) fails =
    ap (λ b. cond b (Some a) (find p (range_with_len (a + 1) n))) (fails a (omega arith) (omega arith))
    ∙ find_none p (a + 1) n (λ k low high. fails k (omega arith) (omega arith))
