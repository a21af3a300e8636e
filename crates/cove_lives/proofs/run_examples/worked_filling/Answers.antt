use Rattle.std.proofs.Common.{◌≡◌, ℕ, zero, suc, ◌+◌, ◌<◌, ◌≤◌, ◌⊎◌, List, [], ◌∷◌, get_or, refl, ap, inl, inr, arith}
use Rattle.cove_lives.proofs.run_examples.worked_filling.Goals as goal

module _ (a b c : List ℕ) (content : ℕ → List ℕ) where
  filled : (j : ℕ) → j < 2 → get_or (a ∷ content 0 ∷ content 1 ∷ []) (1 + j) [] ≡ content j
  filled zero low = refl
  filled (suc zero) low = refl
  filled (suc (suc j)) low = absurd (omega arith)

  kept : (p : ℕ) → (p < 1) ⊎ (3 ≤ p) → get_or (a ∷ content 0 ∷ content 1 ∷ []) p [] ≡ get_or (a ∷ b ∷ c ∷ []) p []
  kept zero out = refl
  kept (suc zero) out = elim out [ inl under ↦ absurd (omega arith) | inr over ↦ absurd (omega arith) ]
  kept (suc (suc zero)) out = elim out [ inl under ↦ absurd (omega arith) | inr over ↦ absurd (omega arith) ]
  kept (suc (suc (suc p))) out = refl

-- the first words of frames that are the same
first : (xs ys : List ℕ) → xs ≡ ys → get_or xs 0 0 ≡ get_or ys 0 0
first xs ys e = ap (λ (zs : List ℕ). get_or zs 0 0) e

pub returns-clause-two_of_three : goal.returns-clause-two_of_three
returns-clause-two_of_three c = λ a b d content. record { count = refl; here = filled a b d content; others = kept a b d content }

pub returns-clause-swapped : goal.returns-clause-swapped
returns-clause-swapped c = λ fills. let is : ◌≡◌ {A = ℕ} 1 0 = first (1 ∷ []) (0 ∷ []) (fills.here 0 (omega arith)) in absurd (omega arith)

pub returns-clause-before : goal.returns-clause-before
returns-clause-before c = λ fills. let is : ◌≡◌ {A = ℕ} 7 0 = first (7 ∷ []) [] (fills.others 0 (inl (omega arith))) in absurd (omega arith)

pub returns-clause-behind : goal.returns-clause-behind
returns-clause-behind c = λ fills. let is : ◌≡◌ {A = ℕ} 7 0 = first (7 ∷ []) [] (fills.others 2 (inr (omega arith))) in absurd (omega arith)

pub returns-clause-too_few : goal.returns-clause-too_few
returns-clause-too_few c = λ fills. let is : ◌≡◌ {A = ℕ} 2 3 = fills.count in absurd (omega arith)
