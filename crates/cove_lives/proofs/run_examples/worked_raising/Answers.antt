use Rattle.std.proofs.Common.{◌≡◌, ℕ, zero, suc, ◌+◌, ◌<◌, ◌≤◌, ◌⊎◌, List, ◌∷◌, get_or, refl, inl, inr, arith}
use Rattle.cove_base.specs.PageWords.{host}
use Rattle.cove_lives.proofs.run_examples.worked_raising.Goals as goal

module _ (maps : ℕ) (rest : List ℕ) where
  raised : (p m : ℕ) → 1 ≤ p → p < 2 → get_or (host 0 ∷ host maps ∷ rest) p 0 ≡ host m → get_or (host 0 ∷ host (maps + 1) ∷ rest) p 0 ≡ host (m + 1)
  raised zero m low high was = absurd (omega arith)
  raised (suc zero) m low high was = omega arith
  raised (suc (suc p)) m low high was = absurd (omega arith)

  kept : (place : ℕ) → (place < 1) ⊎ (2 ≤ place) → get_or (host 0 ∷ host (maps + 1) ∷ rest) place 0 ≡ get_or (host 0 ∷ host maps ∷ rest) place 0
  kept zero out = refl
  kept (suc zero) out = elim out [ inl under ↦ absurd (omega arith) | inr over ↦ absurd (omega arith) ]
  kept (suc (suc place)) out = refl

pub returns-clause-by_one : goal.returns-clause-by_one
returns-clause-by_one c = λ maps rest. record { size = refl; here = raised maps rest; others = kept maps rest }

pub returns-clause-by_two : goal.returns-clause-by_two
returns-clause-by_two c = λ raises. let is : host 6 ≡ host 5 = raises.here 1 4 (omega arith) (omega arith) refl in absurd (omega arith)

pub returns-clause-left : goal.returns-clause-left
returns-clause-left c = λ raises. let is : host 4 ≡ host 5 = raises.here 1 4 (omega arith) (omega arith) refl in absurd (omega arith)

pub returns-clause-neighbour : goal.returns-clause-neighbour
returns-clause-neighbour c = λ raises. let is : host 1 ≡ host 0 = raises.others 2 (inr (omega arith)) in absurd (omega arith)

pub returns-clause-longer : goal.returns-clause-longer
returns-clause-longer c = λ raises. let is : ◌≡◌ {A = ℕ} 3 2 = raises.size in absurd (omega arith)
