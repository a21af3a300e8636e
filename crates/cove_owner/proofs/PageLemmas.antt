use Rattle.std.proofs.Common.{◌≡◌, ℕ, ◌+◌, List, get_or, inl, inr, subst, arith}
use Rattle.std.proofs.lemmas.Bool.{cases_lt}
use Rattle.cove_owner.specs.States.{EveryPage}

-- what holds of each page so far and of the next holds of one page more
pub EveryPage-more : (P : ℕ → Type 0) (words : List ℕ) (first i : ℕ) → EveryPage P words first i → P (get_or words (first + i) 0) → EveryPage P words first (i + 1)
EveryPage-more P words first i below here page low high =
    elim (cases_lt page (first + i)) [
      | inl before ↦ below page low before
      | inr there ↦
          let is : first + i ≡ page = omega arith in
          subst (λ k. P (get_or words k 0)) is here
    ]
