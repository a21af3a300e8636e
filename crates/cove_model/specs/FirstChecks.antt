-- Which check of a list is the first that fails.
use Rattle.std.specs.Prelude.{◌≡◌, ℕ, true, false, List, take, slice_get, Some}
use Rattle.std.specs.List.{AllByRecursion}
use Rattle.cove_model.specs.Types.{Reply}
use Rattle.cove_model.specs.Refusals.{Check}

-- what a check that fails answers
abbrev pub reply_of : Check → Reply
reply_of check = record { status = check.status; value = check.value }

-- every check passes
abbrev pub AllPassed : List Check → Type 0
AllPassed checks = AllByRecursion (λ check. check.fails ≡ false) checks

-- the check at place i fails, and each before it passes
pub record FailsFirst (checks : List Check) (i : ℕ) (check : Check) : Type 0 where
  pub stands : slice_get checks i ≡ Some check
  pub fails : check.fails ≡ true
  pub earlier : AllPassed (take i checks)
