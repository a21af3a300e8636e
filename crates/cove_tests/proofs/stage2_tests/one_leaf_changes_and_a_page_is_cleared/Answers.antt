use Rattle.std.proofs.Common.{ℕ, List, [], ◌∷◌, set}
use Rattle.cove_base.specs.Stores.{AllAllowed}
use Rattle.cove_stage2.specs.Changes.{clear_stores}
use Rattle.cove_tests.proofs.stage2_tests.one_leaf_changes_and_a_page_is_cleared.Goals as goal

-- words of one owner allow any stores
all-allowed : (words : List ℕ) (stores : List (ℕ × ℕ)) → AllAllowed (λ _ _ _. Unit {0}) words stores
all-allowed words [] = tt
all-allowed words (s ∷ ss) = (tt, all-allowed (set words s.0 s.1) ss)

pub clear-requires-clause-allowed : goal.clear-requires-clause-allowed
clear-requires-clause-allowed g c = all-allowed c.set-2.new.self (clear_stores 16 8)
