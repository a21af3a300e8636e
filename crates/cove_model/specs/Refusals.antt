-- Why a call is refused: its checks, of which the first that fails answers.
use Rattle.std.specs.Prelude.{ℕ, Bool, if◌then◌else◌, List, [], ◌∷◌, Option, Some, None}
use Rattle.cove_base.specs.Ranges.{is_bad_count, is_unaligned}
use Rattle.cove_model.specs.Types.{Reply, Status, InvalidParam, InvalidAddress}

-- a check: whether it fails, and the answer then
pub record Check : Type 0 where
  pub fails : Bool
  pub status : Status
  pub value : ℕ

-- the answer of the first check that fails
abbrev pub first_failing : List Check → Option Reply
first_failing [] = None
first_failing (check ∷ checks) =
    if check.fails then Some (record { status = check.status; value = check.value }) else first_failing checks

-- a check with no value beside its status
abbrev pub plain : Bool → Status → Check
plain fails status = record { fails = fails; status = status; value = 0 }

-- the number of pages is 1 to 16
abbrev pub Count : (n : ℕ) → Check
Count n = plain (is_bad_count n) InvalidParam

-- the address is a multiple of the page size
abbrev pub Aligned : (address : ℕ) → Check
Aligned address = plain (is_unaligned address) InvalidAddress
