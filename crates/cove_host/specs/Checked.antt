-- What the code answers for a check, and for checks in their order.
use Rattle.std.specs.Prelude.{if◌then◌else◌, List, [], ◌∷◌, Result, Ok, Err}
use Rattle.cove_base.specs.declared.statuses.Reply.{Reply}
use Rattle.cove_model.specs.Refusals.{Check}

-- a check that fails is answered, and one that passes is not
abbrev pub checked : Check → Result (Unit {0}) Reply
checked check = if check.fails then Err (record { status = check.status; value = check.value }) else Ok tt

-- the first of some checks that fails is answered
abbrev pub all_checked : List Check → Result (Unit {0}) Reply
all_checked [] = Ok tt
all_checked (check ∷ checks) =
    if check.fails then Err (record { status = check.status; value = check.value }) else all_checked checks
