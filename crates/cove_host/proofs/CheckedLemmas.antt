-- What checks in their order answer.
use Rattle.std.proofs.Common.{◌≡◌, ◌∙◌, ℕ, zero, suc, Bool, true, false, cond, List, [], ◌∷◌, Option, Some, None, Result, Ok, Err, refl, sym, ap, arith}
use Rattle.std.proofs.lemmas.Result.{err_from_is_err_and}
use Rattle.std.specs.Prelude.{IsErrAnd}
use Rattle.cove_model.specs.Machine.{Reply, Check, first_failing}
use Rattle.cove_host.specs.Checked.{all_checked, checked}

-- the answer of a test that fails, and what comes after one that passes
abbrev pub Answer : Type 0
Answer = Result (Unit {0}) Reply

abbrev tested : Bool → Reply → Answer → Answer
tested b reply rest = cond b (Err reply) rest

abbrev pub passed : Answer
passed = Ok tt

passing : (b : Bool) (reply : Reply) (rest : Answer) (u : Unit {0}) → tested b reply passed ≡ Ok u → tested b reply rest ≡ rest
passing true reply rest u e = absurd cc
passing false reply rest u e = refl

failing : (b : Bool) (reply said : Reply) (rest : Answer) → tested b reply passed ≡ Err said → tested b reply rest ≡ Err said
failing true reply said rest e = e
failing false reply said rest e = absurd cc

passed_first : (b : Bool) (reply : Reply) (rest : Answer) → passed ≡ tested b reply rest → (b ≡ false) × (passed ≡ rest)
passed_first true reply rest e = absurd cc
passed_first false reply rest e = (refl, e)

failed_first : (b : Bool) (reply said : Reply) (rest : Answer) (found : Option Reply) → (rest ≡ Err said → found ≡ Some said) → tested b reply rest ≡ Err said → cond b (Some reply) found ≡ Some said
failed_first true reply said rest found more e = grind arith
failed_first false reply said rest found more e = more e

-- a check that passes leaves the answer to those after it
passes : (check : Check) (rest : List Check) (r : Answer) (u : Unit {0}) → r ≡ checked check → r ≡ Ok u → all_checked (check ∷ rest) ≡ all_checked rest
passes check rest r u is ok = passing check.fails (record { status = check.status; value = check.value }) (all_checked rest) u (sym is ∙ ok)

-- and one that fails answers
fails : (check : Check) (rest : List Check) (r : Answer) (reply : Reply) → r ≡ checked check → r ≡ Err reply → all_checked (check ∷ rest) ≡ Err reply
fails check rest r reply is err = failing check.fails (record { status = check.status; value = check.value }) reply (all_checked rest) (sym is ∙ err)

-- where all pass, the first does, and so do the rest
first_passes : (check : Check) (rest : List Check) → passed ≡ all_checked (check ∷ rest) → (check.fails ≡ false) × (passed ≡ all_checked rest)
first_passes check rest e = passed_first check.fails (record { status = check.status; value = check.value }) (all_checked rest) e

-- the check with a number passes, if there is one
abbrev pub PassesAt : ℕ → List Check → Type 0
PassesAt n [] = Unit {0}
PassesAt zero (check ∷ checks) = check.fails ≡ false
PassesAt (suc n) (check ∷ checks) = PassesAt n checks

-- where all pass, each does
pub each_passes : (checks : List Check) → passed ≡ all_checked checks → (n : ℕ) → PassesAt n checks
each_passes [] e n = tt
each_passes (check ∷ checks) e zero = (first_passes check checks e).0
each_passes (check ∷ checks) e (suc n) = each_passes checks (first_passes check checks e).1 n

-- where all pass, none is the first that fails
pub none_fails : (checks : List Check) → passed ≡ all_checked checks → first_failing checks ≡ None
none_fails [] e = refl
none_fails (check ∷ checks) e =
    let both = first_passes check checks e in
    let reply : Reply = record { status = check.status; value = check.value } in
    ap (λ b. cond b (Some reply) (first_failing checks)) both.0 ∙ none_fails checks both.1

-- where one answers, it is the first that fails
pub one_fails : (checks : List Check) (reply : Reply) → all_checked checks ≡ Err reply → first_failing checks ≡ Some reply
one_fails [] reply e = absurd cc
one_fails (check ∷ checks) reply e =
    failed_first check.fails (record { status = check.status; value = check.value }) reply (all_checked checks) (first_failing checks) (one_fails checks reply) e

-- the first checks of a list pass, as many as a number says
abbrev pub FrontPasses : ℕ → List Check → Type 0
FrontPasses zero checks = Unit {0}
FrontPasses (suc n) [] = Unit {0}
FrontPasses (suc n) (check ∷ checks) = (Ok tt ≡ checked check) × FrontPasses n checks

-- the checks after those
abbrev pub rest_after : ℕ → List Check → List Check
rest_after zero checks = checks
rest_after (suc n) [] = []
rest_after (suc n) (check ∷ checks) = rest_after n checks

-- what the first check of a list answers
abbrev pub next_checked : List Check → Answer
next_checked [] = passed
next_checked (check ∷ checks) = checked check

next_fails : (checks : List Check) (reply : Reply) → Err reply ≡ next_checked checks → all_checked checks ≡ Err reply
next_fails [] reply e = absurd cc
next_fails (check ∷ checks) reply e = fails check checks (Err reply) reply e refl

-- where the first checks pass, those after them answer
pub front_passes : (n : ℕ) (checks : List Check) → FrontPasses n checks → all_checked checks ≡ all_checked (rest_after n checks)
front_passes zero checks all = refl
front_passes (suc n) [] all = refl
front_passes (suc n) (check ∷ checks) all = passes check checks (Ok tt) tt all.0 refl ∙ front_passes n checks all.1

-- what is returned where the next one fails
pub stops : {r : Answer} {reply : Reply} (n : ℕ) (checks : List Check) → IsErrAnd r (λ said. said ≡ reply) → FrontPasses n checks
    → Err reply ≡ next_checked (rest_after n checks) → r ≡ all_checked checks
stops {r} {reply} n checks is all e =
    let said = err_from_is_err_and r is in
    said.1 ∙ ap Err said.2 ∙ sym (front_passes n checks all ∙ next_fails (rest_after n checks) reply e)
