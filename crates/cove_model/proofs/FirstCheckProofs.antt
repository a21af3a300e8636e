-- The first check that fails answers.
use Rattle.std.proofs.Common.{◌≡◌, ℕ, zero, suc, ◌⊎◌, inl, inr, Bool, true, false, List, [], ◌∷◌, take, slice_get, Some, None, refl, sym, ◌∙◌, ap, subst, true≢false, ◌↔◌}
use Rattle.std.proofs.lemmas.Bool.{both_ways}
use Rattle.std.proofs.lemmas.Option.{none-some, same_Some}
use Rattle.std.specs.List.{AllByRecursion}
use Rattle.cove_base.specs.Statuses.{is_success}
use Rattle.cove_model.specs.Machine.{HostCall, Info, LocalFence, Success, rule, outcome, reply_to, rule_of, state_after, Check, first_failing, State}
use Rattle.cove_model.specs.FirstChecks.{AllPassed, FailsFirst, reply_of}

-- a check of a list fails first, or every one passes
pub first_or_passed : (checks : List Check) → ((i : ℕ) × ((check : Check) × FailsFirst checks i check)) ⊎ AllPassed checks
first_or_passed [] = inr tt
first_or_passed (x ∷ xs) = go x.fails refl (first_or_passed xs)
  where
    go : (b : Bool) → x.fails ≡ b → ((i : ℕ) × ((check : Check) × FailsFirst xs i check)) ⊎ AllPassed xs → ((i : ℕ) × ((check : Check) × FailsFirst (x ∷ xs) i check)) ⊎ AllPassed (x ∷ xs)
    go true e more = inl (0, (x, record { stands = refl; fails = e; earlier = tt }))
    go false e (inl (i, (check, first))) = inl (suc i, (check, record { stands = first.stands; fails = first.fails; earlier = (e, first.earlier) }))
    go false e (inr passed) = inr (e, passed)

found_fact : (P : Check → Type 0) (checks : List Check) (i : ℕ) (check : Check) → slice_get checks i ≡ Some check → AllByRecursion P checks → P check
found_fact P [] i check at all = absurd (none-some _ at)
found_fact P (x ∷ xs) zero check at all = subst P (same_Some x check at) all.0
found_fact P (x ∷ xs) (suc i) check at all = found_fact P xs i check at all.1

-- where every check passes, none fails
pub first_not_passed : (checks : List Check) (i : ℕ) (check : Check) → FailsFirst checks i check → AllPassed checks → ⊥
first_not_passed checks i check first passed = both_ways check.fails (found_fact (λ c. c.fails ≡ false) checks i check first.stands passed) first.fails

-- one check alone fails first
pub first_once : (checks : List Check) (i j : ℕ) (check other : Check) → FailsFirst checks i check → FailsFirst checks j other → (i ≡ j) × (check ≡ other)
first_once checks i j check other first second = go checks i j first.stands first.earlier second.stands second.earlier
  where
    go : (checks : List Check) (i j : ℕ) → slice_get checks i ≡ Some check → AllPassed (take i checks) → slice_get checks j ≡ Some other → AllPassed (take j checks) → (i ≡ j) × (check ≡ other)
    go [] i j at earlier at' earlier' = absurd (none-some _ at)
    go (x ∷ xs) zero zero at earlier at' earlier' = (refl, sym (same_Some x check at) ∙ same_Some x other at')
    go (x ∷ xs) zero (suc j) at earlier at' earlier' = absurd (true≢false (sym first.fails ∙ ap (λ c. c.fails) (sym (same_Some x check at)) ∙ earlier'.0))
    go (x ∷ xs) (suc i) zero at earlier at' earlier' = absurd (true≢false (sym second.fails ∙ ap (λ c. c.fails) (sym (same_Some x other at')) ∙ earlier.0))
    go (x ∷ xs) (suc i) (suc j) at earlier at' earlier' =
        let rest = go xs i j at earlier.1 at' earlier'.1 in (ap suc rest.0, rest.1)

-- the first check that fails answers
first_answers : (checks : List Check) (i : ℕ) (check : Check) → FailsFirst checks i check → first_failing checks ≡ Some (reply_of check)
first_answers checks i check first = go checks i first.stands first.earlier
  where
    go : (checks : List Check) (i : ℕ) → slice_get checks i ≡ Some check → AllPassed (take i checks) → first_failing checks ≡ Some (reply_of check)
    go [] i at earlier = absurd (none-some _ at)
    go (x ∷ xs) zero at earlier = rw (same_Some x check at, first.fails)
    go (x ∷ xs) (suc i) at earlier = rw earlier.0 (go xs i at earlier.1)

-- where every check passes, none answers
passed_answers : (checks : List Check) → AllPassed checks → first_failing checks ≡ None
passed_answers [] passed = refl
passed_answers (x ∷ xs) passed = rw passed.0 (passed_answers xs passed.1)

pub refused_by_first : (S : State) (hart : ℕ) (call : HostCall) (i : ℕ) (check : Check) → FailsFirst ((rule_of S hart call).checks) i check → (reply_to S hart call ≡ reply_of check) × (state_after S hart call ≡ S)
refused_by_first S hart call i check first = rw (first_answers ((rule_of S hart call).checks) i check first) (refl, refl)

pub accepted_by_all : (S : State) (hart : ℕ) (call : HostCall) → AllPassed ((rule_of S hart call).checks) → (reply_to S hart call ≡ record { status = Success; value = (outcome S hart call).value }) × (state_after S hart call ≡ (outcome S hart call).state)
accepted_by_all S hart call passed = rw (passed_answers ((rule_of S hart call).checks) passed) (refl, refl)

-- no check answers success
never_success : (S : State) (hart : ℕ) (call : HostCall) → AllByRecursion (λ check. is_success check.status ≡ false) (rule_of S hart call).checks
never_success S hart call = (refl, of_row call)
  where
    of_row : (c : HostCall) → AllByRecursion (λ check. is_success check.status ≡ false) (rule S hart c).checks
    of_row LocalFence = tt
    of_row Info = tt
    of_row c = assumption

-- success is answered exactly where every check passes
pub success_by_all : (S : State) (hart : ℕ) (call : HostCall) → ((reply_to S hart call).status ≡ Success) ↔ AllPassed ((rule_of S hart call).checks)
success_by_all S hart call = (
  λ e. elim (first_or_passed ((rule_of S hart call).checks)) [
    | inr passed ↦ passed
    | inl (i, (check, first)) ↦
        let never = found_fact (λ c. is_success c.status ≡ false) ((rule_of S hart call).checks) i check first.stands (never_success S hart call) in
        let is : check.status ≡ Success = sym (ap (λ r. r.status) (refused_by_first S hart call i check first).0) ∙ e in
        absurd (true≢false (sym (ap is_success is) ∙ never))
  ],
  λ passed. ap (λ r. r.status) (accepted_by_all S hart call passed).0,
)
