-- Where a call is accepted, each of its checks passes.
use Rattle.std.proofs.Common.{◌≡◌, ℕ, Bool, true, false, cond, List, [], ◌∷◌, Some, None, refl, sym}
use Rattle.std.proofs.lemmas.Option.{none-some}
use Rattle.cove_model.specs.Machine.{HostCall, Reply, Check, first_failing, refusal, rule_of, rule, State}

-- every check passes
abbrev pub Passed : List Check → Type 0
Passed [] = Unit {0}
Passed (check ∷ checks) = (check.fails ≡ false) × Passed checks

pub passed : (checks : List Check) → first_failing checks ≡ None → Passed checks
passed [] e = tt
passed (check ∷ checks) e = go check.fails refl e (λ q. passed checks q)
  where
    reply : Reply
    reply = record { status = check.status; value = check.value }

    go : (b : Bool) → check.fails ≡ b → cond b (Some reply) (first_failing checks) ≡ None → (first_failing checks ≡ None → Passed checks) → (check.fails ≡ false) × Passed checks
    go true t q more = absurd (none-some reply (sym q))
    go false t q more = (t, more q)

-- the checks of a call's own row
pub row_passed : (S : State) (h : ℕ) (call : HostCall) → refusal S h call ≡ None → Passed (rule S h call).checks
row_passed S h call e = (passed (rule_of S h call).checks e).1
