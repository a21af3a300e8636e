-- What calls of the host and of guests are answered, and what they do.
use Rattle.std.specs.Prelude.{ℕ, Bool, true, false, not, ◌∷◌, Option, Some, None, unwrap_or}
use Rattle.cove_base.specs.declared.statuses.Status.TheVariants.{Success, NotSupported}
use Rattle.cove_model.specs.Refusals.{first_failing, plain}
use Rattle.cove_model.specs.Types.{HostCall, Convert, GlobalFence, LocalFence, Reclaim, Create, Region, Tables, Measured, Vcpu, Finalize, Zero, Shared, Run, Invalidate, TvmFence, Validate, Remove, Destroy, Kick, Info, Bind, Unbind, Unbound, Inject, Reply}
use Rattle.cove_model.specs.HostCalls.{Outcome, Rule, rule}
use Rattle.cove_model.specs.States.{State}

-- the calls that the monitor has so far
abbrev pub is_built : HostCall → Bool
is_built (Convert base n) = true
is_built GlobalFence = true
is_built LocalFence = true
is_built (Reclaim base n) = true
is_built (Create root state) = true
is_built (Region t gpa len) = true
is_built (Tables t base n) = true
is_built (Measured t src dst n gpa) = true
is_built (Vcpu t v state) = true
is_built (Finalize t pc arg) = true
is_built (Zero t base n gpa) = true
is_built (Shared t base n gpa) = true
is_built (Run t v fuel) = false
is_built (Invalidate t gpa n) = false
is_built (TvmFence t) = false
is_built (Validate t gpa n) = false
is_built (Remove t gpa n) = false
is_built (Destroy t) = true
is_built (Kick hart) = false
is_built Info = true
is_built (Bind t v hart file) = false
is_built (Unbind t v) = false
is_built (Unbound t v) = false
is_built (Inject t v id) = false

-- the rule by which a call is answered: one that is not built is not supported, in every state
abbrev pub rule_of : State → (hart : ℕ) → HostCall → Rule
rule_of S h call =
    record (rule S h call) { checks = plain (not (is_built call)) NotSupported ∷ (rule S h call).checks }

-- what is answered by a rule: its first check that fails, or success with its value
abbrev pub refusal_by : Rule → Option Reply
refusal_by r = first_failing r.checks

abbrev pub reply_by : Rule → Reply
reply_by r = unwrap_or (refusal_by r) (record { status = Success; value = r.outcome.value })

-- the state afterwards: a refused call changes nothing
abbrev pub state_by : Option Reply → (before accepted : State) → State
state_by None before accepted = accepted
state_by (Some reply) before accepted = before

abbrev pub state_after_rule : State → Rule → State
state_after_rule S r = state_by (refusal_by r) S r.outcome.state

-- ---- the same by the names of the calls of the host

-- the refusal of a call by a hart, if it is refused
abbrev pub refusal : State → (hart : ℕ) → HostCall → Option Reply
refusal S h call = refusal_by (rule_of S h call)

-- the outcome of an accepted call: the state after it, and the value beside the success
abbrev pub outcome : State → (hart : ℕ) → HostCall → Outcome
outcome S h call = (rule S h call).outcome

abbrev pub effect : State → (hart : ℕ) → HostCall → State
effect S h call = (outcome S h call).state

abbrev pub value_of : State → (hart : ℕ) → HostCall → ℕ
value_of S h call = (outcome S h call).value

-- what a call of a hart is answered
abbrev pub reply_to : State → (hart : ℕ) → HostCall → Reply
reply_to S h call = reply_by (rule_of S h call)

-- the state after a call of a hart, but for the ended line
abbrev pub state_after : State → (hart : ℕ) → HostCall → State
state_after S h call = state_after_rule S (rule_of S h call)
