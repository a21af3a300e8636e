-- What a call that is built leaves, and one that is not.
use Rattle.std.proofs.Common.{◌≡◌, ℕ, List, [], ◌∷◌, not, Bool, true, false, Some, refl, sym, ap, subst}
use Rattle.cove_model.specs.Machine.{HostCall, Reply, NotSupported, is_built, refusal, reply_by, rule_of, state_after_rule, Rule, rule, first_failing, plain, State}
use Rattle.cove_host.proofs.Creating.{stays_within}
use Rattle.cove_tvm.specs.Called.{Called}
use Rattle.cove_tvm.specs.Stands.{Stands}
use Rattle.cove_tvm.specs.declared.ground.Ground.{Ground}

-- the rule of a call, with whether it is built
abbrev rule_if : Bool → Rule → Rule
rule_if built r = record r { checks = plain (not built) NotSupported ∷ r.checks }

-- what a rule answers and leaves in a state
abbrev IsAnswer : (new : List ℕ) (H : Ground) → Reply → State → Rule → Type 0
IsAnswer new H reply S r = (reply ≡ reply_by r) × Stands new H (state_after_rule S r)

-- a call that is built is answered by its rule
pub built_served : (hart : ℕ) (call named : HostCall) (words new : List ℕ) (G H : Ground) (reply : Reply) → call ≡ named
    → Called hart (λ S. rule S hart named) words new G H reply → is_built named ≡ true → Called hart (λ S. rule_of S hart call) words new G H reply
built_served hart call named words new G H reply is called built =
    subst (λ (k : HostCall). Called hart (λ S. rule_of S hart k) words new G H reply) (sym is) (record {
      serves = λ S met stands. as_built S (called.serves S met stands);
      lawful = called.lawful;
      refused = called.refused;
      fences = called.fences;
      count = called.count;
      size = called.size;
    })
  where
    as_built : (S : State) → IsAnswer new H reply S (rule_if true (rule S hart named)) → IsAnswer new H reply S (rule_if (is_built named) (rule S hart named))
    as_built S answer = subst (λ b. IsAnswer new H reply S (rule_if b (rule S hart named))) (sym built) answer

-- it is not supported, and changes nothing
pub unbuilt_served : (hart : ℕ) (call : HostCall) (words : List ℕ) (G : Ground) → is_built call ≡ false
    → Called hart (λ S. rule_of S hart call) words words G G (record { status = NotSupported; value = 0 })
unbuilt_served hart call words G unbuilt = record {
  serves = λ S met stands. rw (refused S) (refl, stands);
  lawful = ([], tt, refl);
  refused = λ e. (refl, refl);
  fences = λ most within. stays_within G.pages G.harts words words most (λ at past. refl) within;
  count = refl;
  size = refl;
} where
  refused : (S : State) → refusal S hart call ≡ Some (record { status = NotSupported; value = 0 })
  refused S = ap (λ b. first_failing (plain (not b) NotSupported ∷ (rule S hart call).checks)) unbuilt
