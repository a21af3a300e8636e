-- The outcome of the creation of a vCPU.
use Rattle.std.proofs.Common.{◌≡◌, ◌+◌, ◌/◌, ◌≤◌, ◌∙◌, ℕ, zero, suc, false, List, [], ◌∷◌, get_or, Option, Some, None, is_some, Ok, refl, sym, ap, subst, inr, arith}
use Rattle.std.proofs.lemmas.Option.{none-some}
use Rattle.std.specs.Prelude.{unwrap_or}
use Rattle.cove_base.proofs.StoreLemmas.{AllAllowed-weaker, get_or-fills_other}
use Rattle.cove_model.specs.Machine.{given, AllAllowed, stored, Vcpu, Success, AllFree, CpuNumber, IsBuilding, Live, NoCpuYet, WithinMemory, Rule, rule, AllowsLawful, IsLawful, Aligned, Check, IsSeated, State, find_cpu, Cpu, new_tvm}
use Rattle.cove_base.specs.declared.calls.HostCall.TheVariants.{Vcpu as VcpuCall}
use Rattle.cove_host.proofs.PassedCalls.{AllPass, passed_call, stands_written}
use Rattle.cove_host.proofs.PassedChecks.{Gives, gives, may_give}
use Rattle.cove_host.proofs.CheckedLemmas.{each_passes}
use Rattle.cove_tvm.specs.Called.{Called, IsReady}
use Rattle.cove_host.specs.Checked.{all_checked}
use Rattle.cove_host.specs.FoundTvms.{ChangesTvm}
use Rattle.cove_tvm.proofs.NewVcpu.{adding_is_lawful, adding_stands}
use Rattle.cove_tvm.specs.NewVcpus.{AddsCpu, vcpu_stores}
use Rattle.cove_tvm.specs.Stands.{Stands}
use Rattle.cove_tvm.specs.declared.ground.Ground.{Ground}

-- the checks of the call
abbrev pub adding_checks : State → (t v state : ℕ) → List Check
adding_checks S t v state = Live S t ∷ IsBuilding S t ∷ CpuNumber v ∷ NoCpuYet S t v ∷ Aligned state ∷ WithinMemory S state 1 ∷ AllFree S state 1 ∷ []

no_cpu : (x : Option Cpu) → is_some x ≡ false → x ≡ None
no_cpu None e = refl
no_cpu (Some cpu) e = absurd cc

-- what is known of a call that all checks let pass
record Passed (words : List ℕ) (G : Ground) (S : State) (t v state : ℕ) : Type 0 where
  given : Gives words G S t state 1
  none : find_cpu given.model v ≡ None

passed : (words : List ℕ) (G : Ground) (S : State) (t v state : ℕ) → Stands words G S → Ok tt ≡ all_checked (adding_checks S t v state)
    → Passed words G S t v state
passed words G S t v state stands e =
    let pass = each_passes (adding_checks S t v state) e in
    let given = gives t state 1 stands (pass 0) (pass 5) (pass 6) in
    record {
      given = given;
      none = no_cpu (find_cpu given.model v) (ap (λ x. is_some (find_cpu (unwrap_or x (new_tvm t)) v)) (sym given.found) ∙ pass 3);
    }

module _ (words : List ℕ) (G : Ground) (hart v state : ℕ) (ready : IsReady words G) where
  -- the rule of the call
  abbrev by_rule : (t : ℕ) → State → Rule
  by_rule t S = rule S hart (VcpuCall t v state)

  pass : (t : ℕ) → AllPass (by_rule t) words G → (S : State) → Stands words G S → Passed words G S t v state
  pass t told S stands = passed words G S t v state stands (told S stands)

  -- the page is on the board
  page_inside : (t : ℕ) → AllPass (by_rule t) words G → state / 4096 + 1 ≤ G.pages
  page_inside t told = (pass t told ready.state ready.stands).given.inside

  store_lawful : (t : ℕ) → AllPass (by_rule t) words G → AllAllowed (IsLawful G.pages G.harts hart words) words (vcpu_stores t state)
  store_lawful zero told = let one = (pass 0 told ready.state ready.stands).given in absurd (none-some one.old one.live)
  store_lawful (suc k) told =
      let one = (pass (suc k) told ready.state ready.stands).given in
      adding_is_lawful k words G ready.state hart state one.old one.model (may_give ready.stands one)

  -- and so allowed where every lawful store is
  pub store_allowed : (allows : List ℕ → ℕ → ℕ → Type 0) → AllowsLawful allows G.pages G.harts hart words → (t : ℕ) → AllPass (by_rule t) words G
      → AllAllowed allows words (vcpu_stores t state)
  store_allowed allows lawful t told =
      AllAllowed-weaker (IsLawful G.pages G.harts hart words) allows words (vcpu_stores t state) lawful (store_lawful t told)

  module _ (H : Ground) where
    abbrev Adds : (t : ℕ) → Type 0
    Adds t = ChangesTvm t (AddsCpu v (state / 4096)) G H

    after : (t : ℕ) (S : State) (stands : Stands words G S) → IsSeated S → Passed words G S t v state → Adds t
        → Stands (stored words (vcpu_stores t state)) H (rule S hart (VcpuCall t v state)).outcome.state
    after zero S stands seated one adds = absurd (none-some one.given.old one.given.live)
    after (suc k) S stands seated one adds =
        let done = adds one.given.old one.given.live in
        stands_written G G.memory k done.2 refl
        (adding_stands k words G S hart v state one.given.old done.0 one.given.model (may_give stands one.given) seated one.none done.1)

    behind : (t : ℕ) → AllPass (by_rule t) words G → (at : ℕ) → G.pages ≤ at → get_or (stored words (vcpu_stores t state)) at 0 ≡ get_or words at 0
    behind t told at past = let inside = page_inside t told in get_or-fills_other words (state / 4096) 1 (given t Vcpu) at (inr (omega arith))

    -- an accepted call, by what the code leaves
    pub adds_vcpu : (t : ℕ) (new : List ℕ) → AllPass (by_rule t) words G → Adds t → new ≡ stored words (vcpu_stores t state)
        → Called hart (by_rule t) words new G H (record { status = Success; value = 0 })
    adds_vcpu t new told adds stores =
        subst (λ ws. Called hart (by_rule t) words ws G H (record { status = Success; value = 0 })) (sym stores)
        (passed_call hart (by_rule t) words G H (vcpu_stores t state) told
        (λ S met stands. after t S stands met.seated (pass t told S stands) adds) (λ S. refl) (store_lawful t told)
        (λ at past. behind t told at (omega arith)))
