-- The outcome of finalizing a TVM.
use Rattle.std.proofs.Common.{◌≡◌, ℕ, zero, suc, List, [], Some, refl}
use Rattle.std.proofs.lemmas.Option.{none-some}
use Rattle.cove_model.specs.Machine.{Finalize, Success, Rule, rule, State, find_tvm}
use Rattle.cove_host.proofs.PassedCalls.{AllPass, passed_call, stands_written}
use Rattle.cove_host.proofs.CheckedLemmas.{each_passes}
use Rattle.cove_host.proofs.LifeTold.{both_live}
use Rattle.cove_tvm.specs.Called.{Called}
use Rattle.cove_host.specs.Finalized.{IsFinalized}
use Rattle.cove_host.specs.FoundTvms.{ChangesTvm}
use Rattle.cove_model.specs.Tvms.{Tvm as ModelTvm}
use Rattle.cove_tvm.proofs.BuiltRegions.{live_stands}
use Rattle.cove_tvm.proofs.FinalizedTvm.{finalize_stands}
use Rattle.cove_tvm.specs.Stands.{Stands}
use Rattle.cove_tvm.specs.TvmTables.{live_at}
use Rattle.cove_tvm.specs.declared.ground.Ground.{Ground}
use Rattle.cove_tvm.specs.declared.machines.Tvm.{Tvm}

module _ (words : List ℕ) (G H : Ground) (hart pc arg : ℕ) where
  -- the rule of the call
  abbrev by_rule : (t : ℕ) → State → Rule
  by_rule t S = rule S hart (Finalize t pc arg)

  -- the ground after the TVM with a number was finalized
  abbrev Finishes : (t : ℕ) → Type 0
  Finishes t = ChangesTvm t (IsFinalized pc arg) G H

  finished : (t : ℕ) (S : State) (tvm : Tvm) (model : ModelTvm) → Stands words G S → live_at G.tvms t ≡ Some tvm → find_tvm S t ≡ Some model
      → Finishes t → Stands words H (rule S hart (Finalize t pc arg)).outcome.state
  finished zero S tvm model stands live found finishes = absurd (none-some tvm live)
  finished (suc k) S tvm model stands live found finishes =
      let done = finishes tvm live in
      let new = done.0 in
      let old = live_stands words G S (suc k) tvm model stands live found in
      stands_written G G.memory k done.2 done.1.rest
      (finalize_stands k words G S hart pc arg tvm model new.registers new.v0 new.v1 new.v2 new.v3 stands live found
      (done.1.measured model.records model.extensions old.fields.registers) done.1.v0 done.1.v1 done.1.v2 done.1.v3)

  -- an accepted call, by what the code leaves
  pub finalizes : (t : ℕ) → AllPass (by_rule t) words G → Finishes t
      → Called hart (by_rule t) words words G H (record { status = Success; value = 0 })
  finalizes t told finishes =
      passed_call hart (by_rule t) words G H [] told
      (λ S met stands.
      let lives = each_passes (by_rule t S).checks (told S stands) 0 in
      let both = both_live words G S t (live_at G.tvms t) (find_tvm S t) (stands.tvm t) lives in
      finished t S both.0 both.1 stands both.2 both.3 finishes)
      (λ S. refl) tt (λ at past. refl)
