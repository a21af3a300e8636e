-- A TVM is given memory: what the checks tell, and what the code leaves.
use Rattle.std.proofs.Common.{◌≡◌, ℕ, zero, suc, ◌/◌, false, List, Some, refl}
use Rattle.cove_base.proofs.StoreLemmas.{AllAllowed-weaker}
use Rattle.cove_base.specs.Modes.{leaves_of}
use Rattle.cove_model.specs.Machine.{AllAllowed, Zero, Success, Rule, rule, AllowsLawful, IsLawful, is_free, zeros, State}
use Rattle.cove_host.proofs.GrowingRuns.{Grows, run_allowed, run_called, run_grows, run_mapped}
use Rattle.cove_host.proofs.PassedCalls.{AllPass, stands_written}
use Rattle.cove_host.specs.FoundTvms.{ChangesTvm}
use Rattle.cove_host.specs.GuestRuns.{EndsWithin}
use Rattle.cove_host.specs.Mapped.{MapsIn, MayMapBy}
use Rattle.cove_tvm.proofs.PrivateRuns.{memory_is_lawful, prepares, zero_stands}
use Rattle.cove_tvm.specs.Called.{Called, IsReady}
use Rattle.cove_tvm.specs.PrivateRuns.{FillsFrames, memory_stores, with_memory}
use Rattle.cove_tvm.specs.Stands.{Stands}
use Rattle.cove_tvm.specs.TvmTables.{live_at}
use Rattle.cove_tvm.specs.declared.ground.Ground.{Ground}
use Rattle.cove_tvm.specs.declared.machines.Tvm.{Tvm}

module _ {words : List ℕ} {G : Ground} (ready : IsReady words G) (base n gpa : ℕ) where
  abbrev GrowsAlways : (t : ℕ) → Type 0
  GrowsAlways t = (S : State) → Stands words G S → Grows is_free words G S t base n gpa

  -- the stores that give the pages are allowed where every lawful store is, and so is the run then
  pub memory_allowed : (hart t : ℕ) → GrowsAlways t → (allows : List ℕ → ℕ → ℕ → Type 0) → AllowsLawful allows G.pages G.harts hart words
      → AllAllowed allows words (memory_stores t base n)
  memory_allowed hart zero each allows lawful = absurd (each ready.state ready.stands)
  memory_allowed hart (suc k) each allows lawful =
      let one = each ready.state ready.stands in
      AllAllowed-weaker (IsLawful G.pages G.harts hart words) allows words (memory_stores (suc k) base n) lawful
      (memory_is_lawful k words G ready.state hart base n gpa one.old one.model one.may)

  pub memory_maps : (hart t : ℕ) → GrowsAlways t → (allows : List ℕ → ℕ → ℕ → Type 0) → AllowsLawful allows G.pages G.harts hart words
      → (tvm : Tvm) → live_at G.tvms t ≡ Some tvm
      → MayMapBy allows tvm.tables.pages tvm.tables.root.0 (leaves_of tvm.tables.mode) (gpa / 4096) (base / 4096) n false (with_memory words t base n) tvm.pool.pages
  memory_maps hart zero each allows lawful tvm live = absurd (each ready.state ready.stands)
  memory_maps hart (suc k) each allows lawful tvm live =
      let one = each ready.state ready.stands in
      run_allowed one.may (prepares one.may) hart allows lawful tvm live

  -- ---- the call for zeros

  module _ (hart : ℕ) where
    -- the rule of the call
    abbrev by_rule : (t : ℕ) → State → Rule
    by_rule t S = rule S hart (Zero t base n gpa)

    pub zero_grows : (t : ℕ) → EndsWithin G t gpa n → AllPass (by_rule t) words G → GrowsAlways t
    zero_grows t near told = run_grows ready base n gpa is_free false t near told

    -- an accepted call, by what the code leaves
    pub adds_zero : (H : Ground) (frames : List (List ℕ)) (new : List ℕ) → FillsFrames (base / 4096) n (λ j. zeros) G.memory frames
        → (t : ℕ) → EndsWithin G t gpa n → AllPass (by_rule t) words G
        → ChangesTvm t (MapsIn (gpa / 4096) (base / 4096) n false (with_memory words t base n) new) (record G { memory = frames }) H
        → Called hart (by_rule t) words new G H (record { status = Success; value = 0 })
    adds_zero H frames new filled zero near told maps = absurd (zero_grows 0 near told ready.state ready.stands)
    adds_zero H frames new filled (suc k) near told maps =
        let one = zero_grows (suc k) near told ready.state ready.stands in
        let done = maps one.old one.may.live in
        run_called one.may (prepares one.may) hart (by_rule (suc k)) new H done.1.left told done.1.mapped
        (memory_stores (suc k) base n, memory_is_lawful k words G ready.state hart base n gpa one.old one.model one.may, refl)
        (λ S met stands.
        let here = zero_grows (suc k) near told S stands in
        let did = maps here.old here.may.live in
        stands_written G frames k did.2 did.1.rest
        (zero_stands k words G S hart base n gpa here.old here.model frames new did.1.left here.may filled did.1.room
        (run_mapped here.may (prepares here.may) new did.1.left did.1.mapped)))
        (λ S. refl)
