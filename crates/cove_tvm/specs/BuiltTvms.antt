-- What the calls that build a TVM leave standing.
use Rattle.std.specs.Prelude.{Option, None, replicate, ◌≡◌, ℕ, suc, ◌/◌, ◌<◌, ◌++◌, List, [], ◌∷◌, IsTrue, Some}
use Rattle.cove_base.specs.Registers.{registers}
use Rattle.cove_base.specs.declared.calls.HostCall.TheVariants.{Finalize, Region}
use Rattle.cove_base.specs.Measurement.{FinalizeRecord, registers_of}
use Rattle.cove_base.specs.Modes.{guest_limit}
use Rattle.cove_model.specs.HostCalls.{rule}
use Rattle.cove_model.specs.States.{State, find_tvm}
use Rattle.cove_model.specs.Tvms.{Tvm as ModelTvm}
use Rattle.cove_region.specs.GuestMaps.{GuestMap, covers}
use Rattle.cove_region.specs.Standing.{StandFor}
use Rattle.cove_tvm.specs.Stands.{Stands}
use Rattle.cove_tvm.specs.TvmLends.{with_tvm}
use Rattle.cove_tvm.specs.TvmTables.{live_at}
use Rattle.cove_tvm.specs.declared.ground.Ground.{Ground}
use Rattle.cove_tvm.specs.declared.machines.Life.TheVariants.{Runnable}
use Rattle.cove_tvm.specs.declared.machines.Tvm.{Tvm}
use Rattle.cove_tvm.specs.declared.vcpus.VcpuSlot.{VcpuSlot}

-- a TVM of the definitions with one more region
abbrev pub with_region : (gpa len : ℕ) → ModelTvm → ModelTvm
with_region gpa len tvm = record tvm { regions = tvm.regions ++ record { first = gpa / 4096; count = len / 4096 } ∷ [] }

-- Where the regions of a TVM stand for those with one more, all of it stands for the state after the call.
abbrev pub RegionStands : Type 0
RegionStands =
    (k : ℕ) (words : List ℕ) (G : Ground) (S : State) (hart gpa len : ℕ) (tvm : Tvm) (model : ModelTvm) (guests : GuestMap)
    → Stands words G S → live_at G.tvms (suc k) ≡ Some tvm → find_tvm S (suc k) ≡ Some model
    → StandFor guests (with_region gpa len model) → ((g : ℕ) → IsTrue (covers guests.regions g) → g < guest_limit tvm.tables.mode)
    → Stands words (record G { tvms = with_tvm G.tvms k (record tvm { regions = guests }) })
    (rule S hart (Region (suc k) gpa len)).outcome.state

-- a vCPU that is started: its number in a0, the argument in a1, zeros elsewhere, its place; all else stays
pub record IsStarted (pc arg v : ℕ) (old new : VcpuSlot) : Type 0 where
  pub x : registers new.regs ≡ replicate 10 0 ++ v ∷ arg ∷ replicate 20 0
  pub place : new.regs.pc ≡ pc
  pub run : new.run ≡ old.run
  pub bound : new.bound ≡ old.bound
  pub saved : new.saved ≡ old.saved
  pub page : new.page ≡ old.page

-- where there is one
abbrev pub AreStarted : (pc arg v : ℕ) → Option VcpuSlot → Option VcpuSlot → Type 0
AreStarted pc arg v None None = Unit {0}
AreStarted pc arg v None (Some new) = ⊥
AreStarted pc arg v (Some old) None = ⊥
AreStarted pc arg v (Some old) (Some new) = IsStarted pc arg v old new

-- Where its registers are extended by the finalize record and its vCPUs are started, all of it stands for the state after a
-- TVM was finalized.
abbrev pub FinalizeStands : Type 0
FinalizeStands =
    (k : ℕ) (words : List ℕ) (G : Ground) (S : State) (hart pc arg : ℕ) (tvm : Tvm) (model : ModelTvm)
    (measured : List (List ℕ)) (v0 v1 v2 v3 : Option VcpuSlot)
    → Stands words G S → live_at G.tvms (suc k) ≡ Some tvm → find_tvm S (suc k) ≡ Some model
    → measured ≡ registers_of (model.records ++ FinalizeRecord pc arg ∷ []) model.extensions
    → AreStarted pc arg 0 tvm.v0 v0 → AreStarted pc arg 1 tvm.v1 v1 → AreStarted pc arg 2 tvm.v2 v2 → AreStarted pc arg 3 tvm.v3 v3
    → Stands words
    (record G { tvms = with_tvm G.tvms k (record tvm { life = Runnable; registers = measured; v0 = v0; v1 = v1; v2 = v2; v3 = v3 }) })
    (rule S hart (Finalize (suc k) pc arg)).outcome.state
