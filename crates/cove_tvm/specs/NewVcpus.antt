-- What a new vCPU is, and that words and ground stand after one was added.
use Rattle.std.specs.Prelude.{◌≡◌, ◌≢◌, ℕ, suc, ◌/◌, ◌++◌, List, [], ◌∷◌, Some, None, replicate}
use Rattle.cove_base.specs.InterruptFiles.{empty_file}
use Rattle.cove_base.specs.Measurement.{Extension, Record, VcpuRecord, registers_of}
use Rattle.cove_base.specs.PageWords.{given}
use Rattle.cove_base.specs.Places.{page_word}
use Rattle.cove_base.specs.Registers.{registers}
use Rattle.cove_base.specs.Stores.{AllAllowed, fills, stored}
use Rattle.cove_base.specs.declared.calls.HostCall.TheVariants.{Vcpu as VcpuCall}
use Rattle.cove_base.specs.declared.numbers.Role.TheVariants.{Vcpu}
use Rattle.cove_model.specs.HostCalls.{rule}
use Rattle.cove_model.specs.LawfulStores.{IsLawful}
use Rattle.cove_model.specs.Seated.{IsSeated}
use Rattle.cove_model.specs.States.{State, find_cpu}
use Rattle.cove_model.specs.Tvms.{Tvm as ModelTvm}
use Rattle.cove_tvm.specs.GivenRuns.{MayGive}
use Rattle.cove_tvm.specs.Slots.{slot_at}
use Rattle.cove_tvm.specs.Stands.{Stands}
use Rattle.cove_tvm.specs.TvmLends.{with_tvm}
use Rattle.cove_tvm.specs.declared.ground.Ground.{Ground}
use Rattle.cove_tvm.specs.declared.machines.Tvm.{Tvm}
use Rattle.cove_tvm.specs.declared.vcpus.RunState.TheVariants.{Ready}
use Rattle.cove_tvm.specs.declared.vcpus.VcpuSlot.{VcpuSlot}

-- a vCPU as it is created: it may run, is not bound, and its registers are 0
pub record IsNewCpu (page : ℕ) (slot : VcpuSlot) : Type 0 where
  pub run : slot.run ≡ Ready
  pub x : registers slot.regs ≡ replicate 32 0
  pub place : slot.regs.pc ≡ 0
  pub bound : slot.bound ≡ None
  pub saved : slot.saved ≡ empty_file
  pub page_is : slot.page.0 ≡ page

-- a TVM has a new vCPU with a number, which is measured, and all else stays
pub record AddsCpu (v page : ℕ) (old new : Tvm) : Type 0 where
  pub slot : VcpuSlot
  pub there : slot_at new v ≡ Some slot
  pub begins : IsNewCpu page slot
  pub others : (u : ℕ) → u ≢ v → slot_at new u ≡ slot_at old u
  pub measured :
      (records : List Record) (extensions : List Extension) → old.registers ≡ registers_of records extensions
      → new.registers ≡ registers_of (records ++ VcpuRecord v ∷ []) extensions
  pub rest : new ≡ record old { registers = new.registers; v0 = new.v0; v1 = new.v1; v2 = new.v2; v3 = new.v3 }

-- the page is given to the TVM
abbrev pub vcpu_stores : (t state : ℕ) → List (ℕ × ℕ)
vcpu_stores t state = fills (page_word (state / 4096)) 1 (given t Vcpu)

-- Where a TVM has one more vCPU, and its page, all of it stands for the state after the call.
abbrev pub AddingStands : Type 0
AddingStands =
    (k : ℕ) (words : List ℕ) (G : Ground) (S : State) (hart v state : ℕ) (old new : Tvm) (model : ModelTvm)
    → MayGive words G S k state 1 old model → IsSeated S → find_cpu model v ≡ None → AddsCpu v (state / 4096) old new
    → Stands (stored words (vcpu_stores (suc k) state)) (record G { tvms = with_tvm G.tvms k new })
    (rule S hart (VcpuCall (suc k) v state)).outcome.state

-- and its store is lawful
abbrev pub AddingIsLawful : Type 0
AddingIsLawful =
    (k : ℕ) (words : List ℕ) (G : Ground) (S : State) (hart state : ℕ) (old : Tvm) (model : ModelTvm)
    → MayGive words G S k state 1 old model
    → AllAllowed (IsLawful G.pages G.harts hart words) words (vcpu_stores (suc k) state)
