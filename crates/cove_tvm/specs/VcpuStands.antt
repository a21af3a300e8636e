-- Which vCPU of the monitor's stands for one of the definitions.
use Rattle.std.specs.Prelude.{◌≡◌, ℕ, ◌<◌, ◌≤◌, true, false, List, Option, Some, None, slice_index}
use Rattle.cove_base.specs.InterruptFiles.{InterruptFile}
use Rattle.cove_base.specs.PageWords.{given}
use Rattle.cove_base.specs.Places.{page_word}
use Rattle.cove_base.specs.Registers.{registers}
use Rattle.cove_base.specs.declared.numbers.Role.TheVariants.{Vcpu}
use Rattle.cove_base.specs.declared.registers.Regs.{Regs}
use Rattle.cove_imsic.specs.FileTables.{FileTable, HasFile, file_at}
use Rattle.cove_model.specs.States.{Seat}
use Rattle.cove_model.specs.Tvms.{Binding, Cpu, Unbinding, NotBegun, Begun}
use Rattle.cove_model.specs.WordsStand.{number_in}
use Rattle.cove_tvm.specs.Entered.{WaitsSince}
use Rattle.cove_tvm.specs.declared.vcpus.Bound.{Bound}
use Rattle.cove_tvm.specs.declared.vcpus.RunState.{RunState}
use Rattle.cove_tvm.specs.declared.vcpus.RunState.TheVariants.{Ready, Running, Stopped}
use Rattle.cove_tvm.specs.declared.vcpus.VcpuSlot.{VcpuSlot}

module _ (harts : ℕ) (seats : ℕ → Option Seat) (t v : ℕ) where
  -- no hart runs it, and its registers and its place are known
  pub record Rests (regs : Regs) (cpu : Cpu) : Type 0 where
    pub nobody : (hart : ℕ) → hart < harts → seats hart ≡ Some (record { tvm = t; cpu = v }) → ⊥
    pub x : registers regs ≡ cpu.x
    pub place : regs.pc ≡ cpu.pc

  -- what it does; the registers of one that runs are with its hart
  abbrev pub RunStands : RunState → Regs → Cpu → Type 0
  RunStands Ready regs cpu = (cpu.stopped ≡ false) × Rests regs cpu
  RunStands (Running hart) regs cpu =
      (cpu.stopped ≡ false) × (hart.0 < harts) × (seats hart.0 ≡ Some (record { tvm = t; cpu = v }))
  RunStands Stopped regs cpu = (cpu.stopped ≡ true) × Rests regs cpu

module _ (pages harts : ℕ) (words : List ℕ) (files : FileTable) (t : ℕ) where
  -- whether its unbinding began, and since which number
  abbrev pub UnbindingStands : Option ℕ → Unbinding → Type 0
  UnbindingStands None NotBegun = Unit {0}
  UnbindingStands None (Begun waiting) = ⊥
  UnbindingStands (Some since) NotBegun = ⊥
  UnbindingStands (Some since) (Begun waiting) =
      (since ≤ number_in pages harts words t) × WaitsSince pages harts words t since waiting

  -- it is bound to a file of the board, which has its interrupts
  pub record IsBoundTo (bound : Bound) (binding : Binding) (interrupts : InterruptFile) : Type 0 where
    pub hart : bound.hart.0 ≡ binding.hart
    pub file : bound.file ≡ binding.file
    pub there : HasFile files binding.hart binding.file
    pub holds : file_at files binding.hart binding.file ≡ Some interrupts
    pub unbinding : UnbindingStands bound.unbinding binding.unbinding

  -- where its interrupts are: saved with it while it is not bound
  abbrev pub BindingStands : Option Bound → (saved : InterruptFile) → Option Binding → (interrupts : InterruptFile) → Type 0
  BindingStands None saved None interrupts = saved ≡ interrupts
  BindingStands None saved (Some binding) interrupts = ⊥
  BindingStands (Some bound) saved None interrupts = ⊥
  BindingStands (Some bound) saved (Some binding) interrupts = IsBoundTo bound binding interrupts

module _ (pages harts : ℕ) (words : List ℕ) (seats : ℕ → Option Seat) (files : FileTable) (t v : ℕ) where
  -- a vCPU that was created, with the page that it was given
  pub record CpuStands (slot : VcpuSlot) (cpu : Cpu) : Type 0 where
    pub runs : RunStands harts seats t v slot.run slot.regs cpu
    pub bound : BindingStands pages harts words files t slot.bound slot.saved cpu.binding cpu.file
    pub page_fits : slot.page.0 < pages
    pub page_is : slice_index words (page_word slot.page.0) ≡ given t Vcpu

  -- there is one on both sides, or on none
  abbrev pub SlotStands : Option VcpuSlot → Option Cpu → Type 0
  SlotStands None None = Unit {0}
  SlotStands None (Some cpu) = ⊥
  SlotStands (Some slot) None = ⊥
  SlotStands (Some slot) (Some cpu) = CpuStands slot cpu
