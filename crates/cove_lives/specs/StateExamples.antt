-- The words of a TVM that was just created, and what vCPUs are bound to, for worked examples.
use Rattle.std.specs.Prelude.{ℕ, ◌-◌, List, [], ◌∷◌, ◌++◌, replicate, Option, None, Some}
use Rattle.cove_base.specs.InterruptFiles.{InterruptFile, empty_file}
use Rattle.cove_base.specs.PageWords.{given, host}
use Rattle.cove_base.specs.Places.{all_words}
use Rattle.cove_base.specs.declared.numbers.Role.TheVariants as role
use Rattle.cove_base.specs.declared.registers.Regs.{Regs}
use Rattle.cove_imsic.specs.FileTables.{FileTable}
use Rattle.cove_model.specs.States.{Seat}
use Rattle.cove_model.specs.Tvms.{Binding, Unbinding}
use Rattle.cove_tvm.specs.declared.vcpus.Bound.{Bound}
use Rattle.cove_tvm.specs.declared.vcpus.RunState.TheVariants.{Ready}
use Rattle.cove_tvm.specs.declared.vcpus.VcpuSlot.{VcpuSlot}

-- a board of nine pages and one hart, on which pages 4 to 7 are the root of TVM 1, page 8 is its state page, and all else is 0
abbrev pub begun_words : List ℕ
begun_words = (host 0 ∷ host 0 ∷ host 0 ∷ host 0 ∷ given 1 role.Root ∷ given 1 role.Root ∷ given 1 role.Root ∷ given 1 role.Root ∷ given 1 role.State ∷ [])
    ++ replicate (all_words 9 1 - 9) 0

-- no hart is inside; every hart is on a vCPU of TVM 1
abbrev pub nowhere : ℕ → Option Seat
nowhere hart = None

abbrev pub on_vcpu : (v : ℕ) → ℕ → Option Seat
on_vcpu v hart = Some (record { tvm = 1; cpu = v })

-- two harts with a file each
abbrev pub two_files : (first second : InterruptFile) → FileTable
two_files first second = record { harts = 2; files = 1; states = first ∷ second ∷ [] }

-- the file of hart 1, as the monitor and as the definitions have it
abbrev pub to_second : Option ℕ → Bound
to_second unbinding = record { hart = record { 0 = 1 }; file = 1; unbinding = unbinding }

abbrev pub as_second : Unbinding → Binding
as_second unbinding = record { hart = 1; file = 1; unbinding = unbinding }

-- a vCPU that was just created with page 5, by its registers
abbrev pub new_slot : Regs → VcpuSlot
new_slot regs = record { regs = regs; run = Ready; bound = None; saved = empty_file; page = record { 0 = 5 } }
