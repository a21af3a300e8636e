-- What a vCPU does next, kicks left aside.
use Rattle.std.specs.Prelude.{ℕ, ◌+◌, ◌%◌, ◌^◌, Bool, ◌==◌, ◌&&◌, not, if◌then◌else◌, List, Option, Some, None, is_some}
use Rattle.std.specs.Option.{option_map_or}
use Rattle.cove_base.specs.Executions.{plan}
use Rattle.cove_base.specs.Instructions.{decoded}
use Rattle.cove_base.specs.Registers.{register}
use Rattle.cove_base.specs.declared.calls.GuestAct.{GuestAct}
use Rattle.cove_base.specs.declared.instructions.CsrMode.{CsrMode}
use Rattle.cove_base.specs.declared.plans.Plan.{Plan}
use Rattle.cove_base.specs.declared.plans.Plan.TheVariants as plans
use Rattle.cove_base.specs.InterruptFiles.{InterruptFile, after_csr, csr_read, top}
use Rattle.cove_model.specs.Tvms.{Cpu}

-- Its fuel is used up; it fetches its next instruction; it writes a register and a file, and goes on; it loads or stores;
-- it asks the monitor; it waits for an interrupt; or it traps.
pub data Deed : Type 0 where
  Tires : Deed
  Fetches : (addr : ℕ) → Deed
  Executes : (rd value pc : ℕ) (file : InterruptFile) → Deed
  Loads : (addr size : ℕ) (signed : Bool) (rd : ℕ) → Deed
  Stores : (addr size value : ℕ) → Deed
  Asks : (act : GuestAct) → Deed
  Waits : Deed
  Traps : (cause : ℕ) → Deed

-- the instruction after one
abbrev pub next_place : (pc : ℕ) → ℕ
next_place pc = (pc + 4) % 2 ^ 64

-- a CSR instruction of a vCPU that is bound; none that names no register
abbrev pub csr_deed : Cpu → (csr : ℕ) → CsrMode → (source : ℕ) → (writes : Bool) → (rd : ℕ) → Option ℕ → Deed
csr_deed cpu csr mode source writes rd None = Traps 2
csr_deed cpu csr mode source writes rd (Some old) =
    Executes rd old (next_place cpu.pc) (after_csr cpu.file csr mode source writes)

-- what a guest asks for by its registers a7, a6, a0 and a1
abbrev pub asked_act : (x : List ℕ) → GuestAct
asked_act x =
    if not (register x 17 == 0x434F5647) then GuestAct.Other
    else if register x 16 == 0 then GuestAct.Share (register x 10) (register x 11)
    else if register x 16 == 1 then GuestAct.Unshare (register x 10) (register x 11)
    else if register x 16 == 2 then GuestAct.Extend
    else if register x 16 == 3 then GuestAct.Evidence
    else if register x 16 == 4 then GuestAct.Allow (register x 10)
    else if register x 16 == 5 then GuestAct.Deny (register x 10)
    else GuestAct.Other

-- an interrupt wakes the vCPU
abbrev pub is_woken : Cpu → Bool
is_woken cpu = is_some cpu.binding && cpu.file.delivery && not (top cpu.file == 0)

-- what it does by the plan of its instruction
abbrev pub planned : Cpu → Plan → Deed
planned cpu (plans.Done rd value pc) = Executes rd value pc cpu.file
planned cpu (plans.Load addr size signed rd) = Loads addr size signed rd
planned cpu (plans.Store addr size value) = Stores addr size value
planned cpu (plans.Csr csr mode source writes rd) =
    csr_deed cpu csr mode source writes rd (if is_some cpu.binding then csr_read cpu.file csr else None)
planned cpu plans.Ecall = Asks (asked_act cpu.x)
planned cpu (plans.Trap cause) = Traps cause
planned cpu plans.Wfi = if is_woken cpu then Executes 0 0 (next_place cpu.pc) cpu.file else Waits

-- what it does with a word that it fetched, and without one
abbrev pub deed_with : Cpu → Option ℕ → Deed
deed_with cpu None = if cpu.fuel == 0 then Tires else Fetches cpu.pc
deed_with cpu (Some word) = option_map_or (λ insn. planned cpu (plan cpu.x cpu.pc insn)) (decoded word) (Traps 2)

abbrev pub deed_of : Cpu → Deed
deed_of cpu = deed_with cpu cpu.latched
