-- States by which the rows of calls of the host are read, one check and one outcome at a time.
use Rattle.std.specs.Prelude.{ℕ, false, List, [], ◌∷◌, map, filter, replicate, slice_set, Option, Some, None}
use Rattle.cove_base.specs.InterruptFiles.{InterruptFile, empty_file}
use Rattle.cove_base.specs.declared.modes.Mode.TheVariants.{Sv48x4}
use Rattle.cove_model.specs.Answers.{effect}
use Rattle.cove_model.specs.Examples.{board}
use Rattle.cove_model.specs.FirstChecks.{reply_of}
use Rattle.cove_model.specs.GuestExamples.{building, mapped, running, tenant}
use Rattle.cove_model.specs.HostCalls.{rule}
use Rattle.cove_model.specs.Mappings.{mapping_of}
use Rattle.cove_model.specs.Owners.{Owner, Host, Free, Given, AsState, page_at}
use Rattle.cove_model.specs.Refusals.{Check}
use Rattle.cove_model.specs.States.{State, cpu_at, on_cpu, on_tvm, opening, seated, tvm_at}
use Rattle.cove_model.specs.Tvms.{Backing, HostPage, Blocked, Mapping, Present, Unbinding, Cpu, Tvm}
use Rattle.cove_model.specs.Types.{HostCall, Reply, Status}

-- ---- answers

-- an answer with its value, and answers without one
abbrev pub answer : Status → (value : ℕ) → Reply
answer status value = record { status = status; value = value }

abbrev pub answers : List Status → List Reply
answers statuses = map (λ status. answer status 0) statuses

-- the answers of the checks that fail, in the order of the checks: of which the first is given
abbrev pub failures : List Check → List Reply
failures checks = map reply_of (filter (λ check. check.fails) checks)

-- those of a call of hart 1
abbrev pub failing : State → HostCall → List Reply
failing S call = failures (rule S 1 call).checks

-- ---- what an accepted call of hart 1 leaves

abbrev pub after_call : State → HostCall → State
after_call S call = effect S 1 call

-- a page of the board, TVM 1, a guest page of it, and a vCPU of it
abbrev pub page_after : State → HostCall → (p : ℕ) → Owner
page_after S call p = page_at (after_call S call).pages p

abbrev pub tvm_after : State → HostCall → Tvm
tvm_after S call = tvm_at (after_call S call) 1

-- a TVM as it is compared: the leading parts that its tables serve stand on a list, for each level
abbrev pub by_levels : Tvm → Tvm × List (List ℕ)
by_levels tvm = (record tvm { prefixes = λ level. [] }, map tvm.prefixes (1 ∷ 2 ∷ 3 ∷ []))

abbrev pub mapping_after : State → HostCall → (guest : ℕ) → Option Mapping
mapping_after S call guest = mapping_of (tvm_after S call) guest

abbrev pub cpu_after : State → HostCall → (v : ℕ) → Cpu
cpu_after S call v = cpu_at (tvm_after S call) v

-- ---- states

-- a state with a page of the board changed; the running state with its TVM changed, and with a vCPU of it changed
abbrev pub with_page : (p : ℕ) → Owner → State → State
with_page p owner S = record S { pages = slice_set S.pages p owner }

abbrev pub with_first_tvm : (how : Tvm → Tvm) → State
with_first_tvm how = on_tvm 1 how running

abbrev pub with_cpu : (v : ℕ) → (how : Cpu → Cpu) → State
with_cpu v how = with_first_tvm (on_cpu v how)

-- a board of two harts and 16 pages that are all free
abbrev pub all_free : State
all_free = record (opening (board 2 [] [] [])) { pages = replicate 16 Free }

-- the TVM with no mapping; with its mappings while it is built
abbrev pub unmapped : State
unmapped = with_first_tvm (λ tvm. record tvm { mappings = [] })

abbrev pub mapped_early : State
mapped_early = with_first_tvm (λ tvm. record tvm { runnable = false })

-- a TVM whose one region is guest page 512, which no table page serves; one that maps that page, in no region
abbrev pub far : Tvm → Tvm
far tvm = record tvm { regions = record { first = 512; count = 1 } ∷ []; mappings = [] }

abbrev pub stray : Tvm → Tvm
stray tvm = record tvm { mappings = mapped 512 (HostPage 7) Present ∷ [] }

-- the TVM with tables of four levels, and a third page of them
abbrev pub deep : Tvm → Tvm
deep tvm = record tvm { mode = Sv48x4; tables = 3 ∷ tvm.tables }

-- a board on which two pages of the host have words, and two are free, for a TVM that is built
abbrev pub worded : State
worded = with_page 8 (Host (5 ∷ [])) (with_page 9 (Host (6 ∷ [])) (with_page 11 Free building))

-- the private guest page 20 is mapped so and blocked, and after a fence it waits for these harts
abbrev pub waiting_so : Backing → (waiting : List ℕ) → State
waiting_so backing waiting = with_first_tvm (λ tvm. record tvm { mappings = mapped 20 backing (Blocked [] (Some waiting)) ∷ [] })

-- a TVM with as many regions as it may have
abbrev pub crowded : Tvm → Tvm
crowded tvm = record tvm { regions = replicate 8 (record { first = 16; count = 5 }) }

-- another TVM beside it, to which page 9 is given; no hart is inside either
abbrev pub neighbours : State
neighbours = record (with_page 9 (Given 2 AsState) running) {
  tvms = tenant ∷ record tenant { number = 2 } ∷ [];
  made = 2;
  seats = λ hart. None;
}

-- a hart inside, on the second vCPU
abbrev pub joined_by : (hart : ℕ) → State → State
joined_by hart S = record S { seats = seated hart (Some (record { tvm = 1; cpu = 1 })) S.seats }

-- ---- interrupt files

-- the running state on harts with two files each
abbrev pub filed : State → State
filed S = record S { files = 2 }

-- a vCPU that is bound to a file of a hart
abbrev pub bound : (hart file : ℕ) → Unbinding → Cpu → Cpu
bound hart file unbinding cpu = record cpu { binding = Some (record { hart = hart; file = file; unbinding = unbinding }) }

-- a file in which an interrupt is pending
abbrev pub pending_nine : InterruptFile
pending_nine = record empty_file { pending = 9 ∷ [] }

-- the second vCPU is bound so to file 1 of hart 0
abbrev pub bound_so : Unbinding → State
bound_so unbinding = filed (with_cpu 1 (bound 0 1 unbinding))
