-- States by which the rows of guest calls, deeds and exits are read.
use Rattle.std.specs.Prelude.{ℕ, ◌+◌, ◌*◌, Bool, List, [], ◌∷◌, ◌++◌, map, flat_map, replicate, Some, None}
use Rattle.std.specs.List.{range_with_len}
use Rattle.cove_base.specs.InterruptFiles.{InterruptFile, empty_file}
use Rattle.cove_base.specs.declared.events.Exit.{Exit}
use Rattle.cove_model.specs.Deeds.{Deed, deed_of}
use Rattle.cove_model.specs.GuestCalls.{guest_rule}
use Rattle.cove_model.specs.GuestExamples.{first_cpu, mapped, running}
use Rattle.cove_model.specs.HostCalls.{Rule}
use Rattle.cove_model.specs.Offers.{Offer, deed_offer}
use Rattle.cove_model.specs.Owners.{Host, zeros}
use Rattle.cove_model.specs.States.{Seat, State, cpu_at, new_cpu, on_cpu, on_tvm, tvm_at}
use Rattle.cove_model.specs.Steps.{acted, after_event, performed}
use Rattle.cove_model.specs.Tvms.{OwnPage, HostPage, Present, Blocked, NotBegun, Begun, Cpu, Tvm}
use Rattle.cove_model.specs.Types.{Event, GuestAct, Reply}
use Rattle.cove_model.specs.WorkedRows.{bound, failures, joined_by, with_first_tvm, with_page}

-- ---- guest calls

-- where hart 0 is inside
abbrev pub first_seat : Seat
first_seat = record { tvm = 1; cpu = 0 }

-- the rule of a guest call that hart 0 makes, with its first two arguments; the answers of its checks that fail
abbrev pub rule_with : State → (a0 a1 : ℕ) → GuestAct → Rule
rule_with S a0 a1 act = guest_rule S 0 1 a0 a1 act

abbrev pub failing_with : State → (a0 a1 : ℕ) → GuestAct → List Reply
failing_with S a0 a1 act = failures (rule_with S a0 a1 act).checks

-- the same of one that carries its arguments; its TVM afterwards
abbrev pub failing_act : State → GuestAct → List Reply
failing_act S act = failing_with S 0 0 act

abbrev pub tvm_after_act : State → GuestAct → Tvm
tvm_after_act S act = tvm_at (rule_with S 0 0 act).outcome.state 1

-- registers with these arguments and numbers of a call
abbrev pub asking : (a0 a1 a6 a7 : ℕ) → List ℕ
asking a0 a1 a6 a7 = replicate 10 0 ++ a0 ∷ a1 ∷ replicate 4 0 ++ a6 ∷ a7 ∷ replicate 14 0

-- the first vCPU of TVM 1, and the state with it changed
abbrev pub cpu_in : State → Cpu
cpu_in S = cpu_at (tvm_at S 1) 0

abbrev pub on_first : (how : Cpu → Cpu) → State → State
on_first how S = on_tvm 1 (on_cpu 0 how) S

-- the vCPU after it made a call with these arguments
abbrev pub vcpu_after : State → (a0 a1 : ℕ) → GuestAct → Cpu
vcpu_after S a0 a1 act = cpu_in (acted (on_first (λ cpu. record cpu { x = asking a0 a1 0 0; latched = Some 0x73 }) S) 0 first_seat act)

-- ---- TVMs by their pages

-- a TVM of 64 private pages; with so many shared rows of a page each; with 15 of them, and a row of three pages
abbrev pub wide : Tvm → Tvm
wide tvm = record tvm { regions = record { first = 16; count = 64 } ∷ []; shared = [] }

abbrev pub striped : (rows : ℕ) → Tvm → Tvm
striped rows tvm = record (wide tvm) { shared = map (λ i. 20 + 2 * i) (range_with_len 0 rows) }

abbrev pub one_long : Tvm → Tvm
one_long tvm = record (wide tvm) { shared = (striped 15 tvm).shared ++ 60 ∷ 61 ∷ 62 ∷ [] }

-- a TVM of two regions, one behind the other
abbrev pub halved : Tvm → Tvm
halved tvm = record tvm { regions = record { first = 16; count = 4 } ∷ record { first = 20; count = 4 } ∷ [] }

-- guest page 16 has the words 1 to 8, and 17 others, but is blocked; 19 shows the words 11 to 18 of a page of the host's
abbrev pub readable : State
readable = with_page 7 (Host (range_with_len 11 8)) (with_first_tvm (λ tvm. record tvm {
  mappings = mapped 16 (OwnPage 4 (range_with_len 1 8)) Present ∷ mapped 17 (OwnPage 5 (range_with_len 21 8)) (Blocked (0 ∷ []) None)
      ∷ mapped 19 (HostPage 7) Present ∷ [];
}))

-- guest page 16 has two instructions in its first word
abbrev pub two_instructions : State
two_instructions = with_first_tvm (λ tvm. record tvm { mappings = mapped 16 (OwnPage 4 (0x0002b303000112b7 ∷ [])) Present ∷ [] })

-- numbers below 256 as eight bytes each, the low one first
abbrev pub as_bytes : List ℕ → List ℕ
as_bytes numbers = flat_map (λ n. n ∷ replicate 7 0) numbers

-- ---- deeds

-- a vCPU that fetched a word, with 0x11000 in x5 and 7 in x6
abbrev pub fetched_vcpu : (word : ℕ) → Cpu
fetched_vcpu word = record first_cpu { x = replicate 5 0 ++ 0x11000 ∷ 7 ∷ replicate 25 0; latched = Some word }

-- what it does: unbound; and bound, with a file
abbrev pub doing : (word : ℕ) → Deed
doing word = deed_of (fetched_vcpu word)

abbrev pub doing_with : InterruptFile → (word : ℕ) → Deed
doing_with file word = deed_of (bound 0 1 NotBegun (record (fetched_vcpu word) { file = file }))

-- a file that holds an enabled interrupt which is pending, with and without its delivery
abbrev pub signalled : (delivery : Bool) → InterruptFile
signalled delivery = record empty_file { pending = 5 ∷ []; enabled = 5 ∷ []; delivery = delivery }

-- what a deed offers hart 0; what it leaves
abbrev pub offered_in : State → Deed → Offer
offered_in S deed = deed_offer S 0 first_seat deed

abbrev pub offered : Deed → Offer
offered deed = offered_in running deed

abbrev pub performing : State → Deed → State
performing S deed = performed S first_seat deed

-- ---- exits

-- both harts are inside, both fenced and kicked, and a mapping and an unbinding wait for both
abbrev pub leaving : State
leaving = record (joined_by 1 (with_first_tvm (λ tvm. record tvm {
  mappings = mapped 17 (OwnPage 5 zeros) (Blocked (0 ∷ 1 ∷ []) (Some (0 ∷ 1 ∷ []))) ∷ [];
  yet = 0 ∷ 1 ∷ [];
  cpus = record first_cpu { latched = Some 0x73 } ∷ bound 0 1 (Begun (Some (0 ∷ 1 ∷ []))) (new_cpu 1) ∷ [];
}))) { kicked = 0 ∷ 1 ∷ [] }

-- the state after hart 0 left, and the vCPU that it ran
abbrev pub left_with : Exit → State
left_with exit = after_event leaving 0 (Event.Exit exit)

abbrev pub cpu_left_with : Exit → Cpu
cpu_left_with exit = cpu_in (left_with exit)
