-- The legal step: which event a hart may make, and the state after it.
use Rattle.std.specs.Prelude.{true, false, ◌≡◌, ◌⊎◌, ℕ, ◌+◌, ◌/◌, ◌%◌, ◌^◌, ◌*◌, slice_set, Option, Some, None}
use Rattle.std.specs.Option.{option_map_or}
use Rattle.cove_base.specs.Executions.{merged, picked}
use Rattle.cove_base.specs.Registers.{register, written}
use Rattle.cove_base.specs.declared.calls.GuestAct.{GuestAct}
use Rattle.cove_base.specs.declared.events.Exit.{Exit}
use Rattle.cove_model.specs.Owners.{change, without, word_stored}
use Rattle.cove_model.specs.States.{page_of, word_place, Seat, State, ended_by, on_cpu, on_tvm, seated, tvm_at}
use Rattle.cove_model.specs.Types.{ScriptValue, Entry, Event, How, Line}
use Rattle.cove_model.specs.Answers.{reply_by, state_after, state_after_rule}
use Rattle.cove_model.specs.Deeds.{Deed, Executes, Loads, Stores, deed_of, next_place}
use Rattle.cove_model.specs.GuestCalls.{guest_rule, guest_word, stepped, with_reply, with_words}
use Rattle.cove_model.specs.Mappings.{left_tvm, mapping_of}
use Rattle.cove_model.specs.Offers.{Offer, Nothing, Behind, Single, Touch, cpu_of, is_found, may_succeed, offer}
use Rattle.cove_model.specs.Tvms.{Backing, OwnPage, HostPage, Cpu}

-- the script's line that an event answers; an event of a guest answers none
abbrev pub asked : Event → Option Line
asked (Event.Call call reply) = Some (Line.Call call)
asked (Event.Load addr how value) = Some (Line.Load addr)
asked (Event.LoadFault addr) = Some (Line.Load addr)
asked (Event.Store addr value how) = Some (Line.Store addr value)
asked (Event.StoreFault addr value) = Some (Line.Store addr value)
asked (Event.Fetch how) = None
asked Event.Exec = None
asked (Event.Access how) = None
asked (Event.Guest act reply) = None
asked (Event.Evidence quote) = None
asked (Event.Exit exit) = None

-- the event is one that an offer allows: an access may succeed where its target is found or held yet, and fault where
-- it is not found
abbrev pub Takes : State → (hart : ℕ) → Offer → Event → Type 0
Takes S h Nothing event = ⊥
Takes S h (Behind other) event = ⊥
Takes S h (Single only) event = event ≡ only
Takes S h (Touch target success fault) event =
    ((how : How) × (event ≡ success how) × (may_succeed S h target ≡ true)) ⊎ ((event ≡ fault) × (is_found S h target ≡ false))

-- a hart may make the event
abbrev pub Allows : ScriptValue → State → (hart : ℕ) → Event → Type 0
Allows script S h event = Takes S h (offer script S h) event

-- ---- what an event does, outside TVMs

abbrev pub host_done : State → (hart : ℕ) → Event → State
host_done S h (Event.Call call reply) = state_after S h call
host_done S h (Event.Store addr value how) =
    record S { pages = change (word_stored (word_place addr) value) (page_of addr) 1 S.pages }
host_done S h event = S

-- ---- what an event does, inside a TVM

-- the state with the hart's vCPU changed
abbrev pub on_seat : Seat → (how : Cpu → Cpu) → State → State
on_seat seat how S = on_tvm seat.tvm (on_cpu seat.cpu how) S

-- the four bytes of an instruction in the word that holds them
abbrev pub instruction_in : (word pc : ℕ) → ℕ
instruction_in word pc = word / 2 ^ (32 * (pc / 4 % 2)) % 2 ^ 32

-- the state after a fetch
abbrev pub fetched : State → Seat → State
fetched S seat =
    on_seat seat (λ cpu. record cpu { latched = Some (instruction_in (guest_word S seat.tvm cpu.pc) cpu.pc) }) S

-- the state after an instruction that touches no memory
abbrev pub executed : Seat → (rd value pc : ℕ) → (how : Cpu → Cpu) → State → State
executed seat rd value pc how S = on_seat seat (λ cpu. stepped pc (how (record cpu { x = written cpu.x rd value }))) S

-- the state with a word of guest memory stored: in the TVM's own page, or in the host's page that it shows
abbrev pub stored_under : State → (t addr word : ℕ) → Backing → State
stored_under S t addr word (OwnPage page words) =
    on_tvm t (with_words (page_of addr) (λ ws. slice_set ws (word_place addr) word)) S
stored_under S t addr word (HostPage page) = record S { pages = change (word_stored (word_place addr) word) page 1 S.pages }

abbrev pub guest_stored : State → (t addr word : ℕ) → State
guest_stored S t addr word =
    option_map_or (λ mapping. stored_under S t addr word mapping.backing) (mapping_of (tvm_at S t) (page_of addr)) S

-- the state after an instruction, by the deed of the vCPU
abbrev pub performed : State → Seat → Deed → State
performed S seat (Executes rd value pc file) = executed seat rd value pc (λ cpu. record cpu { file = file }) S
performed S seat (Loads addr size signed rd) =
    on_seat seat (λ cpu. stepped (next_place cpu.pc) (record cpu {
      x = written cpu.x rd (picked (guest_word S seat.tvm addr) addr size signed);
    })) S
performed S seat (Stores addr size value) =
    on_seat seat (λ cpu. stepped (next_place cpu.pc) cpu)
    (guest_stored S seat.tvm addr (merged (guest_word S seat.tvm addr) addr size value))
performed S seat deed = S

-- the state after an act of the guest, refused or not
abbrev pub acted : State → (hart : ℕ) → Seat → GuestAct → State
acted S h seat act =
    let x = (cpu_of S seat).x in
    let r = guest_rule S h seat.tvm (register x 10) (register x 11) act in
    on_seat seat (with_reply (reply_by r)) (state_after_rule S r)

-- a vCPU after its run: a trap stops it, and a wait is over
abbrev pub left_by : Exit → Cpu → Cpu
left_by Exit.Fuel cpu = cpu
left_by Exit.Kicked cpu = cpu
left_by Exit.Wfi cpu = record cpu { pc = next_place cpu.pc }
left_by (Exit.Fault cause page) cpu = cpu
left_by (Exit.Trap cause) cpu = record cpu { stopped = true }

-- the state after a hart left its TVM: nothing waits for it there, and no kick stands for it
abbrev pub left : State → (hart : ℕ) → Seat → Exit → State
left S h seat exit =
    on_tvm seat.tvm (λ tvm. on_cpu seat.cpu (λ cpu. record (left_by exit cpu) { latched = None; fuel = 0 }) (left_tvm h tvm)) (record S {
      seats = seated h None S.seats;
      kicked = without h S.kicked;
    })

abbrev pub guest_done : State → (hart : ℕ) → Seat → Event → State
guest_done S h seat (Event.Fetch how) = fetched S seat
guest_done S h seat Event.Exec = performed S seat (deed_of (cpu_of S seat))
guest_done S h seat (Event.Access how) = performed S seat (deed_of (cpu_of S seat))
guest_done S h seat (Event.Guest act reply) = acted S h seat act
guest_done S h seat (Event.Evidence quote) = acted S h seat GuestAct.Evidence
guest_done S h seat (Event.Exit exit) = left S h seat exit
guest_done S h seat event = S

-- ---- the step

-- the state after what the event did
abbrev pub done_at : State → (hart : ℕ) → Option Seat → Event → State
done_at S h None event = host_done S h event
done_at S h (Some seat) event = guest_done S h seat event

abbrev pub done : State → (hart : ℕ) → Event → State
done S h event = done_at S h (S.seats h) event

-- the state after a hart ended a line
abbrev pub end_line : (hart : ℕ) → State → State
end_line h S = record S { ended = slice_set S.ended h (ended_by S h + 1) }

-- an entry ends its hart's line where the hart is outside afterwards
abbrev pub line_ended : (hart : ℕ) → Option Seat → State → State
line_ended h None S = end_line h S
line_ended h (Some seat) S = S

-- the state after an event of a hart
abbrev pub after_event : State → (hart : ℕ) → Event → State
after_event S h event = line_ended h ((done S h event).seats h) (done S h event)

-- the entry may be made in a state, and leads to another
abbrev pub IsStep : ScriptValue → (before : State) → Entry → (afterwards : State) → Type 0
IsStep script before entry afterwards =
    Allows script before entry.hart.0 entry.event × (afterwards ≡ after_event before entry.hart.0 entry.event)
