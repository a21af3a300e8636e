-- What the machine offers a hart, and what an access needs.
use Rattle.std.specs.Prelude.{◌≡◌, ◌<◌, ◌≤◌, ℕ, ◌*◌, ◌&&◌, Bool, false, nat_lt, if◌then◌else◌, Option, Some, None, find}
use Rattle.std.specs.Option.{option_map_or}
use Rattle.cove_base.specs.HartLines.{next_line}
use Rattle.cove_base.specs.Registers.{register}
use Rattle.cove_base.specs.declared.calls.GuestAct.{GuestAct}
use Rattle.cove_base.specs.declared.events.Exit.{Exit}
use Rattle.cove_base.specs.declared.walks.Target.{Target}
use Rattle.cove_base.specs.declared.walks.Target.TheVariants as target
use Rattle.cove_model.specs.Owners.{has, is_host, may_use, page_at}
use Rattle.cove_model.specs.States.{harts_below, page_of, Seat, State, cpu_at, ended_by, guests_in, tvm_at, word_at}
use Rattle.cove_model.specs.Types.{ScriptValue, Event, How, Line, Reply, ScriptLine}
use Rattle.cove_model.specs.Answers.{refusal_by, reply_by, reply_to}
use Rattle.cove_model.specs.Deeds.{Deed, Tires, Fetches, Executes, Loads, Stores, Asks, Waits, Traps, deed_of}
use Rattle.cove_model.specs.GuestCalls.{evidence_at, guest_rule}
use Rattle.cove_model.specs.Mappings.{is_own, is_present, may_follow, mapping_of}
use Rattle.cove_model.specs.Tvms.{Mapping, Cpu}

-- no line is left; or a hart has a line of an earlier phase left; or one event; or an access, with its success and its fault
pub data Offer : Type 0 where
  Nothing : Offer
  Behind : (hart : ℕ) → Offer
  Single : (event : Event) → Offer
  Touch : (target : Target) (success : How → Event) (fault : Event) → Offer

-- ---- harts with a line of an earlier phase

-- this next line is of an earlier phase
abbrev pub is_earlier : (phase : ℕ) → Option ScriptLine → Bool
is_earlier phase None = false
is_earlier phase (Some line) = nat_lt line.phase phase

-- a hart has a line of an earlier phase left; since the phases of lines never fall, its next line is one then
abbrev pub is_behind : ScriptValue → State → (phase hart : ℕ) → Bool
is_behind script S phase hart = is_earlier phase (next_line script hart (ended_by S hart))

-- the least hart that is behind
abbrev pub first_behind : ScriptValue → State → (phase : ℕ) → Option ℕ
first_behind script S phase = find (is_behind script S phase) (harts_below script.harts)

-- no hart of the board has a line of an earlier phase left
abbrev pub NoneEarlier : ScriptValue → State → (phase : ℕ) → Type 0
NoneEarlier script S phase =
    (hart n : ℕ) (line : ScriptLine)
    → hart < script.harts → ended_by S hart ≤ n → next_line script hart n ≡ Some line
    → phase ≤ line.phase

-- ---- targets

-- the vCPU that a seat is on, and a mapping of its TVM
abbrev pub cpu_of : State → Seat → Cpu
cpu_of S seat = cpu_at (tvm_at S seat.tvm) seat.cpu

abbrev pub seat_mapping : State → (g : ℕ) → Seat → Option Mapping
seat_mapping S g seat = mapping_of (tvm_at S seat.tvm) g

-- a mapping of the TVM that the hart is inside passes a test
abbrev pub is_mapped_for : State → (hart g : ℕ) → (test : Mapping → Bool) → Bool
is_mapped_for S h g test = option_map_or (λ seat. option_map_or test (seat_mapping S g seat) false) (S.seats h) false

-- a walk finds the target: the page is the host's; the mapping is present, and private for a fetch
abbrev pub is_found : State → (hart : ℕ) → Target → Bool
is_found S h (target.Host p) = is_host (page_at S.pages p.0)
is_found S h (target.Fetch g) = is_mapped_for S h g.0 (λ m. is_own m.backing && is_present m.standing)
is_found S h (target.Access g) = is_mapped_for S h g.0 (λ m. is_present m.standing)

-- an access to the target may succeed: it is found, or the hart may hold a translation of it yet
abbrev pub may_succeed : State → (hart : ℕ) → Target → Bool
may_succeed S h (target.Host p) = may_use h (page_at S.pages p.0)
may_succeed S h (target.Fetch g) = is_mapped_for S h g.0 (λ m. is_own m.backing && may_follow h m.standing)
may_succeed S h (target.Access g) = is_mapped_for S h g.0 (λ m. may_follow h m.standing)

-- ---- offers

-- the host page of an address, and the guest page of one
abbrev pub host_target : (addr : ℕ) → Target
host_target addr = target.Host (record { 0 = page_of addr })

abbrev pub fetch_target : (addr : ℕ) → Target
fetch_target addr = target.Fetch (record { 0 = page_of addr })

abbrev pub access_target : (addr : ℕ) → Target
access_target addr = target.Access (record { 0 = page_of addr })

-- what a line offers
abbrev pub line_offer : State → (hart : ℕ) → Line → Offer
line_offer S h (Line.Call call) = Single (Event.Call call (reply_to S h call))
line_offer S h (Line.Load addr) = Touch (host_target addr) (λ how. Event.Load addr how (word_at S addr)) (Event.LoadFault addr)
line_offer S h (Line.Store addr value) = Touch (host_target addr) (λ how. Event.Store addr value how) (Event.StoreFault addr value)

-- a line waits for the hart that is behind it
abbrev pub unless_behind : Option ℕ → (offered : Offer) → Offer
unless_behind None offered = offered
unless_behind (Some hart) offered = Behind hart

-- the offer to a hart outside TVMs, where this is its next line
abbrev pub outside_offer : ScriptValue → State → (hart : ℕ) → Option ScriptLine → Offer
outside_offer script S h None = Nothing
outside_offer script S h (Some line) = unless_behind (first_behind script S line.phase) (line_offer S h line.line)

-- the exit at a page that is not there
abbrev pub fault_exit : (cause addr : ℕ) → Event
fault_exit cause addr = Event.Exit (Exit.Fault cause (record { 0 = page_of addr }))

-- an access of a guest, where there are so many guest pages: behind the last one there is no page to look for
abbrev pub guest_touch : (guests : ℕ) → Target → (success : How → Event) → (cause addr : ℕ) → Offer
guest_touch guests sought success cause addr =
    if nat_lt addr (4096 * guests) then Touch sought success (fault_exit cause addr) else Single (fault_exit cause addr)

-- what a guest is answered: evidence that succeeds is shown
abbrev pub act_event : State → (t nonce : ℕ) → GuestAct → (refused : Option Reply) → Reply → Event
act_event S t nonce GuestAct.Evidence None reply = Event.Evidence (evidence_at S t nonce)
act_event S t nonce act refused reply = Event.Guest act reply

abbrev pub asked_event : State → (hart : ℕ) → Seat → (a0 a1 : ℕ) → GuestAct → Event
asked_event S h seat a0 a1 act =
    let r = guest_rule S h seat.tvm a0 a1 act in
    act_event S seat.tvm a0 act (refusal_by r) (reply_by r)

-- what a deed of a vCPU offers the hart that runs it
abbrev pub deed_offer : State → (hart : ℕ) → Seat → Deed → Offer
deed_offer S h seat Tires = Single (Event.Exit Exit.Fuel)
deed_offer S h seat (Fetches addr) = guest_touch (guests_in S seat.tvm) (fetch_target addr) (λ how. Event.Fetch how) 20 addr
deed_offer S h seat (Executes rd value pc file) = Single Event.Exec
deed_offer S h seat (Loads addr size signed rd) = guest_touch (guests_in S seat.tvm) (access_target addr) (λ how. Event.Access how) 21 addr
deed_offer S h seat (Stores addr size value) = guest_touch (guests_in S seat.tvm) (access_target addr) (λ how. Event.Access how) 23 addr
deed_offer S h seat (Asks act) =
    let x = (cpu_of S seat).x in Single (asked_event S h seat (register x 10) (register x 11) act)
deed_offer S h seat Waits = Single (Event.Exit Exit.Wfi)
deed_offer S h seat (Traps cause) = Single (Event.Exit (Exit.Trap cause))

-- what a hart is offered, kicks left aside: outside its next line, inside what its vCPU does next
abbrev pub unkicked_offer : ScriptValue → State → (hart : ℕ) → Option Seat → Offer
unkicked_offer script S h None = outside_offer script S h (next_line script h (ended_by S h))
unkicked_offer script S h (Some seat) = deed_offer S h seat (deed_of (cpu_of S seat))

-- a kick that stands ends the run of a hart inside
abbrev pub kicked_offer : (kicked : Bool) → Option Seat → (offered : Offer) → Offer
kicked_offer kicked None offered = offered
kicked_offer kicked (Some seat) offered = if kicked then Single (Event.Exit Exit.Kicked) else offered

-- what a hart is offered
abbrev pub offer : ScriptValue → State → (hart : ℕ) → Offer
offer script S h = kicked_offer (has h S.kicked) (S.seats h) (unkicked_offer script S h (S.seats h))

-- what an offer's access looks for
abbrev pub target_of : Offer → Option Target
target_of Nothing = None
target_of (Behind hart) = None
target_of (Single event) = None
target_of (Touch target success fault) = Some target

-- what the hart's next event looks for, kicks left aside
abbrev pub sought : ScriptValue → State → (hart : ℕ) → Option Target
sought script S h = target_of (unkicked_offer script S h (S.seats h))
