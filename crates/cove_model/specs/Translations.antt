-- The translations that a hart holds after a history.
use Rattle.std.specs.Prelude.{ℕ, ◌==◌, ◌||◌, Bool, nat_lt, if◌then◌else◌, List, [], ◌∷◌, ◌++◌, Option, Some, None}
use Rattle.std.specs.List.{list_any}
use Rattle.std.specs.Option.{option_map_or}
use Rattle.cove_base.specs.Registers.{register}
use Rattle.cove_base.specs.Rings.{keep_last, ring_room}
use Rattle.cove_base.specs.Statuses.{is_success}
use Rattle.cove_base.specs.declared.events.Exit.{Exit}
use Rattle.cove_base.specs.declared.numbers.Gpn.{Gpn}
use Rattle.cove_base.specs.declared.walks.Target.{Target}
use Rattle.cove_base.specs.declared.walks.Target.TheVariants as target
use Rattle.cove_model.specs.Owners.{has}
use Rattle.cove_model.specs.Types.{ScriptValue, Entry, Event, How, Hit, Walk, Reply}
use Rattle.cove_model.specs.Deeds.{Deed, Loads, Stores, deed_of}
use Rattle.cove_model.specs.GuestCalls.{guest_rule}
use Rattle.cove_model.specs.Histories.{after_entry}
use Rattle.cove_model.specs.HostCalls.{Forgets, Keeps, ForgetsGuests, ForgetsAll, rule}
use Rattle.cove_model.specs.Mappings.{page_under}
use Rattle.cove_model.specs.Offers.{access_target, cpu_of, fetch_target, host_target, seat_mapping}
use Rattle.cove_model.specs.States.{Seat, State, guests_in, opening}

-- the host pages, and the guest pages each with its page for fetches and for data, oldest first
pub record Tlb : Type 0 where
  pub pages : List ℕ
  pub fetches : List (ℕ × ℕ)
  pub accesses : List (ℕ × ℕ)

-- no translation
abbrev pub nothing_held : Tlb
nothing_held = record { pages = []; fetches = []; accesses = [] }

-- ---- what an event looked for

-- an access came to its page, by a translation or by a walk, or it did not
pub data Arrival : Type 0 where
  Came : (how : How) → Arrival
  Failed : Arrival

-- what an event looked for, and what came of it
abbrev pub Touched : Type 0
Touched = Option (Target × Arrival)

abbrev pub host_touched : Event → Touched
host_touched (Event.Load addr how value) = Some (host_target addr, Came how)
host_touched (Event.LoadFault addr) = Some (host_target addr, Failed)
host_touched (Event.Store addr value how) = Some (host_target addr, Came how)
host_touched (Event.StoreFault addr value) = Some (host_target addr, Failed)
host_touched event = None

-- the address of the data that a deed reads or writes
abbrev pub data_address : Deed → ℕ
data_address (Loads addr size signed rd) = addr
data_address (Stores addr size value) = addr
data_address deed = 0

-- the guest page that an exit did not find, where there are so many: past the last nothing was looked for
abbrev pub missed : (guests cause : ℕ) → Gpn → Touched
missed guests cause page =
    if nat_lt page.0 guests then Some (if cause == 20 then target.Fetch page else target.Access page, Failed) else None

abbrev pub exit_touched : (guests : ℕ) → Exit → Touched
exit_touched guests (Exit.Fault cause page) = missed guests cause page
exit_touched guests exit = None

abbrev pub guest_touched : State → Seat → Event → Touched
guest_touched S seat (Event.Fetch how) = Some (fetch_target (cpu_of S seat).pc, Came how)
guest_touched S seat (Event.Access how) = Some (access_target (data_address (deed_of (cpu_of S seat))), Came how)
guest_touched S seat (Event.Exit exit) = exit_touched (guests_in S seat.tvm) exit
guest_touched S seat event = None

abbrev pub touched_at : State → Option Seat → Event → Touched
touched_at S None event = host_touched event
touched_at S (Some seat) event = guest_touched S seat event

-- what an event of a hart in a state looked for
abbrev pub touched : State → (hart : ℕ) → Event → Touched
touched S h event = touched_at S (S.seats h) event

-- ---- what an event empties

abbrev pub where_accepted : Reply → Forgets → Forgets
where_accepted reply forgets = if is_success reply.status then forgets else Keeps

-- which translations of its hart an event of a guest empties
abbrev pub forgets_inside : State → (hart : ℕ) → Seat → Event → Forgets
forgets_inside S h seat (Event.Guest act reply) =
    let x = (cpu_of S seat).x in
    where_accepted reply (guest_rule S h seat.tvm (register x 10) (register x 11) act).forgets
forgets_inside S h seat (Event.Exit exit) = ForgetsGuests
forgets_inside S h seat event = Keeps

abbrev pub forgets_outside : State → (hart : ℕ) → Event → Forgets
forgets_outside S h (Event.Call call reply) = where_accepted reply (rule S h call).forgets
forgets_outside S h event = Keeps

abbrev pub forgets_at : State → (hart : ℕ) → Option Seat → Event → Forgets
forgets_at S h None event = forgets_outside S h event
forgets_at S h (Some seat) event = forgets_inside S h seat event

abbrev pub forgets_by : State → (hart : ℕ) → Event → Forgets
forgets_by S h event = forgets_at S h (S.seats h) event

abbrev pub emptied_by : Forgets → Tlb → Tlb
emptied_by Keeps held = held
emptied_by ForgetsGuests held = record held { fetches = []; accesses = [] }
emptied_by ForgetsAll held = nothing_held

-- ---- translations

-- a list with another item, for which a full one gives up its oldest
abbrev pub filled : {X : Type 0} → List X → (newest : X) → List X
filled xs newest = keep_last ring_room (xs ++ newest ∷ [])

-- a guest page with the page that the hart's TVM maps there
abbrev pub pair_of : State → (hart g : ℕ) → ℕ × ℕ
pair_of S h g =
    (g, option_map_or (λ seat. option_map_or (λ m. page_under m.backing) (seat_mapping S g seat) 0) (S.seats h) 0)

-- the translations with that of a target that a walk found
abbrev pub with_target : State → (hart : ℕ) → Target → Tlb → Tlb
with_target S h (target.Host p) held = record held { pages = filled held.pages p.0 }
with_target S h (target.Fetch g) held = record held { fetches = filled held.fetches (pair_of S h g.0) }
with_target S h (target.Access g) held = record held { accesses = filled held.accesses (pair_of S h g.0) }

-- the translations after what an event looked for: a walk that came to its target adds it
abbrev pub with_touched : State → (hart : ℕ) → Touched → Tlb → Tlb
with_touched S h None held = held
with_touched S h (Some (sought, Came Hit)) held = held
with_touched S h (Some (sought, Came Walk)) held = with_target S h sought held
with_touched S h (Some (sought, Failed)) held = held

-- the translations of a hart after an event of its own in a state
abbrev pub renewed : State → (hart : ℕ) → Tlb → Event → Tlb
renewed S h held event = emptied_by (forgets_by S h event) (with_touched S h (touched S h event) held)

-- the translations of a hart after an entry of any hart in a state
abbrev pub held_after : (hart : ℕ) → State → Tlb → Entry → Tlb
held_after hart S held entry = if entry.hart.0 == hart then renewed S hart held entry.event else held

-- the translations after more entries, from a state and those held in it on
abbrev pub held_from : (hart : ℕ) → State → Tlb → List Entry → Tlb
held_from hart S held [] = held
held_from hart S held (entry ∷ history) = held_from hart (after_entry S entry) (held_after hart S held entry) history

-- the translations of a hart after a history
abbrev pub tlb : ScriptValue → (history : List Entry) (hart : ℕ) → Tlb
tlb script history hart = held_from hart (opening script) nothing_held history

-- a guest page has a pair
abbrev pub has_pair : (g : ℕ) → List (ℕ × ℕ) → Bool
has_pair g pairs = list_any (λ pair. pair.0 == g) pairs

-- a target is held
abbrev pub holds_target : Tlb → Target → Bool
holds_target held (target.Host p) = has p.0 held.pages
holds_target held (target.Fetch g) = has_pair g.0 held.fetches
holds_target held (target.Access g) = has_pair g.0 held.accesses

-- a page is named by a translation
abbrev pub names : Tlb → (p : ℕ) → Bool
names held p = has p held.pages || list_any (λ pair. pair.1 == p) held.fetches || list_any (λ pair. pair.1 == p) held.accesses
