-- Scripts and histories to read: what the definitions give of them is proved by computing it.
use Rattle.std.specs.Prelude.{Option, Some, ℕ, ◌*◌, List, [], ◌∷◌, map, flat_map}
use Rattle.cove_model.specs.Types.{ScriptValue, HostCall, Convert, GlobalFence, LocalFence, Reclaim, Entry, How, Hit, Walk, Fill, ScriptLine, Reply, Status, Success, AlreadyStarted, InvalidAddress, Event, Line}
use Rattle.cove_model.specs.Answers.{state_after}
use Rattle.cove_model.specs.Played.{entry_by}
use Rattle.cove_model.specs.Reports.{ended_line}
use Rattle.cove_model.specs.States.{State, opening}

-- a script of a board of 16 pages
abbrev pub board : (harts : ℕ) → List Fill → List ScriptLine → (turns : List ℕ) → ScriptValue
board harts fills ls turns =
    record { pages = 16; harts = harts; files = 0; key = 0 ∷ []; fills = fills; lines = ls; turns = turns }

-- lines of a hart: a call, a load
abbrev pub call : (hart : ℕ) → HostCall → ScriptLine
call hart c = record { hart = record { 0 = hart }; phase = 0; line = Line.Call c }

abbrev pub load : (hart addr : ℕ) → ScriptLine
load hart addr = record { hart = record { 0 = hart }; phase = 0; line = Line.Load addr }

-- entries of a hart: a call and its answer, a load, a load that faults
abbrev pub said : (hart : ℕ) → HostCall → Status → (value : ℕ) → Entry
said hart c status value = entry_by hart (Event.Call c (record { status = status; value = value }))

abbrev pub loaded : (hart addr : ℕ) → How → (value : ℕ) → Entry
loaded hart addr how value = entry_by hart (Event.Load addr how value)

abbrev pub faulted : (hart addr : ℕ) → Entry
faulted hart addr = entry_by hart (Event.LoadFault addr)

-- a board of one hart before any entry
abbrev pub fresh : State
fresh = opening (board 1 [] [] [])

-- a refusal with no value
abbrev pub refused : Status → Option Reply
refused status = Some (record { status = status; value = 0 })

-- a page goes to the monitor and back: the answers, and a script and a history of them
abbrev pub to_the_monitor : Entry
to_the_monitor = said 0 (Convert 0x4000 1) Success 0

abbrev pub fence : Entry
fence = said 0 GlobalFence Success 0

abbrev pub and_back : Entry
and_back = said 0 (Reclaim 0x4000 1) Success 0

abbrev pub there_and_back : ScriptValue
there_and_back =
    board 1 [] (call 0 (Convert 0x4000 1) ∷ call 0 GlobalFence ∷ call 0 (Reclaim 0x4000 1) ∷ []) []

abbrev pub there_and_back_history : List Entry
there_and_back_history = to_the_monitor ∷ fence ∷ and_back ∷ []

-- two harts that each have two lines, and histories of them: one for each order of the harts
abbrev pub two_harts : ScriptValue
two_harts = board 2 [] (call 0 (Convert 0x4000 1) ∷ call 1 LocalFence ∷ call 0 GlobalFence ∷ call 1 LocalFence ∷ []) []

abbrev pub local_fence : Entry
local_fence = said 1 LocalFence Success 0

abbrev pub first_hart_first : List Entry
first_hart_first = to_the_monitor ∷ fence ∷ local_fence ∷ local_fence ∷ []

abbrev pub second_hart_first : List Entry
second_hart_first = local_fence ∷ local_fence ∷ to_the_monitor ∷ fence ∷ []

-- a hart has a line of a later phase than the other
abbrev pub two_phases : ScriptValue
two_phases =
    board 2 [] (call 0 (Convert 0x4000 1)
    ∷ record { hart = record { 0 = 1 }; phase = 1; line = Line.Call LocalFence } ∷ []) []

-- a page is free once each hart has answered
abbrev pub once_free : List Entry
once_free = to_the_monitor ∷ fence ∷ local_fence ∷ []

-- a hart holds a page, and another one converts it: it is free after the fences, and comes back
abbrev pub held_before : ScriptValue
held_before =
    board 2 [] (load 1 0x4000 ∷ call 1 LocalFence ∷ call 0 (Convert 0x4000 1) ∷ call 0 GlobalFence
    ∷ call 0 (Reclaim 0x4000 1) ∷ load 0 0x4000 ∷ []) (1 ∷ 1 ∷ 0 ∷ 0 ∷ 1 ∷ 0 ∷ 0 ∷ 0 ∷ [])

abbrev pub held_before_history : List Entry
held_before_history =
    loaded 1 0x4000 Walk 0 ∷ to_the_monitor ∷ fence ∷ local_fence ∷ and_back ∷ loaded 0 0x4000 Walk 0 ∷ []

-- a page is converted while a fence waits: the next fence is refused, and the page is not free yet
abbrev pub during_a_fence : ScriptValue
during_a_fence =
    board 2 []
    (call 0 (Convert 0x4000 1) ∷ call 0 GlobalFence ∷ call 0 (Convert 0x5000 1) ∷ call 0 GlobalFence
    ∷ call 0 (Reclaim 0x4000 1) ∷ call 0 (Reclaim 0x5000 1) ∷ call 1 LocalFence ∷ [])
    (0 ∷ 0 ∷ 0 ∷ 0 ∷ 1 ∷ 0 ∷ 0 ∷ [])

abbrev pub during_a_fence_history : List Entry
during_a_fence_history =
    said 0 (Convert 0x4000 1) Success 0 ∷ said 0 GlobalFence Success 0 ∷ said 0 (Convert 0x5000 1) Success 0
    ∷ said 0 GlobalFence AlreadyStarted 1 ∷ said 1 LocalFence Success 0
    ∷ said 0 (Reclaim 0x4000 1) Success 0 ∷ said 0 (Reclaim 0x5000 1) InvalidAddress 0 ∷ []

-- a hart holds a translation of a page that another one converts, and uses it once more
abbrev pub stale : ScriptValue
stale =
    board 2 (record { addr = 0x4000; bytes = 0x11 ∷ 0x22 ∷ 0x33 ∷ 0x44 ∷ 0x55 ∷ 0x66 ∷ 0x77 ∷ 0x88 ∷ [] } ∷ [])
    (call 0 (Convert 0x4000 1) ∷ load 0 0x4000 ∷ load 1 0x4000 ∷ load 1 0x4000 ∷ []) (1 ∷ 1 ∷ 0 ∷ 1 ∷ 0 ∷ 0 ∷ [])

abbrev pub stale_history : (word : ℕ) → How → List Entry
stale_history word how =
    loaded 1 0x4000 Walk word ∷ said 0 (Convert 0x4000 1) Success 0 ∷ loaded 1 0x4000 how word ∷ faulted 0 0x4000 ∷ []

-- a walk that found its page before a convert is used after it
abbrev pub early_walk : ScriptValue
early_walk = board 3 [] (call 0 (Convert 0x4000 1) ∷ load 1 0x4000 ∷ load 2 0x4000 ∷ []) (1 ∷ 0 ∷ 1 ∷ 2 ∷ 2 ∷ [])

abbrev pub early_walk_history : List Entry
early_walk_history = to_the_monitor ∷ loaded 1 0x4000 Walk 0 ∷ faulted 2 0x4000 ∷ []

-- a local fence ends the hits of its hart
abbrev pub ended_hits : ScriptValue
ended_hits =
    board 2 [] (load 1 0x4000 ∷ load 1 0x4000 ∷ call 1 LocalFence ∷ load 1 0x4000 ∷ call 0 (Convert 0x4000 1) ∷ [])
    (1 ∷ 1 ∷ 0 ∷ [])

abbrev pub ended_hits_history : List Entry
ended_hits_history =
    loaded 1 0x4000 Walk 0 ∷ to_the_monitor ∷ loaded 1 0x4000 Hit 0 ∷ local_fence ∷ faulted 1 0x4000 ∷ []

-- a reclaim waits for the last answer
abbrev pub last_answer : ScriptValue
last_answer =
    board 3 [] (call 0 (Convert 0x4000 1) ∷ call 0 GlobalFence ∷ call 0 (Reclaim 0x4000 1) ∷ call 0 (Reclaim 0x4000 1)
    ∷ call 1 LocalFence ∷ call 2 LocalFence ∷ []) (0 ∷ 0 ∷ 1 ∷ 0 ∷ 2 ∷ 0 ∷ [])

abbrev pub last_answer_history : List Entry
last_answer_history =
    to_the_monitor ∷ fence ∷ local_fence ∷ said 0 (Reclaim 0x4000 1) InvalidAddress 0 ∷ said 2 LocalFence Success 0
    ∷ and_back ∷ []

-- a page is converted by a hart, and another one, which was told so, loads from it by a walk
abbrev pub late : ScriptValue
late = board 2 [] (call 0 (Convert 0x4000 1) ∷ call 1 LocalFence ∷ load 1 0x4000 ∷ []) []

abbrev pub late_history : List Entry
late_history = to_the_monitor ∷ local_fence ∷ loaded 1 0x4000 Walk 0 ∷ []

-- loads of the first pages by walks, each of a word that is zero
abbrev pub walks : (pages : List ℕ) → List Entry
walks pages = map (λ p. loaded 0 (4096 * p) Walk 0) pages

-- three bytes, and one that lies among them
abbrev pub long_fill : Fill
long_fill = record { addr = 0x4000; bytes = 0x11 ∷ 0x22 ∷ 0x33 ∷ [] }

abbrev pub short_fill : Fill
short_fill = record { addr = 0x4001; bytes = 0x99 ∷ [] }

-- three pages, converted and free
abbrev pub three_converted : State
three_converted = state_after fresh 0 (Convert 0x4000 3)

abbrev pub three_free : State
three_free = state_after three_converted 0 GlobalFence

-- the lines of a text
abbrev pub text : List (List ℕ) → List ℕ
text ls = flat_map ended_line ls
