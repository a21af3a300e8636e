-- What a hart comes to at a page of its next line, by its ring, its unused walk and the words.
use Rattle.std.specs.Prelude.{◌≡◌, ℕ, false, true, ◌<◌, Bool, List, [], length, if◌then◌else◌, Option, Some, None, slice_index}
use Rattle.cove_base.specs.HartLines.{next_line}
use Rattle.cove_base.specs.HartValues.{HartRings, HartValue, accessed_page, no_rings, rings_with}
use Rattle.cove_base.specs.PageWords.{IsHostWord, IsPageWord}
use Rattle.cove_base.specs.Places.{page_word}
use Rattle.cove_base.specs.Rings.{found}
use Rattle.cove_base.specs.Scripts.{ScriptValue}
use Rattle.cove_base.specs.declared.calls.HostCall.{HostCall}
use Rattle.cove_base.specs.declared.calls.HostCall.TheVariants.{GlobalFence, LocalFence, Run}
use Rattle.cove_base.specs.declared.events.Event.{Event}
use Rattle.cove_base.specs.declared.events.Event.TheVariants as events
use Rattle.cove_base.specs.declared.events.How.TheVariants.{Hit, Walk}
use Rattle.cove_base.specs.declared.limits.TheConstants.{PAGE_LIMIT}
use Rattle.cove_base.specs.declared.scripts.Line.{Line}
use Rattle.cove_base.specs.declared.scripts.Line.TheVariants as lines
use Rattle.cove_base.specs.declared.scripts.ScriptLine.{ScriptLine}
use Rattle.cove_base.specs.declared.statuses.Reply.{Reply}
use Rattle.cove_base.specs.declared.walks.Target.TheVariants.{Host}
use Rattle.cove_base.specs.declared.walks.Noted.{Noted}
use Rattle.cove_base.specs.declared.events.Walked.{Walked}
use Rattle.cove_base.specs.declared.events.Walked.TheVariants as walks
use Rattle.cove_core.specs.CanCall.{CanCall}
use Rattle.cove_tvm.specs.Called.{Called}
use Rattle.cove_core.specs.declared.accesses.Reach.{Reach}
use Rattle.cove_core.specs.declared.accesses.Reach.TheVariants as reach
use Rattle.cove_hart.specs.Needs.{access_need}
use Rattle.cove_hart.specs.declared.needs.Need.TheVariants as needs
use Rattle.cove_mem.specs.Frames.{frame, with_word}
use Rattle.cove_model.specs.Answers.{rule_of}
use Rattle.cove_model.specs.States.{page_of, word_place}
use Rattle.cove_base.specs.Statuses.{is_success}
use Rattle.cove_tvm.specs.declared.ground.Ground.{Ground}

-- a hart has a line left, for which it needs no walk any more
pub record IsPrepared (script : ScriptValue) (held : HartValue) : Type 0 where
  pub line : ScriptLine
  pub next : next_line script held.hart held.ended ≡ Some line
  pub ready : access_need held (accessed_page line.line) ≡ needs.Event

-- a walk found a page
abbrev pub finds_page : Walked → Bool
finds_page (walks.Found page) = true
finds_page (walks.Missing word) = false

-- the walk that was not used yet found a page, or none
abbrev pub HasUnusedWalk : Option Noted → (finding : Bool) → Type 0
HasUnusedWalk None finding = ⊥
HasUnusedWalk (Some noted) finding = finds_page noted.walked ≡ finding

-- A page is held by the ring; or a walk that was not used yet found it; or that walk found none, and it is the host's
-- by now, so that it comes into the ring; or it is not.
abbrev pub ComesTo : (words : List ℕ) (held : HartValue) (p : ℕ) (rings : HartRings) → Reach → Type 0
ComesTo words held p rings reach.Held = (held.walked ≡ None) × (rings ≡ held.rings)
ComesTo words held p rings reach.Walked = HasUnusedWalk held.walked true × (rings ≡ held.rings)
ComesTo words held p rings reach.Fresh =
    HasUnusedWalk held.walked false × IsHostWord (slice_index words (page_word p)) × (rings ≡ rings_with held.rings (Host (record { 0 = p })) (record { 0 = p }))
ComesTo words held p rings reach.Absent =
    HasUnusedWalk held.walked false × (IsHostWord (slice_index words (page_word p)) → ⊥) × (rings ≡ held.rings)

-- the event of a load, and of a store
abbrev pub load_event : (addr value : ℕ) → Reach → Event
load_event addr value reach.Held = events.Load addr Hit value
load_event addr value reach.Walked = events.Load addr Walk value
load_event addr value reach.Fresh = events.Load addr Walk value
load_event addr value reach.Absent = events.LoadFault addr

abbrev pub store_event : (addr value : ℕ) → Reach → Event
store_event addr value reach.Held = events.Store addr value Hit
store_event addr value reach.Walked = events.Store addr value Walk
store_event addr value reach.Fresh = events.Store addr value Walk
store_event addr value reach.Absent = events.StoreFault addr value

-- the frames after a store, where its page was reached
abbrev pub frames_by : Reach → (before store_event : List (List ℕ)) → List (List ℕ)
frames_by reach.Held before store_event = store_event
frames_by reach.Walked before store_event = store_event
frames_by reach.Fresh before store_event = store_event
frames_by reach.Absent before store_event = before

-- the rings of a hart after its call was accepted: both fences empty all, and a run those of guests
abbrev pub rings_forgotten : HostCall → HartRings → HartRings
rings_forgotten GlobalFence rings = no_rings
rings_forgotten LocalFence rings = no_rings
rings_forgotten (Run t v fuel) rings = record rings { fetches = []; accesses = [] }
rings_forgotten _ rings = rings

-- and after it was answered
abbrev pub rings_left : HostCall → (accepted : Bool) → HartRings → HartRings
rings_left call accepted rings = if accepted then rings_forgotten call rings else rings

-- what an access of a page needs of the words, the frames and the rings; a walk that found none left them without it
pub record IsReachable (words : List ℕ) (frames : List (List ℕ)) (held : HartValue) (p : ℕ) : Type 0 where
  pub limit : p < PAGE_LIMIT
  pub place : p < length words
  pub frame : p < length frames
  pub word : IsPageWord (slice_index words p)
  pub absent : HasUnusedWalk held.walked false → found p held.rings.hosts ≡ None

-- a load that a hart made
pub record IsLoaded (words : List ℕ) (frames : List (List ℕ)) (held : HartValue) (addr : ℕ) (rings : HartRings) (event : Event) : Type 0 where
  pub reach : Reach
  pub reaches : ComesTo words held (page_of addr) rings reach
  pub is : event ≡ load_event addr (slice_index (frame frames (page_of addr)) (word_place addr)) reach

-- a store that a hart made
pub record IsStored (words : List ℕ) (before now : List (List ℕ)) (held : HartValue) (addr value : ℕ) (rings : HartRings) (event : Event) : Type 0 where
  pub reach : Reach
  pub reaches : ComesTo words held (page_of addr) rings reach
  pub is : event ≡ store_event addr value reach
  pub frames : now ≡ frames_by reach before (with_word before (page_of addr) (word_place addr) value)

-- a call that a hart made
pub record IsAnswered (hart : ℕ) (call : HostCall) (old new : List ℕ) (G H : Ground) (rings left : HartRings) (event : Event) : Type 0 where
  pub reply : Reply
  pub served : Called hart (λ S. rule_of S hart call) old new G H reply
  pub is : event ≡ events.Call call reply
  pub rings_are : left ≡ rings_left call (is_success reply.status) rings

-- what a hart needs of words and ground to do what a line says
abbrev pub CanDo : (words : List ℕ) → Ground → HartValue → Line → Type 0
CanDo words G held (lines.Call call) = CanCall words G held.hart
CanDo words G held (lines.Load addr) = IsReachable words G.memory held (page_of addr)
CanDo words G held (lines.Store addr value) = IsReachable words G.memory held (page_of addr)

-- a hart did what a line says; an access changes no word, a load nothing of the ground, and a store its frames alone
abbrev pub IsDone : (old new : List ℕ) (G H : Ground) → HartValue → (rings : HartRings) → Event → Line → Type 0
IsDone old new G H held rings event (lines.Call call) = IsAnswered held.hart call old new G H held.rings rings event
IsDone old new G H held rings event (lines.Load addr) =
    IsLoaded old G.memory held addr rings event × (new ≡ old) × (H ≡ G)
IsDone old new G H held rings event (lines.Store addr value) =
    IsStored old G.memory H.memory held addr value rings event × (new ≡ old) × (H ≡ record G { memory = H.memory })
