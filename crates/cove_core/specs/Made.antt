-- What an entry that a hart makes leaves.
use Rattle.std.specs.Prelude.{◌≡◌, ◌≢◌, ℕ, ◌+◌, ◌<◌, List, [], ◌∷◌, ◌++◌, ◌⊎◌, IsSome, Some, None, length, slice_index, slice_set}
use Rattle.cove_base.specs.HartPlaces.{IsNextPlace}
use Rattle.cove_base.specs.HartValues.{HartRings, HartValue}
use Rattle.cove_base.specs.PageWords.{IsHostWord}
use Rattle.cove_base.specs.Places.{count_word, page_word}
use Rattle.cove_base.specs.Rings.{found}
use Rattle.cove_base.specs.Scripts.{ScriptValue}
use Rattle.cove_base.specs.declared.events.Entry.{Entry}
use Rattle.cove_base.specs.declared.events.Event.{Event}
use Rattle.cove_base.specs.declared.walks.Target.TheVariants.{Host, Fetch, Access}
use Rattle.cove_core.specs.Kept.{IsBoard, IsKept, ProgressStands}
use Rattle.cove_core.specs.declared.monitors.Mon.{Mon}
use Rattle.cove_model.specs.BoardRule.{HasFound}
use Rattle.cove_model.specs.Cached.{IsCached, IsReached}
use Rattle.cove_model.specs.Fits.{Fits, rings_of}
use Rattle.cove_model.specs.Histories.{Legal, after}
use Rattle.cove_model.specs.LawfulCounts.{IsCountable}
use Rattle.cove_model.specs.LawfulStores.{MakesLawful}
use Rattle.cove_model.specs.Owners.{holder, page_at}
use Rattle.cove_model.specs.States.{ended_by}
use Rattle.cove_model.specs.Steps.{Allows, IsStep, done}
use Rattle.cove_model.specs.Translations.{Touched, Came, Failed, renewed, tlb, touched}
use Rattle.cove_model.specs.WordsStand.{FencesWithin}
use Rattle.cove_tvm.specs.Stands.{Stands}

-- An event that a hart made, before its entry is counted: the history and the progress are those before it, and the
-- words, the ground and the ring of the hart are those after it.
pub record IsPerformed (script : ScriptValue) (words : List ℕ) (mon : Mon) (held : HartValue) (event : Event) : Type 0 where
  pub board : IsBoard script mon.ground
  pub legal : Legal script mon.history
  pub cached : IsCached script mon.history
  pub progress : ProgressStands script (after script mon.history) mon.progress
  pub allowed : Allows script (after script mon.history) held.hart event
  pub reached : IsReached script mon.history held.hart event
  pub stands : Stands words mon.ground (done (after script mon.history) held.hart event)
  pub count : slice_index words (count_word script.pages script.harts) ≡ length mon.history
  pub fences : FencesWithin script.pages script.harts words (length mon.history + 1)
  pub on_board : held.hart < script.harts
  pub counts : held.ended ≡ ended_by (after script mon.history) held.hart
  pub place : IsNextPlace script held.hart held.ended held.place
  pub rings : held.rings ≡ rings_of (renewed (after script mon.history) held.hart (tlb script mon.history held.hart) event)
  pub outside : held.inside ≡ None

-- a host page is named by its ring, or its word says that it is the host's
abbrev pub IsWithinReach : (words : List ℕ) → HartRings → (p : ℕ) → Type 0
IsWithinReach words rings p = IsSome (found p rings.hosts) ⊎ IsHostWord (slice_index words (page_word p))

-- what an event looked for was within reach at the call where it came there, and in no ring where it did not; no guest
-- runs yet
abbrev pub IsTold : (words : List ℕ) → HartRings → Touched → Type 0
IsTold words rings None = Unit {0}
IsTold words rings (Some (Host p, Came how)) = IsWithinReach words rings p.0
IsTold words rings (Some (Host p, Failed)) = found p.0 rings.hosts ≡ None
IsTold words rings (Some (Fetch g, way)) = ⊥
IsTold words rings (Some (Access g, way)) = ⊥

-- a page that the entry gave to another is named by no host ring of the hart, and no unused walk of it to a host page found
-- the page; of rings of guest pages nothing is said, while no guest runs
abbrev pub IsClear : ScriptValue → (before : List Entry) → Entry → HartValue → Type 0
IsClear script before entry held =
    (p : ℕ)
    → holder (page_at (after script (before ++ entry ∷ [])).pages p) ≢ holder (page_at (after script before).pages p)
    → (found p held.rings.hosts ≡ None) × (HasFound held.walked p → ⊥)

-- The stores of an entry of a hart: lawful ones, and then that of the count, on words on which it may be counted.
abbrev pub StoresAndCounts : ScriptValue → (history : List Entry) (hart : ℕ) → Entry → (before now : List ℕ) → Type 0
StoresAndCounts script history hart entry before now =
    (stored : List ℕ) × MakesLawful script.pages script.harts hart before before stored
    × IsCountable script history hart stored entry
    × (now ≡ slice_set stored (count_word script.pages script.harts) (length history + 1))

-- The entry of a hart, made and counted.
pub record IsMade (script : ScriptValue) (before now : List ℕ) (old new : Mon) (held left : HartValue) (entry : Entry) : Type 0 where
  pub by : entry.hart.0 ≡ held.hart
  pub step : IsStep script (after script old.history) entry (after script new.history)
  pub grown : new.history ≡ old.history ++ entry ∷ []
  pub kept : IsKept script now new
  pub same_hart : left.hart ≡ held.hart
  pub fits : Fits script new.history left
  pub others : (other : HartValue) → other.hart ≢ held.hart → Fits script old.history other → Fits script new.history other
  pub told : IsTold before held.rings (touched (after script old.history) held.hart entry.event)
  -- no host ring and no unused walk to a host page names a page whose holder changed
  pub clear : IsClear script old.history entry left
  pub others_clear : (other : HartValue) → other.hart ≢ held.hart → Fits script old.history other → IsClear script old.history entry other
  pub stores : StoresAndCounts script old.history held.hart entry before now

-- an entry of a hart, with what was there before it and what after it
pub record Making : Type 0 where
  pub script : ScriptValue
  pub before : List ℕ
  pub now : List ℕ
  pub old : Mon
  pub new : Mon
  pub held : HartValue
  pub left : HartValue
  pub entry : Entry
