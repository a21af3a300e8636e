-- How the monitor and its harts play a script by turns.
use Rattle.std.specs.Prelude.{◌≡◌, ◌≢◌, ℕ, ◌+◌, ◌<◌, Bool, false, true, fold, if◌then◌else◌, List, [], Option, Some, None, IfSome, length, slice_get}
use Rattle.cove_base.specs.HartValues.{HartValue}
use Rattle.cove_base.specs.Scripts.{ScriptValue}
use Rattle.cove_base.specs.declared.events.Entry.{Entry}
use Rattle.cove_base.specs.declared.limits.TheConstants.{ENTRY_LIMIT}
use Rattle.cove_base.specs.declared.walks.Noted.{Noted}
use Rattle.cove_core.specs.Kept.{IsKept}
use Rattle.cove_core.specs.Reached.{finds_page}
use Rattle.cove_core.specs.declared.monitors.Mon.{Mon}
use Rattle.cove_core.specs.declared.plays.Built.{Built}
use Rattle.cove_hart.specs.HartStates.{hart_value}
use Rattle.cove_hart.specs.declared.states.HartState.{HartState}
use Rattle.cove_model.specs.Fits.{Fits}
use Rattle.cove_model.specs.Played.{Note, Play, Unwalked, WalkFound, WalkMissed, round, rounds, turn, unplayed}

-- what a hart knows of its unused walk
abbrev pub note_of : Option Noted → Note
note_of None = Unwalked
note_of (Some noted) = if finds_page noted.walked then WalkFound else WalkMissed

-- a turn of a hart in a play leads to this history, and to the note of what the hart holds then; no other note changes
pub record IsTurn (script : ScriptValue) (play : Play) (hart : ℕ) (history : List Entry) (walked : Option Noted) : Type 0 where
  pub history_is : (turn ENTRY_LIMIT script play hart).history ≡ history
  pub own : (turn ENTRY_LIMIT script play hart).notes hart ≡ note_of walked
  pub others : (other : ℕ) → other ≢ hart → (turn ENTRY_LIMIT script play hart).notes other ≡ play.notes other

-- A hart took its turn, which is that of each play of the same history where the hart has the same note. It changed
-- nothing exactly where the turn leads to the same play.
pub record IsTurned (script : ScriptValue) (old new : List Entry) (held left : HartValue) (changed : Bool) : Type 0 where
  pub same_hart : left.hart ≡ held.hart
  pub fits : Fits script new left
  pub others : (other : HartValue) → other.hart ≢ held.hart → Fits script old other → Fits script new other
  pub takes : (play : Play) → play.history ≡ old → play.notes held.hart ≡ note_of held.walked → IsTurn script play held.hart new left.walked
  pub still : changed ≡ false → (play : Play) → play.history ≡ old → turn ENTRY_LIMIT script play held.hart ≡ play
  pub moved : changed ≡ true → (play : Play) → play.history ≡ old → play.notes held.hart ≡ note_of held.walked → turn ENTRY_LIMIT script play held.hart ≢ play

-- a hart of this number fits the history
pub record HartFits (script : ScriptValue) (history : List Entry) (number : ℕ) (hart : HartState) : Type 0 where
  pub is : hart.hart.0 ≡ number
  pub fits : Fits script history (hart_value hart)

-- The harts of the board, in order, each of which fits the history that is kept.
pub record AreReady (script : ScriptValue) (words : List ℕ) (mon : Mon) (harts : List HartState) : Type 0 where
  pub kept : IsKept script words mon
  pub count : length harts ≡ script.harts
  pub seated : (k : ℕ) → k < script.harts → IfSome (slice_get harts k) (HartFits script mon.history k)

-- a play has the history, and the notes of the harts
pub record IsAt (mon : Mon) (harts : List HartState) (play : Play) : Type 0 where
  pub history : play.history ≡ mon.history
  pub notes : (k : ℕ) → IfSome (slice_get harts k) (λ hart. play.notes k ≡ note_of hart.walked)

-- whatever play the monitor and its harts were at, they are at this play after it
abbrev pub GoesOn : (old new : Mon) (before now : List HartState) → (Play → Play) → Type 0
GoesOn old new before now leads = (play : Play) → IsAt old before play → IsAt new now (leads play)

-- it leads each play that they are at to itself
abbrev pub Stays : Mon → List HartState → (Play → Play) → Type 0
Stays mon harts leads = (play : Play) → IsAt mon harts play → leads play ≡ play

-- it leads each play that they are at to another one: its history or a note differs
abbrev pub Changes : Mon → List HartState → (Play → Play) → Type 0
Changes mon harts leads = (play : Play) → IsAt mon harts play → leads play ≢ play

-- the play after the turns that the script names
abbrev pub named_play : ScriptValue → Play
named_play script = fold (turn ENTRY_LIMIT script) unplayed script.turns

-- so many rounds are made of a play: each but the last changes it, and the last one changes nothing
pub record AreRounds (script : ScriptValue) (play : Play) (made : ℕ) : Type 0 where
  pub before : ℕ
  pub count : made ≡ before + 1
  pub changing : (n : ℕ) → n < before → round ENTRY_LIMIT script (rounds ENTRY_LIMIT script n play) ≢ rounds ENTRY_LIMIT script n play
  pub still : round ENTRY_LIMIT script (rounds ENTRY_LIMIT script before play) ≡ rounds ENTRY_LIMIT script before play

-- A monitor and its harts before any turn.
pub record IsUnplayed (script : ScriptValue) (built : Built) : Type 0 where
  pub ready : AreReady script built.words built.mon built.harts
  pub unplayed : built.mon.history ≡ []
  pub unwalked : (k : ℕ) → IfSome (slice_get built.harts k) (λ hart. hart.walked ≡ None)
  pub unbegun : built.rounds_made ≡ 0
