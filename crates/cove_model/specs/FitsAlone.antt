-- What a hart keeps of its fitness while others make entries: all of it but what its unused walk found, for which the
-- board's rule answers.
use Rattle.std.specs.Prelude.{◌≡◌, ℕ, ◌<◌, IsTrue, List, [], ◌++◌, Option, Some, None}
use Rattle.cove_base.specs.HartPlaces.{IsNextPlace}
use Rattle.cove_base.specs.HartValues.{HartValue, after_walk}
use Rattle.cove_base.specs.Scripts.{ScriptValue, is_within_limits}
use Rattle.cove_base.specs.declared.events.Entry.{Entry}
use Rattle.cove_base.specs.declared.events.Walked.{Walked}
use Rattle.cove_base.specs.declared.walks.Noted.{Noted}
use Rattle.cove_base.specs.declared.walks.Target.{Target}
use Rattle.cove_model.specs.BoardRule.{IsMonitored, UnusedLives}
use Rattle.cove_model.specs.Fits.{Fits, InsideFits, IsSought, rings_of, walked_rings}
use Rattle.cove_model.specs.Histories.{Legal, after, own}
use Rattle.cove_model.specs.States.{ended_by}
use Rattle.cove_model.specs.Translations.{tlb}

-- an unused walk looked for what the hart looks for next
abbrev pub UnusedSought : ScriptValue → (history : List Entry) (hart : ℕ) → Option Noted → Type 0
UnusedSought script history hart None = Unit {0}
UnusedSought script history hart (Some noted) = IsSought script history hart noted.target

-- a hart fits a history, whatever its unused walk found
pub record FitsAlone (script : ScriptValue) (history : List Entry) (held : HartValue) : Type 0 where
  pub on_board : held.hart < script.harts
  pub counts : held.ended ≡ ended_by (after script history) held.hart
  pub stands : IsNextPlace script held.hart held.ended held.place
  pub rings : held.rings ≡ walked_rings (rings_of (tlb script history held.hart)) held.walked
  pub walk : UnusedSought script history held.hart held.walked
  pub inside : InsideFits (after script history) held.hart held.inside

-- a hart that fits, fits alone
abbrev pub FitsFitAlone : Type 0
FitsFitAlone =
    (script : ScriptValue) (history : List Entry) (held : HartValue)
    → Fits script history held → FitsAlone script history held

-- entries of others leave it
abbrev pub OthersLeaveAlone : Type 0
OthersLeaveAlone =
    (script : ScriptValue) (history more : List Entry) (held : HartValue)
    → IsTrue (is_within_limits script) → Legal script (history ++ more) → own more held.hart ≡ []
    → FitsAlone script history held → FitsAlone script (history ++ more) held

-- so does a walk to what the hart looks for, whatever it found
abbrev pub WalksLeaveAlone : Type 0
WalksLeaveAlone =
    (script : ScriptValue) (history : List Entry) (held : HartValue) (target : Target) (walked : Walked)
    → held.walked ≡ None → IsSought script history held.hart target
    → FitsAlone script history held → FitsAlone script history (after_walk held target walked)

-- Where no store is pending, a hart that fits alone fits, if its unused walk is one that the rule speaks of.
abbrev pub RuledHartsFit : Type 0
RuledHartsFit =
    (script : ScriptValue) (history : List Entry) (words : List ℕ) (held : HartValue)
    → IsMonitored script history words words → UnusedLives script history words held.hart held.walked
    → FitsAlone script history held → Fits script history held
