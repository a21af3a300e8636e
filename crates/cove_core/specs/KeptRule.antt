-- What a history that is kept says of the shared words and of each hart that fits it.
use Rattle.std.specs.Prelude.{◌≡◌, ◌≢◌, ℕ, ◌<◌, ◌≤◌, IsTrue, List, None, length}
use Rattle.cove_base.specs.HartValues.{HartValue, Holding, after_walk, holding}
use Rattle.cove_base.specs.Scripts.{ScriptValue, is_within_limits}
use Rattle.cove_base.specs.declared.events.Entry.{Entry}
use Rattle.cove_base.specs.declared.events.Walked.{Walked}
use Rattle.cove_base.specs.declared.limits.TheConstants.{ENTRY_LIMIT}
use Rattle.cove_base.specs.declared.numbers.Page.{Page}
use Rattle.cove_base.specs.declared.walks.Target.TheVariants.{Host}
use Rattle.cove_core.specs.Kept.{IsKept}
use Rattle.cove_core.specs.Made.{IsMade}
use Rattle.cove_core.specs.declared.monitors.Mon.{Mon}
use Rattle.cove_model.specs.BoardRule.{AreBounded, IsLive, IsMonitored, HoldingNames}
use Rattle.cove_hart.specs.Needs.{next_need}
use Rattle.cove_hart.specs.declared.needs.Need.TheVariants.{Walk}
use Rattle.cove_model.specs.Fits.{Fits}
use Rattle.cove_model.specs.FitsAlone.{FitsAlone}
use Rattle.cove_model.specs.StoreLaw.{MayUse}

-- the monitor's part of the board's rule, no store being pending
abbrev pub KeptIsMonitored : Type 0
KeptIsMonitored =
    (script : ScriptValue) (words : List ℕ) (mon : Mon)
    → IsKept script words mon → IsMonitored script mon.history words words

-- the numbers are bounded, where the history has no more entries than it may have
abbrev pub KeptIsBounded : Type 0
KeptIsBounded =
    (script : ScriptValue) (words : List ℕ) (mon : Mon)
    → IsKept script words mon → length mon.history ≤ ENTRY_LIMIT → AreBounded script.pages script.harts words

-- the part of each hart that fits
abbrev pub KeptHartsLive : Type 0
KeptHartsLive =
    (script : ScriptValue) (words : List ℕ) (mon : Mon) (held : HartValue)
    → IsTrue (is_within_limits script) → IsKept script words mon
    → Fits script mon.history held → IsLive script mon.history words (holding held)

-- each host page that a hart that fits names, by its ring of host pages or by an unused walk, is one that the words let it use: the
-- host's, or in conversion, and the hart has answered no later epoch
abbrev pub KeptHartsUse : Type 0
KeptHartsUse =
    (script : ScriptValue) (words : List ℕ) (mon : Mon) (held : HartValue) (p : ℕ)
    → IsTrue (is_within_limits script) → IsKept script words mon
    → Fits script mon.history held → HoldingNames (holding held) p → (p < script.pages) × MayUse script.pages words held.hart p

-- An entry of a hart leaves the part of every other hart, also of one that made its walk meanwhile.
abbrev pub StepsKeepLive : Type 0
StepsKeepLive =
    (script : ScriptValue) (before now : List ℕ) (old new : Mon) (held left : HartValue) (other : Holding) (entry : Entry)
    → IsTrue (is_within_limits script) → length old.history < ENTRY_LIMIT → IsKept script before old
    → IsMade script before now old new held left entry → other.hart ≢ held.hart
    → IsLive script old.history before other → IsLive script new.history now other

-- A walk that a hart needs is to a page of the board, and the hart has no unused walk. It leaves what the hart knows of
-- itself while others make entries, whatever it found.
abbrev pub NeededWalksLeaveAlone : Type 0
NeededWalksLeaveAlone =
    (script : ScriptValue) (history : List Entry) (held : HartValue) (phase : ℕ) (page : Page) (walked : Walked)
    → IsTrue (is_within_limits script) → next_need script held phase ≡ Walk (Host page)
    → FitsAlone script history held
    → (page.0 < script.pages) × (held.walked ≡ None) × FitsAlone script history (after_walk held (Host page) walked)
