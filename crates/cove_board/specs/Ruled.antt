-- The board's rule: what holds of the shared words and the views of all passes between any two atomic steps.
use Rattle.std.specs.Prelude.{◌≡◌, ℕ, ◌<◌, Bool, true, false, IsTrue, List, ◌++◌, Option, Some, None}
use mathlib.Core.Option.{some}
use lib.ListN.{get_elem?}
use Rattle.atomic_table.specs.Table.{State}
use Rattle.cove_base.specs.HartValues.{Holding, no_rings}
use Rattle.cove_base.specs.Scripts.{ScriptValue, is_within_limits}
use Rattle.cove_base.specs.declared.events.Entry.{Entry}
use Rattle.cove_board.specs.Parts.{HartPart, MonitorPart, Part, holding_of}
use Rattle.cove_model.specs.BoardRule.{AreBounded, IsLive, IsMonitored, UnusedLives}
use Rattle.cove_model.specs.Histories.{own}

-- a hart whose entry in flight has emptied its rings: its unused walk is right
pub record IsMarked (script : ScriptValue) (history : List Entry) (words : List ℕ) (held : Holding) : Type 0 where
  pub on_board : held.hart < script.harts
  pub rings : held.rings ≡ no_rings
  pub walk : UnusedLives script history words held.hart held.walked

-- what a hart holds is right, by its mark
abbrev pub Lives : ScriptValue → (history : List Entry) (words : List ℕ) → Holding → (mark : Bool) → Type 0
Lives script history words held false = IsLive script history words held
Lives script history words held true = IsMarked script history words held

-- a hart's part is right: its entries are those of the history, which begins with what it saw
pub record IsPart (script : ScriptValue) (history : List Entry) (words : List ℕ) (p : HartPart) : Type 0 where
  pub script_is : p.script ≡ script
  pub mine : p.mine ≡ own history p.hart
  pub seen : (more : List Entry) × (history ≡ p.seen ++ more)
  pub lives : Lives script history words (holding_of p) p.mark

-- the monitor's part is right: between two entries without a store, the words are those at the last entry
pub record IsMonitor (script : ScriptValue) (m : MonitorPart) : Type 0 where
  pub script_is : m.script ≡ script
  pub limits : IsTrue (is_within_limits script)
  pub monitored : IsMonitored script m.history m.old m.now
  pub bounded : AreBounded script.pages script.harts m.now
  pub clean : m.clean ≡ true → m.old ≡ m.now

-- where a pass carries the monitor's part, it is this one, and the pass has this seat
abbrev pub MonitorSits : MonitorPart → (seat id : ℕ) → Option MonitorPart → Type 0
MonitorSits part seat id None = Unit {0}
MonitorSits part seat id (Some m) = (m ≡ part) × (id ≡ seat)

-- where a pass carries a hart's part, that is right, and the pass has the hart's seat; with a mark also the monitor's
abbrev pub HartSits : ScriptValue → MonitorPart → (seat : ℕ) (seats : ℕ → ℕ) (id : ℕ) → Option HartPart → Type 0
HartSits script part seat seats id None = Unit {0}
HartSits script part seat seats id (Some p) =
    (p.hart < part.dealt) × (id ≡ seats p.hart) × IsPart script part.history part.now p × (p.mark ≡ true → id ≡ seat)

abbrev pub Sits : ScriptValue → MonitorPart → (seat : ℕ) (seats : ℕ → ℕ) (id : ℕ) → Part → Type 0
Sits script part seat seats id v = MonitorSits part seat id v.monitor × HartSits script part seat seats id v.hart

-- the part of this hart is carried
abbrev pub IsPartOf : (hart : ℕ) → Option HartPart → Type 0
IsPartOf hart None = ⊥
IsPartOf hart (Some p) = p.hart ≡ hart

-- a pass at this seat carries the part of this hart
abbrev pub Carries : List Part → (id hart : ℕ) → Type 0
Carries views id hart = (v : Part) × (get_elem? views id ≡ some v) × IsPartOf hart v.hart

-- One pass carries the monitor's part, whose words are the shared ones, and one the part of each hart that was dealt.
pub record IsRuled (script : ScriptValue) (words : List ℕ) (views : List Part) : Type 0 where
  pub part : MonitorPart
  pub seat : ℕ
  pub seats : ℕ → ℕ
  pub words_are : words ≡ part.now
  pub monitor : IsMonitor script part
  pub here : (v : Part) × (get_elem? views seat ≡ some v) × (v.monitor ≡ Some part)
  pub each : (id : ℕ) (v : Part) → get_elem? views id ≡ some v → Sits script part seat seats id v
  pub there : (hart : ℕ) → hart < part.dealt → Carries views (seats hart) hart

-- the rule of a table, by the script that it was made for
abbrev pub Holds : ScriptValue → State Entry Part → Type 0
Holds script s = IsRuled script s.words s.views
