-- What the passes of a board know between them: the monitor's part, and a part of each hart.
use Rattle.std.specs.Prelude.{ℕ, ◌+◌, ◌==◌, Bool, false, true, if◌then◌else◌, List, [], ◌∷◌, ◌++◌, Option, Some, None, replicate, slice_set}
use Rattle.std.specs.Option.{unwrap_or}
use Rattle.cove_base.specs.HartValues.{HartRings, Holding, Way, no_rings, rings_after}
use Rattle.cove_base.specs.HostWalks.{walked_to}
use Rattle.cove_base.specs.Places.{all_words, answered_word, page_word}
use Rattle.cove_base.specs.Scripts.{ScriptValue}
use Rattle.cove_base.specs.declared.events.Entry.{Entry}
use Rattle.cove_base.specs.declared.numbers.Page.{Page}
use Rattle.cove_base.specs.declared.walks.Noted.{Noted}
use Rattle.cove_base.specs.declared.walks.Target.TheVariants.{Host}
use Rattle.cove_model.specs.Fits.{rings_of, way_in}
use Rattle.cove_model.specs.Histories.{after}
use Rattle.cove_model.specs.LawfulCounts.{counted}
use Rattle.cove_model.specs.Translations.{tlb}

-- the monitor's part: the history, the words at its last entry and as they are, whether no store was made since, and to
-- how many harts a part was dealt
pub record MonitorPart : Type 0 where
  pub script : ScriptValue
  pub history : List Entry
  pub old : List ℕ
  pub now : List ℕ
  pub clean : Bool
  pub dealt : ℕ

-- a hart's part: its entries, the history that it saw last, its rings, whether its entry in flight has emptied them, a
-- walk that it has not used yet, the way of its guest walks, and how many loads it made, the last one of this word at this
-- place
pub record HartPart : Type 0 where
  pub script : ScriptValue
  pub hart : ℕ
  pub mine : List Entry
  pub seen : List Entry
  pub rings : HartRings
  pub mark : Bool
  pub walked : Option Noted
  pub way : Option Way
  pub loads : ℕ
  pub place : ℕ
  pub word : ℕ

-- what one pass carries
pub record Part : Type 0 where
  pub monitor : Option MonitorPart
  pub hart : Option HartPart

abbrev pub hart_alone : HartPart → Part
hart_alone p = record { monitor = None; hart = Some p }

abbrev pub monitor_alone : MonitorPart → Part
monitor_alone m = record { monitor = Some m; hart = None }

abbrev pub both : MonitorPart → HartPart → Part
both m p = record { monitor = Some m; hart = Some p }

-- a pass that carries nothing any more
abbrev pub spent : Part
spent = record { monitor = None; hart = None }

-- ---- the parts of a pass

abbrev pub no_script : ScriptValue
no_script = record { pages = 0; harts = 0; files = 0; key = []; fills = []; lines = []; turns = [] }

-- the monitor's part as a board opens, where every word is 0 and no part is dealt
abbrev pub opening_part : ScriptValue → MonitorPart
opening_part script =
    let zeros = replicate (all_words script.pages script.harts) 0 in
    record { script = script; history = []; old = zeros; now = zeros; clean = true; dealt = 0 }

-- and as it is where this many parts are dealt
abbrev pub dealt_part : ScriptValue → (harts : ℕ) → MonitorPart
dealt_part script harts = record (opening_part script) { dealt = harts }

-- a hart's part as it is dealt
abbrev pub new_part : ScriptValue → (hart : ℕ) → HartPart
new_part script hart = record {
  script = script;
  hart = hart;
  mine = [];
  seen = [];
  rings = no_rings;
  mark = false;
  walked = None;
  way = None;
  loads = 0;
  place = 0;
  word = 0;
}

abbrev pub no_monitor : MonitorPart
no_monitor = record { script = no_script; history = []; old = []; now = []; clean = true; dealt = 0 }

-- the monitor's part of a pass that carries it
abbrev pub monitor_of : Part → MonitorPart
monitor_of part = unwrap_or part.monitor no_monitor

-- the hart's part of a pass that carries one
abbrev pub hart_of : Part → HartPart
hart_of part = unwrap_or part.hart (new_part no_script 0)

-- what the board's rule speaks of in a hart's part
abbrev pub holding_of : HartPart → Holding
holding_of p = record { hart = p.hart; rings = p.rings; walked = p.walked; way = p.way }

-- ---- what a step makes of them

-- a load under the lock
abbrev pub loaded_part : (place word : ℕ) → HartPart → HartPart
loaded_part place word p = record p { loads = p.loads + 1; place = place; word = word }

-- a walk's load of the word of a host page
abbrev pub walked_part : Page → (word : ℕ) → HartPart → HartPart
walked_part page word p = record p {
  rings = rings_after p.rings (Host page) (walked_to page word);
  walked = Some (record { target = Host page; walked = walked_to page word });
  loads = p.loads + 1;
  place = page_word page.0;
  word = word;
}

-- a store: one of the hart's answered number empties its rings, and marks them
abbrev pub stored_monitor : (place word : ℕ) → MonitorPart → MonitorPart
stored_monitor place word m = record m { now = slice_set m.now place word; clean = false }

abbrev pub stored_part : (place : ℕ) → HartPart → HartPart
stored_part place p =
    let answers = place == answered_word p.script.pages p.hart in
    record p { rings = if answers then no_rings else p.rings; mark = if answers then true else p.mark }

-- the store of the count, for an entry
abbrev pub counted_monitor : Entry → MonitorPart → MonitorPart
counted_monitor entry m =
    let new = counted m.script.pages m.script.harts m.now in
    record m { history = m.history ++ entry ∷ []; old = new; now = new; clean = true }

abbrev pub counted_part : Entry → MonitorPart → HartPart → HartPart
counted_part entry m p = record p {
  mine = p.mine ++ entry ∷ [];
  seen = m.history ++ entry ∷ [];
  rings = rings_of (tlb m.script (m.history ++ entry ∷ []) p.hart);
  mark = false;
  walked = None;
  way = way_in (after m.script (m.history ++ entry ∷ [])) p.hart;
}

-- the parting of a pass: the hart has seen the history
abbrev pub left_part : MonitorPart → HartPart → HartPart
left_part m p = record p { seen = m.history }

-- the dealing of one more part
abbrev pub dealt_monitor : MonitorPart → MonitorPart
dealt_monitor m = record m { dealt = m.dealt + 1 }
