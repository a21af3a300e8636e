-- A board, its passes and held passes, as contracts see them.
use Rattle.std.specs.Prelude.{◌≡◌, ℕ, ◌<◌, false, if◌then◌else◌, List, ◌∷◌, IfSome, Option, Some, None, length, slice_get, take}
use Rattle.atomic_table.specs.Seated.{TableId}
use Rattle.cove_base.specs.Guards.{Guard}
use Rattle.cove_base.specs.HartValues.{no_rings}
use Rattle.cove_base.specs.Places.{all_words, count_word}
use Rattle.cove_base.specs.Scripts.{ScriptValue}
use Rattle.cove_base.specs.declared.events.Entry.{Entry}
use Rattle.cove_board.specs.Parts.{HartPart, MonitorPart, Part, both, hart_alone, hart_of, monitor_alone, monitor_of, new_part}
use Rattle.cove_model.specs.Fits.{rings_of, walked_rings}
use Rattle.cove_model.specs.Histories.{own}
use Rattle.cove_model.specs.LawfulCounts.{IsCountable}
use Rattle.cove_model.specs.LawfulStores.{IsLawful}
use Rattle.cove_model.specs.Translations.{tlb}

-- a board: its table, and the script that it was made for
pub record BoardValue : Type 0 where
  pub table : TableId
  pub script : ScriptValue

-- a pass, also where it is held: the table that it is of, and what it carries
pub record PassValue : Type 0 where
  pub table : TableId
  pub part : Part

-- a pass of this board that carries the part of a hart alone
pub record IsHartPass (board : BoardValue) (pass : PassValue) : Type 0 where
  pub table : pass.table ≡ board.table
  pub alone : pass.part ≡ hart_alone (hart_of pass.part)
  pub script_is : (hart_of pass.part).script ≡ board.script

-- a pass of this board that carries the monitor's part alone
pub record IsMonitorPass (board : BoardValue) (pass : PassValue) : Type 0 where
  pub table : pass.table ≡ board.table
  pub alone : pass.part ≡ monitor_alone (monitor_of pass.part)

-- a pass for each of the first harts, as it is dealt
abbrev pub AreDealt : ScriptValue → TableId → (n : ℕ) → List PassValue → Type 0
AreDealt script table n passes =
    (length passes ≡ n)
    × ((k : ℕ) → k < n → IfSome (slice_get passes k) (λ pass. pass ≡ record { table = table; part = hart_alone (new_part script k) }))

-- what two parts that are carried together keep of each other
pub record AreHeld (m : MonitorPart) (p : HartPart) : Type 0 where
  pub same_script : p.script ≡ m.script
  pub size : length m.now ≡ all_words m.script.pages m.script.harts
  pub mine : p.mine ≡ own m.history p.hart
  pub seen : take (length p.seen) m.history ≡ p.seen
  pub old : m.old ≡ (if m.clean then m.now else m.old)
  pub mark : p.mark ≡ (if m.clean then false else p.mark)
  pub rings : p.rings ≡ (if p.mark then no_rings else walked_rings (rings_of (tlb m.script m.history p.hart)) p.walked)

-- a held pass carries both parts
pub record IsHeld (pass : PassValue) : Type 0 where
  pub carries : pass.part ≡ both (monitor_of pass.part) (hart_of pass.part)
  pub held : AreHeld (monitor_of pass.part) (hart_of pass.part)

-- which table it is, as a list of numbers
abbrev pub place_code : TableId → List ℕ
place_code z = z.words ∷ z.slots ∷ z.views_name ∷ z.atom ∷ z.block ∷ z.offset ∷ z.slot_names

-- what is known beside the words of a held pass
abbrev pub guard_by : TableId → MonitorPart → HartPart → Guard
guard_by table m p = record {
  hart = p.hart;
  script = m.script;
  history = m.history;
  old = m.old;
  place = place_code table;
  walk = p.walked;
}

abbrev pub guard_of : PassValue → Guard
guard_of held = guard_by held.table (monitor_of held.part) (hart_of held.part)

-- exactly the lawful stores are allowed
abbrev pub AllowsLawfulStores : Option Guard → (words : List ℕ) (place word : ℕ) → Type 0
AllowsLawfulStores None words place word = ⊥
AllowsLawfulStores (Some guard) words place word =
    IsLawful guard.script.pages guard.script.harts guard.hart guard.old words place word

-- and exactly the entries that may be counted
abbrev pub AllowsEntries : Option Guard → (words : List ℕ) (place : ℕ) → Entry → Type 0
AllowsEntries None words place entry = ⊥
AllowsEntries (Some guard) words place entry =
    (place ≡ count_word guard.script.pages guard.script.harts) × IsCountable guard.script guard.history guard.hart words entry
