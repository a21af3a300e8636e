-- What each kind of step tells the pass that makes it: what it found, and what it carries then.
use Rattle.std.specs.Prelude.{◌≡◌, ℕ, slice_index}
use mathlib.Core.Option.{Option, none, some}
use Rattle.atomic_table.specs.Table.{Me, Step}
use Rattle.cove_base.specs.declared.events.Entry.{Entry}
use Rattle.cove_board.specs.Parts.{Part, both, counted_monitor, counted_part, hart_alone, hart_of, loaded_part, monitor_of, stored_monitor, stored_part, walked_part}
use Rattle.cove_board.specs.Ruled.{IsMonitor, IsPart}

-- a walk's load: of the hart's part alone, by the word found
abbrev pub Walks : Step Entry → Me Entry Part → (found : ℕ) → Me Entry Part → Type 0
Walks step before found after =
    after ≡ (hart_alone (walked_part (record { 0 = step.word }) found (hart_of before.0)), before.1)

-- what both parts are after a load under the lock
abbrev pub after_load : Part → (place found : ℕ) → Part
after_load v place found = both (monitor_of v) (loaded_part place found (hart_of v))

-- a load under the lock finds the word of the monitor's part
abbrev pub Loads : Step Entry → Me Entry Part → (found : ℕ) → Me Entry Part → Type 0
Loads step before found after =
    (found ≡ slice_index (monitor_of before.0).now step.word) × (after ≡ (after_load before.0 step.word found, before.1))

-- such a load also tells that both parts are right
pub record Knows (step : Step Entry) (before : Me Entry Part) (found : ℕ) (after : Me Entry Part) : Type 0 where
  pub loads : Loads step before found after
  pub monitor : IsMonitor (hart_of before.0).script (monitor_of before.0)
  pub part : IsPart (hart_of before.0).script (monitor_of before.0).history (monitor_of before.0).now (hart_of before.0)

-- a lawful store
abbrev pub Stores : Step Entry → Me Entry Part → (found : ℕ) → Me Entry Part → Type 0
Stores step before found after =
    after ≡ (both (stored_monitor step.word step.first (monitor_of before.0)) (stored_part step.word (hart_of before.0)), before.1)

-- the store of the count, for the entry that is said
abbrev pub counted_by : Option Entry → Part → Part
counted_by none v = v
counted_by (some entry) v = both (counted_monitor entry (monitor_of v)) (counted_part entry (monitor_of v) (hart_of v))

abbrev pub Counts : Step Entry → Me Entry Part → (found : ℕ) → Me Entry Part → Type 0
Counts step before found after = after ≡ (counted_by step.said before.0, before.1)
