-- Harts of a monitor to read: what the definitions say of them is proved by computing it.
use Rattle.std.specs.Prelude.{ℕ, false}
use Rattle.atomic_table.specs.Seated.{TableId}
use Rattle.cove_base.specs.Scripts.{ScriptValue}
use Rattle.cove_board.specs.Parts.{hart_alone, new_part}
use Rattle.cove_core.specs.Examples.{hart_at}
use Rattle.cove_monitor.specs.Seats.{SeatValue}

-- a hart that has made nothing
abbrev pub seat_at : TableId → ScriptValue → (hart : ℕ) → SeatValue
seat_at table script hart =
    record { held = hart_at hart 0; pass = record { table = table; part = hart_alone (new_part script hart) }; full = false }
