-- The harts of a monitor and the value behind its lock, as contracts see them, and what their types keep.
use Rattle.std.specs.Prelude.{◌≡◌, ◌≤◌, Bool, false, true, [], Option, Some, None, IsSome, length}
use Rattle.std.specs.Option.{unwrap_or}
use Rattle.atomic_table.specs.Seated.{TableId}
use Rattle.cove_base.specs.HartLines.{next_line}
use Rattle.cove_base.specs.HartValues.{HartValue}
use Rattle.cove_base.specs.Scripts.{ScriptValue}
use Rattle.cove_base.specs.declared.limits.TheConstants.{ENTRY_LIMIT}
use Rattle.cove_board.specs.Parts.{HartPart, hart_alone, hart_of, monitor_alone, monitor_of, spent}
use Rattle.cove_board.specs.Passes.{PassValue}
use Rattle.cove_core.specs.Kept.{IsKept}
use Rattle.cove_core.specs.declared.monitors.Mon.{Mon}
use Rattle.cove_model.specs.FitsAlone.{FitsAlone}
use Rattle.cove_model.specs.Histories.{own}

-- a hart of a monitor: what it holds, its pass, and whether it came to the limit of a history
pub record SeatValue : Type 0 where
  pub held : HartValue
  pub pass : PassValue
  pub full : Bool

-- the part that its pass carries
abbrev pub part_of_seat : SeatValue → HartPart
part_of_seat seat = hart_of seat.pass.part

-- the name of no table, and a pass that carries nothing
abbrev pub no_table : TableId
no_table = record { words = 0; slots = 0; views_name = 0; atom = 0; block = 0; offset = 0; slot_names = [] }

abbrev pub no_pass : PassValue
no_pass = record { table = no_table; part = spent }

abbrev pub pass_of : Option PassValue → PassValue
pass_of pass = unwrap_or pass no_pass

-- A pass carries the part of this hart alone: its rings and its unused walk are the hart's. What the hart knows of
-- itself fits the history that it saw last, in which its entries are those of the part.
pub record IsSeat (held : HartValue) (pass : PassValue) : Type 0 where
  pub alone : pass.part ≡ hart_alone (hart_of pass.part)
  pub unmarked : (hart_of pass.part).mark ≡ false
  pub same_hart : (hart_of pass.part).hart ≡ held.hart
  pub rings : (hart_of pass.part).rings ≡ held.rings
  pub walked : (hart_of pass.part).walked ≡ held.walked
  pub mine : own (hart_of pass.part).seen held.hart ≡ (hart_of pass.part).mine
  pub fits : FitsAlone (hart_of pass.part).script (hart_of pass.part).seen held

-- the history that a hart saw last has as many entries as it may have, and the hart has a line left
pub record IsFull (held : HartValue) (part : HartPart) : Type 0 where
  pub limit : length part.seen ≡ ENTRY_LIMIT
  pub left : IsSome (next_line part.script held.hart held.ended)

-- a hart has its pass
abbrev pub HasSeat : HartValue → Option PassValue → Type 0
HasSeat held None = ⊥
HasSeat held (Some pass) = IsSeat held pass

-- A pass of this table carries the monitor's part alone, with no store open, and the monitor keeps its history.
pub record IsKeeper (table : TableId) (mon : Mon) (pass : PassValue) : Type 0 where
  pub table_is : pass.table ≡ table
  pub alone : pass.part ≡ monitor_alone (monitor_of pass.part)
  pub clean : (monitor_of pass.part).clean ≡ true
  pub history : mon.history ≡ (monitor_of pass.part).history
  pub kept : IsKept (monitor_of pass.part).script (monitor_of pass.part).now mon
  pub within : length mon.history ≤ ENTRY_LIMIT

-- the monitor has its pass
abbrev pub HasKeeper : TableId → Mon → Option PassValue → Type 0
HasKeeper table mon None = ⊥
HasKeeper table mon (Some pass) = IsKeeper table mon pass

-- a hart is one of the monitor of this table and script
pub record IsHartOf (table : TableId) (script : ScriptValue) (seat : SeatValue) : Type 0 where
  pub table_is : seat.pass.table ≡ table
  pub script_is : (part_of_seat seat).script ≡ script
