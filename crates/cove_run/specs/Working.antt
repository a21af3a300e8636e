-- What harts on threads come to.
use Rattle.std.specs.Prelude.{◌≡◌, ℕ, ◌<◌, ◌≤◌, false, List, length, Option, None, Some, IfSome, slice_get}
use Rattle.std.specs.Option.{option_map}
use Rattle.cove_base.specs.HartLines.{next_line}
use Rattle.cove_base.specs.Scripts.{ScriptValue}
use Rattle.cove_monitor.specs.Seats.{IsFull, SeatValue, part_of_seat}

-- a hart has no line left
abbrev pub IsIdle : ScriptValue → SeatValue → Type 0
IsIdle script seat = next_line script seat.held.hart seat.held.ended ≡ None

-- no hart has a line left
abbrev pub AreIdle : ScriptValue → List SeatValue → Type 0
AreIdle script seats = (k : ℕ) → k < length seats → IfSome (slice_get seats k) (IsIdle script)

-- the phase of a hart's next line, where one is left
abbrev pub next_phase : ScriptValue → SeatValue → Option ℕ
next_phase script seat = option_map (λ line. line.phase) (next_line script seat.held.hart seat.held.ended)

-- a phase is no later than another one, if that is there
abbrev pub ComesFirst : (first other : Option ℕ) → Type 0
ComesFirst first None = Unit {0}
ComesFirst None (Some other) = ⊥
ComesFirst (Some first) (Some other) = first ≤ other

-- no hart has a line of an earlier phase left
abbrev pub AreAfter : ScriptValue → (phase : Option ℕ) → List SeatValue → Type 0
AreAfter script phase seats =
    (k : ℕ) → k < length seats → IfSome (slice_get seats k) (λ seat. ComesFirst phase (next_phase script seat))

-- no hart met a full history at its last event
abbrev pub HaveRoom : List SeatValue → Type 0
HaveRoom seats = (k : ℕ) → k < length seats → IfSome (slice_get seats k) (λ seat. seat.full ≡ false)

-- a hart came to a full history, with a line left
pub record HasFull (seats : List SeatValue) : Type 0 where
  pub place : ℕ
  pub seat : SeatValue
  pub stands : slice_get seats place ≡ Some seat
  pub full : IsFull seat.held (part_of_seat seat)
