-- What a monitor has as it opens, and what it leaves as it closes.
use Rattle.std.specs.Prelude.{◌≡◌, ℕ, ◌<◌, false, List, [], ◌++◌, None, IfSome, length, slice_get}
use Rattle.atomic_table.specs.Seated.{TableId}
use Rattle.cove_base.specs.HartValues.{HartValue}
use Rattle.cove_base.specs.Scripts.{ScriptValue}
use Rattle.cove_base.specs.declared.events.Entry.{Entry}
use Rattle.cove_board.specs.Parts.{HartPart, new_part}
use Rattle.cove_hart.specs.HartStates.{hart_value}
use Rattle.cove_hart.specs.declared.states.HartState.{HartState}
use Rattle.cove_model.specs.Cached.{IsCached, IsQuiet}
use Rattle.cove_model.specs.Fits.{Fits}
use Rattle.cove_model.specs.Histories.{Begins, Legal, after, own}
use Rattle.cove_model.specs.States.{ended_by}
use Rattle.cove_monitor.specs.Seats.{IsHartOf, SeatValue, part_of_seat}

-- A hart has met a history: its entries in it are those that it made, the history begins with the one that it saw last,
-- and as many of its lines are ended as it ended.
pub record HasMet (script : ScriptValue) (history : List Entry) (held : HartValue) (part : HartPart) : Type 0 where
  pub mine : own history held.hart ≡ part.mine
  pub seen : (more : List Entry) × (history ≡ part.seen ++ more)
  pub ended : held.ended ≡ ended_by (after script history) held.hart

-- this hart is the one of this number, of this monitor
pub record IsNumber (table : TableId) (script : ScriptValue) (number : ℕ) (seat : SeatValue) : Type 0 where
  pub of : IsHartOf table script seat
  pub number_is : seat.held.hart ≡ number

-- the harts of a monitor, in order
abbrev pub AreSeats : TableId → ScriptValue → List SeatValue → Type 0
AreSeats table script seats =
    (length seats ≡ script.harts) × ((k : ℕ) → k < script.harts → IfSome (slice_get seats k) (IsNumber table script k))

-- each hart has met a history
abbrev pub HaveMet : ScriptValue → (history : List Entry) → List SeatValue → Type 0
HaveMet script history seats =
    (k : ℕ) → k < length seats → IfSome (slice_get seats k) (λ seat. HasMet script history seat.held (part_of_seat seat))

-- a history of a script: legal, with each hart's lines once and in order, with hits and walks as the harts' TLBs have
-- them, and in which no page changes hands while a TLB names it
pub record IsHistoryOf (script : ScriptValue) (history : List Entry) : Type 0 where
  pub legal : Legal script history
  pub begins : Begins script history
  pub cached : IsCached script history
  pub quiet : IsQuiet script history

-- a hart that has made no entry, seen none, made no walk and did not come to a full history
pub record IsNewSeat (table : TableId) (script : ScriptValue) (number : ℕ) (seat : SeatValue) : Type 0 where
  pub is : IsNumber table script number seat
  pub part : part_of_seat seat ≡ new_part script number
  pub unwalked : seat.held.walked ≡ None
  pub unfilled : seat.full ≡ false

-- the harts of a monitor as it opens, in order
abbrev pub AreNewSeats : TableId → ScriptValue → List SeatValue → Type 0
AreNewSeats table script seats =
    (length seats ≡ script.harts) × ((k : ℕ) → k < script.harts → IfSome (slice_get seats k) (IsNewSeat table script k))

-- a hart of this number that fits the empty history, and has made no walk
pub record IsFitting (script : ScriptValue) (number : ℕ) (hart : HartState) : Type 0 where
  pub is : hart.hart.0 ≡ number
  pub fits : Fits script [] (hart_value hart)
  pub unwalked : hart.walked ≡ None

-- the first n harts are such
abbrev pub AreFitting : ScriptValue → (n : ℕ) → List HartState → Type 0
AreFitting script n harts = (length harts ≡ n) × ((k : ℕ) → k < n → IfSome (slice_get harts k) (IsFitting script k))
