-- The history that a script plays by turns.
use Rattle.std.specs.Prelude.{◌≡◌, ℕ, zero, suc, ◌+◌, ◌*◌, ◌<◌, ◌≤◌, ◌⊎◌, ◌==◌, Bool, true, false, nat_lt, if◌then◌else◌, List, [], ◌∷◌, ◌++◌, length, fold, Option, Some, None}
use Rattle.cove_base.specs.HartLines.{next_line}
use Rattle.cove_base.specs.declared.walks.Target.{Target}
use Rattle.cove_model.specs.States.{harts_below, State, ended_by}
use Rattle.cove_model.specs.Types.{ScriptValue, Entry, Event, How, Hit, Walk}
use Rattle.cove_model.specs.Histories.{after}
use Rattle.cove_model.specs.Offers.{Offer, Nothing, Behind, Single, Touch, is_found, offer, sought}
use Rattle.cove_model.specs.Translations.{holds_target, tlb}

-- what a hart knows of a walk that it made and did not use yet
pub data Note : Type 0 where
  Unwalked : Note
  WalkFound : Note
  WalkMissed : Note

-- the history so far, and the note of each hart
pub record Play : Type 0 where
  pub history : List Entry
  pub notes : ℕ → Note

-- a play before any turn
abbrev pub unplayed : Play
unplayed = record { history = []; notes = λ hart. Unwalked }

-- notes with another one for a hart
abbrev pub noted : (hart : ℕ) → Note → (ℕ → Note) → ℕ → Note
noted hart note notes other = if other == hart then note else notes other

-- the hart makes a walk, and keeps whether it found its target
abbrev pub walked : Play → (hart : ℕ) → Bool → Play
walked play hart found = record play { notes = noted hart (if found then WalkFound else WalkMissed) play.notes }

-- an entry of a hart
abbrev pub entry_by : (hart : ℕ) → Event → Entry
entry_by hart event = record { hart = record { 0 = hart }; event = event }

-- the hart makes an entry, and has no note then
abbrev pub entered : Play → (hart : ℕ) → Event → Play
entered play hart event =
    record { history = play.history ++ entry_by hart event ∷ []; notes = noted hart Unwalked play.notes }

-- how an access ends, where the hart holds its target or not, has this note, and a walk finds the target or not
abbrev pub ending : (holds : Bool) → Note → (found : Bool) → Option How
ending true note found = Some Hit
ending false Unwalked found = if found then Some Walk else None
ending false WalkFound found = Some Walk
ending false WalkMissed found = if found then Some Walk else None

-- the event of an access that ends so
abbrev pub ended_event : (success : How → Event) (fault : Event) → Option How → Event
ended_event success fault (Some how) = success how
ended_event success fault None = fault

-- the entry of a hart at an offer
abbrev pub entry_turn : ScriptValue → Play → State → (hart : ℕ) → Offer → Play
entry_turn script play S h Nothing = play
entry_turn script play S h (Behind other) = play
entry_turn script play S h (Single event) = entered play h event
entry_turn script play S h (Touch target success fault) =
    entered play h (ended_event success fault (ending (holds_target (tlb script play.history h) target) (play.notes h) (is_found S h target)))

-- a walk comes first where the hart seeks a target that it does not hold, and has no note
abbrev pub walks_first : (holds : Bool) → Note → Bool
walks_first true note = false
walks_first false Unwalked = true
walks_first false WalkFound = false
walks_first false WalkMissed = false

abbrev pub sought_turn : ScriptValue → Play → State → (hart : ℕ) → Offer → Option Target → Play
sought_turn script play S h offered None = entry_turn script play S h offered
sought_turn script play S h offered (Some target) =
    if walks_first (holds_target (tlb script play.history h) target) (play.notes h)
    then walked play h (is_found S h target)
    else entry_turn script play S h offered

-- a turn of a hart; there are never more than `limit` entries
abbrev pub turn : (limit : ℕ) → ScriptValue → Play → (hart : ℕ) → Play
turn limit script play h =
    if nat_lt (length play.history) limit
    then (let S = after script play.history in sought_turn script play S h (offer script S h) (sought script S h))
    else play

-- a turn of each hart
abbrev pub round : (limit : ℕ) → ScriptValue → Play → Play
round limit script play = fold (turn limit script) play (harts_below script.harts)

-- n rounds
abbrev pub rounds : (limit : ℕ) → ScriptValue → (n : ℕ) → Play → Play
rounds limit script zero play = play
rounds limit script (suc n) play = rounds limit script n (round limit script play)

-- enough rounds for every script: a round that changes something makes an entry or notes a walk, and each walk is used by an
-- entry; so two for each entry, and one for each hart's last walk, and one that changes nothing
abbrev pub enough : (limit : ℕ) → ScriptValue → ℕ
enough limit script = 2 * limit + script.harts + 1

-- the turns that the script names, and rounds until nothing is left
abbrev pub played_out : (limit : ℕ) → ScriptValue → Play
played_out limit script = rounds limit script (enough limit script) (fold (turn limit script) unplayed script.turns)

-- the history that a script plays
unfoldable pub played : (limit : ℕ) → ScriptValue → List Entry
played limit script = (played_out limit script).history

-- no line is left
abbrev pub IsOver : ScriptValue → List Entry → Type 0
IsOver script history =
    (hart : ℕ) → hart < script.harts → next_line script hart (ended_by (after script history) hart) ≡ None

-- nothing is left, or the limit was reached
abbrev pub IsEnded : (limit : ℕ) → ScriptValue → List Entry → Type 0
IsEnded limit script history = (limit ≤ length history) ⊎ IsOver script history
