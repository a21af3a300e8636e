-- Histories: the state that one leads to, which are legal, and which make the lines of a script.
use Rattle.std.specs.Prelude.{◌≡◌, ◌<◌, ℕ, ◌==◌, List, [], ◌∷◌, ◌++◌, filter, filter_map, fold, map, length, take, None}
use Rattle.cove_base.specs.HartLines.{lines_of}
use Rattle.cove_model.specs.Types.{ScriptValue, Entry, Line}
use Rattle.cove_model.specs.States.{State, opening}
use Rattle.cove_model.specs.Steps.{Allows, after_event, asked}

-- the state after an entry
abbrev pub after_entry : State → Entry → State
after_entry S entry = after_event S entry.hart.0 entry.event

-- the state after the entries of a history
abbrev pub after : ScriptValue → List Entry → State
after script history = fold after_entry (opening script) history

-- P holds of each entry, with the entries before it
abbrev pub EachEntry : (P : List Entry → Entry → Type 0) (before history : List Entry) → Type 0
EachEntry P before [] = Unit {0}
EachEntry P before (entry ∷ history) = P before entry × EachEntry P (before ++ entry ∷ []) history

-- each entry may be made after the entries before it
abbrev pub Legal : ScriptValue → List Entry → Type 0
Legal script history =
    EachEntry (λ before entry. Allows script (after script before) entry.hart.0 entry.event) [] history

-- the entries of a hart
abbrev pub own : (history : List Entry) (hart : ℕ) → List Entry
own history hart = filter (λ entry. entry.hart.0 == hart) history

-- the lines that the entries of a hart answer, in order
abbrev pub told : (history : List Entry) (hart : ℕ) → List Line
told history hart = filter_map (λ entry. asked entry.event) (own history hart)

-- the lines that a script asks of a hart, in order
abbrev pub wanted : (script : ScriptValue) (hart : ℕ) → List Line
wanted script hart = map (λ line. line.line) (lines_of script hart)

-- each hart of the board has answered its lines, in order and each once, and none is inside a TVM
pub record Follows (script : ScriptValue) (history : List Entry) : Type 0 where
  pub answered : (hart : ℕ) → hart < script.harts → told history hart ≡ wanted script hart
  pub outside : (hart : ℕ) → hart < script.harts → (after script history).seats hart ≡ None

-- a list begins with another
abbrev pub BeginsWith : (whole front : List Line) → Type 0
BeginsWith whole front = take (length front) whole ≡ front

-- each hart of the board has answered its first lines, in order and each once
abbrev pub Begins : ScriptValue → List Entry → Type 0
Begins script history = (hart : ℕ) → hart < script.harts → BeginsWith (wanted script hart) (told history hart)
