-- What a step of a hart came to.
use Rattle.std.specs.Prelude.{◌≡◌, ℕ, List, Some, None}
use Rattle.cove_base.specs.HartLines.{next_line}
use Rattle.cove_base.specs.HartValues.{HartValue}
use Rattle.cove_base.specs.Scripts.{ScriptValue}
use Rattle.cove_base.specs.declared.events.Entry.{Entry}
use Rattle.cove_base.specs.declared.numbers.HartId.{HartId}
use Rattle.cove_base.specs.declared.scripts.ScriptLine.{ScriptLine}
use Rattle.cove_core.specs.declared.steps.Stepped.{Stepped}
use Rattle.cove_core.specs.declared.steps.Stepped.TheVariants.{Did, Ahead, Limit}
use Rattle.cove_model.specs.Histories.{after}
use Rattle.cove_model.specs.Offers.{first_behind}

-- a fact of the place of the entry that was made
abbrev pub OnDid : Stepped → (ℕ → Type 0) → Type 0
OnDid (Did place) P = P place
OnDid (Ahead hart) P = Unit {0}
OnDid Limit P = Unit {0}

-- a fact of the hart that is behind
abbrev pub OnAhead : Stepped → (HartId → Type 0) → Type 0
OnAhead (Did place) P = Unit {0}
OnAhead (Ahead hart) P = P hart
OnAhead Limit P = Unit {0}

-- it is this hart that is behind
abbrev pub IsAhead : Stepped → (hart : ℕ) → Type 0
IsAhead (Did place) other = ⊥
IsAhead (Ahead hart) other = hart.0 ≡ other
IsAhead Limit other = ⊥

-- the history was full
abbrev pub IsLimit : Stepped → Type 0
IsLimit (Did place) = ⊥
IsLimit (Ahead hart) = ⊥
IsLimit Limit = Unit {0}

-- a fact where no entry was made
abbrev pub IfNoEntry : Stepped → Type 0 → Type 0
IfNoEntry (Did place) P = Unit {0}
IfNoEntry (Ahead hart) P = P
IfNoEntry Limit P = P

-- this is the least hart with a line of an earlier phase than the hart's next line left
pub record IsFirstBehind (script : ScriptValue) (history : List Entry) (held : HartValue) (other : ℕ) : Type 0 where
  pub line : ScriptLine
  pub next : next_line script held.hart held.ended ≡ Some line
  pub first : first_behind script (after script history) line.phase ≡ Some other

-- no hart has a line of an earlier phase than the hart's next line left
pub record IsFirst (script : ScriptValue) (history : List Entry) (held : HartValue) : Type 0 where
  pub line : ScriptLine
  pub next : next_line script held.hart held.ended ≡ Some line
  pub none : first_behind script (after script history) line.phase ≡ None
