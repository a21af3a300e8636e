use Rattle.std.specs.Prelude.{ℕ, List, [], ◌∷◌, ◌++◌, Option, Some, None}
use Rattle.cove_base.specs.Scripts.{ScriptValue}
use Rattle.cove_base.specs.declared.events.Entry.{Entry}
use Rattle.cove_base.specs.declared.walks.Noted.{Noted}

-- what is known beside shared words while a hart may store: the hart, its script, the entries that were made,
-- the words at the last of them, where the words stand, and the hart's walk that wasn't used yet
pub record Guard : Type 0 where
  pub hart : ℕ
  pub script : ScriptValue
  pub history : List Entry
  pub old : List ℕ
  pub place : List ℕ
  pub walk : Option Noted

-- the guard after an entry was counted, which used up the walk or dropped it
abbrev pub guard_after : Option Guard → (words : List ℕ) → Entry → Option Guard
guard_after None words entry = None
guard_after (Some guard) words entry =
    Some (record guard { history = guard.history ++ entry ∷ []; old = words; walk = None })
