-- Which entries a hart may count while it is held.
use Rattle.std.specs.Prelude.{◌≡◌, ℕ, ◌+◌, List, [], ◌∷◌, ◌++◌, length, slice_index, slice_set}
use Rattle.cove_base.specs.Places.{count_word}
use Rattle.cove_base.specs.Scripts.{ScriptValue}
use Rattle.cove_base.specs.declared.events.Entry.{Entry}
use Rattle.cove_model.specs.Cached.{IsReached}
use Rattle.cove_model.specs.Histories.{after}
use Rattle.cove_model.specs.Steps.{Allows}
use Rattle.cove_model.specs.WordLaws.{Stand}
use Rattle.cove_model.specs.WordsStand.{FencesWithin}

-- An entry of a hart may be counted on these words: it may be made after the history and shows its translations
-- rightly, the words stand for what it leaves, and the count is still that of the history.
pub record IsCountable (script : ScriptValue) (history : List Entry) (hart : ℕ) (words : List ℕ) (entry : Entry) : Type 0 where
  pub own : entry.hart.0 ≡ hart
  pub allowed : Allows script (after script history) hart entry.event
  pub reached : IsReached script history hart entry.event
  pub stands : Stand script.pages script.harts words (after script (history ++ entry ∷ []))
  pub count : slice_index words (count_word script.pages script.harts) ≡ length history
  pub fences : FencesWithin script.pages script.harts words (length history + 1)

-- a test lets each such entry be counted
abbrev pub CountsEntries : (counts : List ℕ → ℕ → Entry → Type 0) → ScriptValue → (history : List Entry) (hart : ℕ) → Type 0
CountsEntries counts script history hart =
    (words : List ℕ) (entry : Entry)
    → IsCountable script history hart words entry → counts words (count_word script.pages script.harts) entry

-- the words after an entry was counted: the count is one more
abbrev pub counted : (pages harts : ℕ) (words : List ℕ) → List ℕ
counted pages harts words =
    slice_set words (count_word pages harts) (slice_index words (count_word pages harts) + 1)
