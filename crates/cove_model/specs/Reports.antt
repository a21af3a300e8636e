-- The journal: one line for each entry, and a last line.
use Rattle.std.specs.Prelude.{ℕ, List, [], ◌∷◌, ◌++◌, length, flat_map, codes}
use Rattle.cove_base.specs.EventWords.{event_words}
use Rattle.cove_base.specs.Numbers.{natural_text}
use Rattle.cove_base.specs.Text.{joined}
use Rattle.cove_model.specs.Types.{Entry}

-- the words of an entry: its hart, and its event
abbrev pub entry_words : Entry → List (List ℕ)
entry_words entry = natural_text entry.hart.0 ∷ event_words entry.event

-- the line of an entry, without its line feed
abbrev pub entry_line : Entry → List ℕ
entry_line entry = joined (entry_words entry)

-- a line with its line feed
abbrev pub ended_line : List ℕ → List ℕ
ended_line line = line ++ 10 ∷ []

-- the lines of the entries of a history
abbrev pub entry_lines : List Entry → List ℕ
entry_lines history = flat_map (λ entry. ended_line (entry_line entry)) history

-- those, and a last line with the number of the entries
abbrev pub journal : (last : List ℕ) → List Entry → List ℕ
journal last history = entry_lines history ++ ended_line (joined (last ∷ natural_text (length history) ∷ []))

-- the journal of a history in which every line is ended
abbrev pub report : List Entry → List ℕ
report history = journal (codes "end") history

-- the journal of a history that came to its limit
abbrev pub report_limit : List Entry → List ℕ
report_limit history = journal (codes "limit") history
