-- The history that a whole journal reads as.
use Rattle.std.specs.Prelude.{ℕ, ◌-◌, Bool, true, false, ◌&&◌, List, [], ◌∷◌, length, take, Option, Some, None, option_map, option_and_then, bytes_eq, if◌then◌else◌}
use Rattle.cove_base.specs.Text.{text_lines, text_words}
use Rattle.cove_base.specs.declared.events.Entry.{Entry}
use Rattle.cove_model.specs.Reports.{entry_line, report, report_limit}
use Rattle.cove_base.specs.EventSizes.{is_sized}
use Rattle.cove_journal.specs.Forms.{has_line}
use Rattle.cove_journal.specs.Reading.{entry_named}

-- an entry that has a line, and whose numbers have 64 bits
abbrev pub is_readable : Entry → Bool
is_readable entry = has_line entry && is_sized entry.event

-- an entry, where it is readable and this is its line
abbrev pub if_shown_by : List ℕ → Entry → Option Entry
if_shown_by line entry = if is_readable entry && bytes_eq (entry_line entry) line then Some entry else None

-- the entry that a line shows: its words name the entry, and are spelled as the entry's line is
abbrev pub line_entry : List ℕ → Option Entry
line_entry line = option_and_then (if_shown_by line) (entry_named (text_words line))

-- the entries that lines show, where each line shows one
abbrev pub line_entries : List (List ℕ) → Option (List Entry)
line_entries [] = Some []
line_entries (line ∷ lines) =
    option_and_then (λ entry. option_map (λ entries. entry ∷ entries) (line_entries lines)) (line_entry line)

-- a history and whether every line of its script is ended, where this is its journal
abbrev pub if_reported_by : List ℕ → List Entry → Option (List Entry × Bool)
if_reported_by text history =
    if bytes_eq (report history) text then Some (history, true)
    else if bytes_eq (report_limit history) text then Some (history, false)
    else None

-- the history that a text reads as: each of its lines but the last shows an entry, and the text is their journal
abbrev pub journal_history : List ℕ → Option (List Entry × Bool)
journal_history text =
    let lines = text_lines text in
    option_and_then (if_reported_by text) (line_entries (take (length lines - 1) lines))
