-- What the top call reads and prints.
use Rattle.std.specs.Prelude.{◌≡◌, ℕ, ◌+◌, ◌≤◌, ◌⊎◌, true, false, List, length, Option, Some, Result, Ok, Err}
use Rattle.std.specs.Io.KnownBytes.{Consumes, IsAtEnd}
use Rattle.cove_base.specs.Scripts.{ScriptValue}
use Rattle.cove_base.specs.declared.events.Entry.{Entry}
use Rattle.cove_base.specs.declared.faults.Kind.TheVariants.{TooLong}
use Rattle.cove_base.specs.declared.faults.ScriptFault.{ScriptFault}
use Rattle.cove_base.specs.declared.limits.TheConstants.{ENTRY_LIMIT, SCRIPT_LIMIT}
use Rattle.cove_io.specs.Ends.{TakesExactly}
use Rattle.cove_journal.specs.Journals.{journal_history}
use Rattle.cove_model.specs.Grammar.{script_of, fault_at}
use Rattle.cove_model.specs.Played.{IsOver, played}
use Rattle.cove_model.specs.Reports.{report, report_limit}
pub use Rattle.cove_monitor.specs.Closing.{IsHistoryOf}
use Rattle.cove_run.specs.Printing.{refusal_line}

-- these bytes were read, to their end; a script has no more
pub record ReadsWhole (old new : Option (List ℕ)) (bytes : List ℕ) : Type 0 where
  pub consumed : Consumes old new bytes
  pub at_end : IsAtEnd new
  pub within : length bytes ≤ SCRIPT_LIMIT

-- what was read spells this script, or has this fault; a byte more than a script may have is one
abbrev pub Reads : (old new : Option (List ℕ)) → Result ScriptValue ScriptFault → Type 0
Reads old new found =
    ((bytes : List ℕ) × ReadsWhole old new bytes × (script_of SCRIPT_LIMIT bytes ≡ found))
    ⊎ (TakesExactly (SCRIPT_LIMIT + 1) old new × (found ≡ Err (fault_at 0 TooLong)))

-- the history that a script plays
abbrev pub history_of : ScriptValue → List Entry
history_of script = played ENTRY_LIMIT script

-- the journal of a history reads as that history, and tells whether every line is ended or the limit came first
abbrev pub IsReadBack : List Entry → Type 0
IsReadBack history =
    (journal_history (report history) ≡ Some (history, true))
    × (journal_history (report_limit history) ≡ Some (history, false))

-- the text that is printed of a history of a script: its journal, whole or up to the limit
abbrev pub PrintsHistory : ScriptValue → (history : List Entry) (text : List ℕ) → Type 0
PrintsHistory script history text =
    (IsOver script history × (text ≡ report history)) ⊎ ((IsOver script history → ⊥) × (text ≡ report_limit history))

-- the text that is printed where this script was read, or its fault
abbrev pub Prints : Result ScriptValue ScriptFault → (text : List ℕ) → Type 0
Prints (Ok script) text = PrintsHistory script (history_of script) text
Prints (Err fault) text = text ≡ refusal_line fault
