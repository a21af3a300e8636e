-- What the top call for harts on threads runs, refuses and prints.
use Rattle.std.specs.Prelude.{◌≡◌, ℕ, Bool, true, false, List, [], ◌∷◌, Option, Some, None, Result, Ok, Err, String, string_bytes, bytes_eq, codes}
use Rattle.std.specs.List.{list_all}
use Rattle.std.specs.declared.alloc.Global.{Global}
use Rattle.cove_base.specs.Scripts.{ScriptValue}
use Rattle.cove_base.specs.declared.calls.HostCall.{HostCall}
use Rattle.cove_base.specs.declared.calls.HostCall.TheVariants.{Convert, GlobalFence, LocalFence, Reclaim, Info}
use Rattle.cove_base.specs.declared.events.Entry.{Entry}
use Rattle.cove_base.specs.declared.faults.ScriptFault.{ScriptFault}
use Rattle.cove_base.specs.declared.scripts.Line.{Line}
use Rattle.cove_base.specs.declared.scripts.Line.TheVariants.{Call, Load, Store}
use Rattle.cove_base.specs.declared.scripts.ScriptLine.{ScriptLine}
use Rattle.cove_run.specs.Printing.{not_built_line, refusal_line}
use Rattle.cove_run.specs.TopCall.{IsHistoryOf, PrintsHistory}

-- the words are `run` alone
abbrev pub says_run : List (String Global) → Bool
says_run (word ∷ []) = bytes_eq (string_bytes word) (codes "run")
says_run words = false

-- the calls that harts on threads make
abbrev pub is_threaded_call : HostCall → Bool
is_threaded_call (Convert base n) = true
is_threaded_call GlobalFence = true
is_threaded_call LocalFence = true
is_threaded_call (Reclaim base n) = true
is_threaded_call Info = true
is_threaded_call call = false

-- the lines that harts on threads make: those calls, loads and stores
abbrev pub is_threaded : Line → Bool
is_threaded (Call call) = is_threaded_call call
is_threaded (Load addr) = true
is_threaded (Store addr value) = true

-- harts on threads make every line of a script
abbrev pub runs_on_threads : ScriptValue → Bool
runs_on_threads script = list_all (λ line. is_threaded line.line) script.lines

-- a line of hart 0 in the first phase
abbrev pub line_of_0 : Line → ScriptLine
line_of_0 line = record { hart = record { 0 = 0 }; phase = 0; line = line }

-- what was read is refused by this line: it is no script, or has a line that harts on threads do not make
abbrev pub IsRefusedBy : Result ScriptValue ScriptFault → (text : List ℕ) → Type 0
IsRefusedBy (Ok script) text = (runs_on_threads script ≡ false) × (text ≡ not_built_line)
IsRefusedBy (Err fault) text = text ≡ refusal_line fault

-- this text is printed of what was read, and `closed` then holds the history that is printed, if one is
abbrev pub PrintsClosed : Result ScriptValue ScriptFault → (closed : Option (List Entry)) (text : List ℕ) → Type 0
PrintsClosed found None text = IsRefusedBy found text
PrintsClosed (Ok script) (Some history) text =
    (runs_on_threads script ≡ true) × IsHistoryOf script history × PrintsHistory script history text
PrintsClosed (Err fault) (Some history) text = ⊥
