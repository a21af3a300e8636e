-- What a script plays is a history of it, of which every entry has a line.
use Rattle.std.proofs.Common.{◌≡◌, ℕ, ◌≤◌, List, [], ◌∷◌, ◌++◌, length, IsTrue, true, ⊎_elim, refl, zero, suc, arith}
use Rattle.std.proofs.lemmas.Option.{none-some}
use Rattle.cove_base.proofs.ScriptLimits.{limits_of}
use Rattle.cove_model.specs.Machine.{ScriptValue, is_within_limits, Entry, Event, ENTRY_LIMIT, EachEntry, Legal, after, IsOver, Allows}
use Rattle.cove_base.specs.declared.events.Event.TheVariants as events
use Rattle.cove_journal.specs.Lines.{is_writable}
use Rattle.cove_model.proofs.Beginning.{legal_begins, outside_due}
use Rattle.cove_model.proofs.Histories.{legal_quiet}
use Rattle.cove_model.proofs.Playing.{played_fits}
use Rattle.cove_model.proofs.Progress.{played_ends, played_size}
use Rattle.cove_model.proofs.Unbuilt.{outside_after}
use Rattle.cove_run.specs.Printing.{AreWritable}
use Rattle.cove_run.specs.TopCall.{IsHistoryOf, history_of}

pub is_history : (script : ScriptValue) → IsTrue (is_within_limits script) → IsHistoryOf script (history_of script)
is_history script within =
    let limits = limits_of script within in
    let fits = played_fits script limits ENTRY_LIMIT in
    record {
      legal = fits.0;
      begins = legal_begins script (history_of script) fits.0;
      cached = fits.1;
      quiet = legal_quiet script limits (history_of script) fits.0;
    }

pub full_else : (script : ScriptValue) → (IsOver script (history_of script) → ⊥) → length (history_of script) ≡ ENTRY_LIMIT
full_else script open_lines =
    let few : length (history_of script) ≤ ENTRY_LIMIT = played_size ENTRY_LIMIT script in
    let many : ENTRY_LIMIT ≤ length (history_of script) = ⊎_elim (λ full. full) (λ over. absurd (open_lines over)) (played_ends ENTRY_LIMIT script) in
    omega arith

-- an event that may be made has a line: guests make none yet
event_writable : (script : ScriptValue) (before : List Entry) (h : ℕ) (event : Event) → Allows script (after script before) h event → is_writable event ≡ true
event_writable script before h (events.Exit exit) may =
    let due = outside_due script (after script before) h (events.Exit exit) (outside_after script before h) may in
    absurd (none-some due.next.line due.is)
event_writable script before h _ may = refl

each_writable : (script : ScriptValue) (before history : List Entry) → EachEntry (λ pre entry. Allows script (after script pre) entry.hart.0 entry.event) before history → AreWritable history
each_writable script before [] each i d below = absurd (omega arith)
each_writable script before (entry ∷ history) each zero d below = event_writable script before entry.hart.0 entry.event each.0
each_writable script before (entry ∷ history) each (suc i) d below = each_writable script (before ++ entry ∷ []) history each.1 i d (omega arith)

pub legal_writable : (script : ScriptValue) (history : List Entry) → Legal script history → AreWritable history
legal_writable script history legal = each_writable script [] history legal
