-- Every entry of a legal history has a line, which names it where the entry's numbers have 64 bits.
use Rattle.std.proofs.Common.{◌≡◌, ℕ, true, List, [], ◌∷◌, ◌++◌, Some, IsTrue, refl, arith}
use Rattle.std.specs.List.{list_all}
use Rattle.std.proofs.lemmas.Bool.{and_from, and_parts, lt-ltb}
use Rattle.cove_base.proofs.ScriptLimits.{limits_of}
use Rattle.cove_model.specs.Machine.{ScriptValue, is_within_limits, Entry, Event, HART_LIMIT, EachEntry, Legal, after, ended_by, Allows, asked, Line}
use Rattle.cove_base.specs.declared.events.Event.TheVariants as events
use Rattle.cove_base.specs.EventSizes.{are_sized, is_sized}
use Rattle.cove_journal.specs.Forms.{is_event_shown}
use Rattle.cove_journal.specs.Journals.{is_readable}
use Rattle.cove_model.proofs.Beginning.{Due, outside_due}
use Rattle.cove_model.proofs.LineHarts.{line_on_board}
use Rattle.cove_model.proofs.Unbuilt.{outside_after}
use Rattle.std.proofs.lemmas.Option.{none-some}

-- an event that may be made answers a line, since every hart is outside
made_due : (script : ScriptValue) (before : List Entry) (h : ℕ) (event : Event) → Allows script (after script before) h event → Due script (after script before) h event
made_due script before h event may = outside_due script (after script before) h event (outside_after script before h) may

-- so it is shown
event_is_shown : (event : Event) (line : Line) → asked event ≡ Some line → is_event_shown event ≡ true
event_is_shown (events.Guest act reply) line is = absurd (none-some line is)
event_is_shown (events.Evidence quote) line is = absurd (none-some line is)
event_is_shown (events.Exit exit) line is = absurd (none-some line is)
event_is_shown _ line is = refl

each_is_readable : (script : ScriptValue) → IsTrue (is_within_limits script) → (before history : List Entry)
    → EachEntry (λ pre entry. Allows script (after script pre) entry.hart.0 entry.event) before history → are_sized history ≡ true → list_all is_readable history ≡ true
each_is_readable script within before [] each sized = refl
each_is_readable script within before (entry ∷ history) each sized =
    let both = and_parts (is_sized entry.event) (are_sized history) sized in
    let limits = limits_of script within in
    let due = made_due script before entry.hart.0 entry.event each.0 in
    let on_board = line_on_board script entry.hart.0 (ended_by (after script before) entry.hart.0) due.next limits due.found in
    let few = limits.few_harts in
    and_from _ _
    (and_from _ _ (and_from _ _ (lt-ltb entry.hart.0 HART_LIMIT (omega arith)) (event_is_shown entry.event due.next.line due.is)) both.0)
    (each_is_readable script within (before ++ entry ∷ []) history each.1 both.1)

pub legal_is_readable : (script : ScriptValue) → IsTrue (is_within_limits script) → (history : List Entry) → Legal script history → are_sized history ≡ true → list_all is_readable history ≡ true
legal_is_readable script within history legal sized = each_is_readable script within [] history legal sized
