use Rattle.std.proofs.Common.{◌≡◌, ℕ, List, Option, Some, None, IsTrue, IfSome, option_and_then, ap, sym, ◌∙◌}
use Rattle.std.proofs.lemmas.Bool.{and_from, and_parts}
use Rattle.cove_base.specs.declared.events.Entry.{Entry}
use Rattle.cove_model.specs.Reports.{entry_line}
use Rattle.cove_base.specs.EventSizes.{is_sized}
use Rattle.cove_journal.specs.Forms.{has_line}
use Rattle.cove_journal.specs.Journals.{if_shown_by, line_entry}
use Rattle.cove_journal.proofs.JournalsRead.{line_is_read, shown}
use Rattle.cove_journal.proofs.parsing.parse_line.Goals as goal

has_the_line : (line : List ℕ) (o : Option Entry) → line_entry line ≡ o → IfSome o (λ entry. IsTrue (has_line entry) × (entry_line entry ≡ line))
has_the_line line None e = tt
has_the_line line (Some entry) e =
    let is = shown line entry e in
    ((and_parts (has_line entry) (is_sized entry.event) is.has).0, is.is)

found : (line : List ℕ) (entry : Entry) → IsTrue (has_line entry) → IsTrue (is_sized entry.event) → entry_line entry ≡ line → line_entry line ≡ Some entry
found line entry shown fits same = ap line_entry (sym same) ∙ line_is_read entry (and_from _ _ shown fits)

pub returns-in_err-entry-clause-finds : goal.returns-in_err-entry-clause-finds
returns-in_err-entry-clause-finds c entry shown fits same =
    let none : None ≡ line_entry c.args.bytes.now = ap (option_and_then (if_shown_by c.args.bytes.now)) c.in_err-entry.ensures in
    c.from_residual.ensures ∙ none ∙ found c.args.bytes.now entry shown fits same

pub returns-clause-lines : goal.returns-clause-lines
returns-clause-lines c =
    has_the_line c.args.bytes.now c.if_shown_by.result
    (sym (c.if_shown_by.ensures ∙ ap (option_and_then (if_shown_by c.args.bytes.now)) c.in_ok-entry.ensures))

pub returns-clause-finds : goal.returns-clause-finds
returns-clause-finds c entry shown fits same =
    c.if_shown_by.ensures ∙ ap (option_and_then (if_shown_by c.args.bytes.now)) c.in_ok-entry.ensures ∙ found c.args.bytes.now entry shown fits same
