-- A printed journal reads as the history that it was printed of, and no other text reads as that.
use Rattle.std.proofs.Common.{◌≡◌, ℕ, ◌-◌, Bool, true, false, ◌&&◌, List, [], ◌∷◌, ◌++◌, length, map, take, get_or, flat_map, Option, Some, None, option_map, option_and_then, bytes_eq, codes, IsTrue, inl, inr, refl, sym, ap, ◌∙◌, arith}
use Rattle.std.specs.Prelude.{if◌then◌else◌}
use Rattle.std.specs.List.{list_all}
use Rattle.std.proofs.lemmas.Bool.{and_from, and_parts, cases_Bool, false_from_ne_true}
use Rattle.std.proofs.lemmas.Grind.{flat_map-append}
use Rattle.std.proofs.lemmas.List.{append-nil, append_cancel_left, length-map, length_push, take_at}
use Rattle.std.proofs.lemmas.List.Folds.{flat_map-map, list_all-append, list_all-map}
use Rattle.std.proofs.lemmas.Option.{cond_some, none-some, option_and_then_some, same_Some, some_pair_parts}
use Rattle.std.proofs.lemmas.Slice.Eq.{bytes_eq-Decides}
use Rattle.cove_base.specs.Numbers.{natural_text}
use Rattle.cove_base.specs.Text.{text_lines, text_words}
use Rattle.cove_base.specs.declared.events.Entry.{Entry}
use Rattle.cove_base.proofs.JoinedWords.{is_line_byte, joined_in_line, text_lines-ended}
use Rattle.cove_base.proofs.ScriptLimits.{all_weaker}
use Rattle.cove_model.specs.Reports.{ended_line, entry_line, entry_lines, entry_words, report, report_limit}
use Rattle.cove_text.proofs.JoinedWords.{is_word-natural_text}
use Rattle.cove_journal.specs.Journals.{if_reported_by, if_shown_by, is_readable, journal_history, line_entries, line_entry}
use Rattle.cove_journal.specs.Lines.{last_line_of}
use Rattle.cove_journal.specs.Reading.{entry_named}
use Rattle.cove_journal.proofs.EventsRead.{entry_is_read, entry_is_words}

-- ---- the lines of a journal

abbrev report_by : Bool → List Entry → List ℕ
report_by whole history = if whole then report history else report_limit history

-- the lines of a journal, without their line feeds
abbrev journal_lines : Bool → List Entry → List (List ℕ)
journal_lines whole history = map entry_line history ++ last_line_of whole (length history) ∷ []

report_is_lines : (whole : Bool) (history : List Entry) → flat_map ended_line (journal_lines whole history) ≡ report_by whole history
report_is_lines whole history =
    flat_map-append ended_line (map entry_line history) (last_line_of whole (length history) ∷ [])
    ∙ ap (λ (t : List ℕ). flat_map ended_line (map entry_line history) ++ t) (append-nil (ended_line (last_line_of whole (length history))))
    ∙ ap (λ (t : List ℕ). t ++ ended_line (last_line_of whole (length history))) (flat_map-map ended_line entry_line history)
    ∙ by whole
  where
    by : (whole : Bool) → entry_lines history ++ ended_line (last_line_of whole (length history)) ≡ report_by whole history
    by true = refl
    by false = refl

entries_in_line : (history : List Entry) → list_all is_readable history ≡ true → list_all (list_all is_line_byte) (map entry_line history) ≡ true
entries_in_line history readable =
    list_all-map (list_all is_line_byte) entry_line history
    ∙ all_weaker is_readable (λ entry. list_all is_line_byte (entry_line entry))
    (λ entry has. joined_in_line (entry_words entry) (entry_is_words entry has)) history readable

last_in_line : (whole : Bool) (n : ℕ) → list_all is_line_byte (last_line_of whole n) ≡ true
last_in_line true n = joined_in_line (codes "end" ∷ natural_text n ∷ []) (and_from _ _ (is_word-natural_text n) refl)
last_in_line false n = joined_in_line (codes "limit" ∷ natural_text n ∷ []) (and_from _ _ (is_word-natural_text n) refl)

text_lines-report : (whole : Bool) (history : List Entry) → list_all is_readable history ≡ true → text_lines (report_by whole history) ≡ journal_lines whole history
text_lines-report whole history readable =
    ap text_lines (sym (report_is_lines whole history))
    ∙ text_lines-ended (journal_lines whole history)
    (list_all-append (list_all is_line_byte) (map entry_line history) (last_line_of whole (length history) ∷ [])
    ∙ and_from _ _ (entries_in_line history readable) (and_from _ _ (last_in_line whole (length history)) refl))

-- ---- what is read

bytes_eq-same : (xs : List ℕ) → bytes_eq xs xs ≡ true
bytes_eq-same xs = (bytes_eq-Decides xs xs).1 refl

pub line_is_read : (entry : Entry) → is_readable entry ≡ true → line_entry (entry_line entry) ≡ Some entry
line_is_read entry readable =
    ap (option_and_then (if_shown_by (entry_line entry))) (entry_is_read entry readable)
    ∙ ap (λ (b : Bool). if b then Some entry else None) (and_from _ _ readable (bytes_eq-same (entry_line entry)))

entries_are_read : (history : List Entry) → list_all is_readable history ≡ true → line_entries (map entry_line history) ≡ Some history
entries_are_read [] readable = refl
entries_are_read (entry ∷ history) readable =
    let parts = and_parts (is_readable entry) (list_all is_readable history) readable in
    ap (option_and_then (λ e. option_map (λ es. e ∷ es) (line_entries (map entry_line history)))) (line_is_read entry parts.0)
    ∙ ap (option_map (λ es. entry ∷ es)) (entries_are_read history parts.1)

-- the two journals of a history differ in their last lines
pub reports_differ : (history : List Entry) → report history ≡ report_limit history → ⊥
reports_differ history e =
    let ends = append_cancel_left (entry_lines history) (ended_line (last_line_of true (length history))) (ended_line (last_line_of false (length history))) e in
    absurd (let heads : 101 ≡ 108 = ap (λ (t : List ℕ). get_or t 0 0) ends in omega (arith, heads))

other_report : (history : List Entry) → bytes_eq (report history) (report_limit history) ≡ false
other_report history =
    false_from_ne_true (bytes_eq (report history) (report_limit history))
    (λ e. reports_differ history ((bytes_eq-Decides (report history) (report_limit history)).0 e))

reported_is_read : (whole : Bool) (history : List Entry) → if_reported_by (report_by whole history) history ≡ Some (history, whole)
reported_is_read true history = rw (bytes_eq-same (report history)) refl
reported_is_read false history = rw (other_report history, bytes_eq-same (report_limit history)) refl

-- a printed journal reads as its history
report_is_read : (whole : Bool) (history : List Entry) → list_all is_readable history ≡ true → journal_history (report_by whole history) ≡ Some (history, whole)
report_is_read whole history readable =
    let text = report_by whole history in
    let lines = journal_lines whole history in
    let last = last_line_of whole (length history) in
    let size : length lines - 1 ≡ length history =
    (let pushed = length_push (map entry_line history) last in let mapped = length-map history entry_line in omega arith) in
    ap (λ (ls : List (List ℕ)). option_and_then (if_reported_by text) (line_entries (take (length ls - 1) ls))) (text_lines-report whole history readable)
    ∙ ap (λ (n : ℕ). option_and_then (if_reported_by text) (line_entries (take n lines))) size
    ∙ ap (λ (ls : List (List ℕ)). option_and_then (if_reported_by text) (line_entries ls)) (take_at (map entry_line history) (last ∷ []) (length history) (length-map history entry_line))
    ∙ ap (option_and_then (if_reported_by text)) (entries_are_read history readable)
    ∙ reported_is_read whole history

pub whole_is_read : (history : List Entry) → list_all is_readable history ≡ true → journal_history (report history) ≡ Some (history, true)
whole_is_read history readable = report_is_read true history readable

pub limit_is_read : (history : List Entry) → list_all is_readable history ≡ true → journal_history (report_limit history) ≡ Some (history, false)
limit_is_read history readable = report_is_read false history readable

-- ---- no other text reads as that

-- the entry that a line shows is readable, and has that line
pub record IsShown (line : List ℕ) (entry : Entry) : Type 0 where
  pub has : is_readable entry ≡ true
  pub is : entry_line entry ≡ line

if_shown : (line : List ℕ) (found entry : Entry) → if_shown_by line found ≡ Some entry → IsShown line entry
if_shown line found entry e =
    let same = cond_some (is_readable found && bytes_eq (entry_line found) line) found entry e in
    let parts = and_parts (is_readable found) (bytes_eq (entry_line found) line) same.0 in
    rw (← same.1) (record { has = parts.0; is = (bytes_eq-Decides (entry_line found) line).0 parts.1 })

pub shown : (line : List ℕ) (entry : Entry) → line_entry line ≡ Some entry → IsShown line entry
shown line entry e = option_and_then_some (if_shown_by line) (entry_named (text_words line)) entry e (λ found is. if_shown line found entry)

option_map_some : {A B P : Type 0} (f : A → B) (o : Option A) (y : B) → option_map f o ≡ Some y → ((x : A) → o ≡ Some x → f x ≡ y → P) → P
option_map_some f None y e goes = absurd (none-some y e)
option_map_some f (Some x) y e goes = goes x refl (same_Some (f x) y e)

are_readable : (lines : List (List ℕ)) (history : List Entry) → line_entries lines ≡ Some history → list_all is_readable history ≡ true
are_readable [] history e = ap (list_all is_readable) (sym (same_Some [] history e))
are_readable (line ∷ lines) history e =
    option_and_then_some (λ first. option_map (λ es. first ∷ es) (line_entries lines)) (line_entry line) history e
    (λ first found rest.
    option_map_some (λ es. first ∷ es) (line_entries lines) history rest (λ others read is.
    rw (← is) (and_from _ _ (shown line first found).has (are_readable lines others read))))

-- the history that was read is the one of which the text is the journal
reported : (text : List ℕ) (found history : List Entry) (whole : Bool) → if_reported_by text found ≡ Some (history, whole)
    → (found ≡ history) × (text ≡ report_by whole history)
reported text found history whole e =
    elim (cases_Bool (bytes_eq (report found) text)) [
      | inl same ↦ is true same (rw same at e)
      | inr other ↦
          let limit = cond_some (bytes_eq (report_limit found) text) (found, false) (history, whole) (rw other at e) in
          is false limit.0 (ap Some limit.1)
    ]
  where
    is : (w : Bool) → bytes_eq (report_by w found) text ≡ true → ◌≡◌ {A = Option (List Entry × Bool)} (Some (found, w)) (Some (history, whole))
        → (found ≡ history) × (text ≡ report_by whole history)
    is w same e =
        let parts = some_pair_parts found history w whole e in
        (parts.0, rw (← parts.0, ← parts.1) (sym ((bytes_eq-Decides (report_by w found) text).0 same)))

pub exact : (text : List ℕ) (history : List Entry) (whole : Bool) → journal_history text ≡ Some (history, whole)
    → IsTrue (list_all is_readable history) × (text ≡ (if whole then report history else report_limit history))
exact text history whole e =
    let lines = take (length (text_lines text) - 1) (text_lines text) in
    option_and_then_some (if_reported_by text) (line_entries lines) (history, whole) e
    (λ found shows rest.
    let parts = reported text found history whole rest in
    (are_readable lines history (shows ∙ ap Some parts.0), parts.1))

-- ---- one journal is of one history

same_read : (history other : List Entry) (whole : Bool) → list_all is_readable history ≡ true → list_all is_readable other ≡ true
    → report_by whole history ≡ report_by whole other → history ≡ other
same_read history other whole readable readable' e =
    ap (λ (r : List Entry × Bool). r.0)
    (same_Some (history, whole) (other, whole)
    (sym (report_is_read whole history readable) ∙ ap journal_history e ∙ report_is_read whole other readable'))

pub one : (history other : List Entry) → IsTrue (list_all is_readable history) → IsTrue (list_all is_readable other) → report history ≡ report other → history ≡ other
one history other readable readable' e = same_read history other true readable readable' e

pub one_limit : (history other : List Entry) → IsTrue (list_all is_readable history) → IsTrue (list_all is_readable other) → report_limit history ≡ report_limit other → history ≡ other
one_limit history other readable readable' e = same_read history other false readable readable' e
