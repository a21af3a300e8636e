-- A script in front of other text, and the lines up to the first line `end`.
use Rattle.std.proofs.Common.{◌≡◌, ℕ, suc, ◌+◌, ◌≤◌, true, false, cond, not, min, nat_lt, ◌⊎◌, List, [], ◌∷◌, ◌++◌, length, take, sum_by, codes, Result, Ok, Err, refl, sym, ap, subst, ◌∙◌, append_assoc, inl, inr, arith}
use Rattle.std.specs.List.{list_all}
use Rattle.std.proofs.lemmas.Bool.{both_ways, cases_Bool, cases_cond, cases_lt, cond_both, and_parts, and_from, not-false, not-true, ltb-false, le-ltb, lt-ltb, eqb-true}
use Rattle.std.proofs.lemmas.List.{append-nil, length-append, length_push, length-take, nil_from_length, take_all, take_at}
use Rattle.std.proofs.lemmas.Slice.Eq.{bytes_eq-Decides}
use Rattle.std.proofs.lemmas.List.Sums.{sum_by-cons}
use Rattle.cove_base.specs.declared.faults.Kind.{Kind}
use Rattle.cove_base.specs.declared.faults.Kind.TheVariants.{NotAscii, TooLong}
use Rattle.cove_base.specs.declared.faults.ScriptFault.{ScriptFault}
use Rattle.cove_base.specs.Scripts.{ScriptValue}
use Rattle.cove_base.specs.Text.{is_line_end, lines_from, text_lines, text_words}
use Rattle.cove_model.specs.Grammar.{Word, Reading, Content, EndLine, content_of, is_ascii, has_wrong_count, reading_after, judged, words_read, line_read, lines_read, then_read, fault_at, opening_reading, script_of}
use Rattle.cove_model.specs.Fronts.{is_end, is_end_line, front_lines, front_size, with_place, front_of, AreUpToEnd, IsAfterLine, IsFront}
use Rattle.cove_model.proofs.GrammarLimits.{accepted, line_cases, passed}

-- ---- the line `end` is the one after which the script has ended

-- of the forms of a line, only the line `end` ends the script
form_that_ends : (R : Reading) (content : Content) → R.has_end ≡ false → (reading_after R content).has_end ≡ true → has_wrong_count content ≡ false → content ≡ EndLine []
form_that_ends R (EndLine words) going ended count = ap EndLine (nil_from_length words (eqb-true (length words) 0 (not-false _ count)))
form_that_ends R content going ended count = absurd (both_ways R.has_end going ended)

only_end : (first : Word) (words : List Word) → content_of first words ≡ EndLine [] → is_end (first ∷ words) ≡ true
unfolding content_of
only_end first words e = grind arith

-- a line after which the script has ended
line_that_ends : (R S : Reading) (line : List ℕ) → line_read R line ≡ Ok S → R.has_end ≡ false → S.has_end ≡ true → is_end_line line ≡ true
line_that_ends R S line e going ended =
    elim (line_cases R line S e) [
      | inl same ↦ absurd (both_ways S.has_end (sym (ap (λ (T : Reading). T.has_end) same) ∙ going) ended)
      | inr said ↦
          let content = content_of said.0 said.1 in
          let is : content ≡ EndLine [] = form_that_ends R content going (ap (λ (T : Reading). T.has_end) said.3.is ∙ ended) said.3.count in
          rw said.2 (only_end said.0 said.1 is)
    ]

the_word : (words : List Word) → is_end words ≡ true → words ≡ codes "end" ∷ []
the_word (word ∷ []) is = ap (λ (w : Word). w ∷ []) ((bytes_eq-Decides word (codes "end")).0 is)
the_word words is = absurd cc

-- the line `end` ends the script
end_line_ends : (R S : Reading) (line : List ℕ) → is_end_line line ≡ true → line_read R line ≡ Ok S → S.has_end ≡ true
unfolding line_read words_read content_of
end_line_ends R S line is e =
    let f : cond (is_ascii line) (judged R (EndLine [])) (Err NotAscii) ≡ Ok S = rw (the_word (text_words line) is) at e in
    elim (cases_cond (is_ascii line) _ _ _ (sym f)) [
      | inl read ↦ sym (ap (λ (T : Reading). T.has_end) (accepted R (EndLine []) S (sym read)).is)
      | inr bad ↦ absurd cc
    ]

-- ---- lines without the line `end`, and lines up to it

-- a line that is read without a fault goes on
went_on : {X : Type 0} (number : ℕ) (r : Result Reading Kind) (next : Reading → Result X ScriptFault) (x : X) → then_read number r next ≡ Ok x → (S : Reading) × (r ≡ Ok S) × (next S ≡ Ok x)
went_on number (Ok S) next x e = (S, refl, e)
went_on number (Err kind) next x e = absurd cc

-- lines without the line `end` make no script
no_script_without_end : (R : Reading) (number : ℕ) (lines : List (List ℕ)) (script : ScriptValue) → R.has_end ≡ false → list_all (λ line. not (is_end_line line)) lines ≡ true → lines_read R number lines ≡ Ok script → ⊥
no_script_without_end R number [] script going none e = let f = rw going at e in cc
no_script_without_end R number (line ∷ lines) script going none e =
    let parts = and_parts (not (is_end_line line)) (list_all (λ l. not (is_end_line l)) lines) none in
    let read = went_on number (line_read R line) (λ S. lines_read S (number + 1) lines) script e in
    elim (cases_Bool read.0.has_end) [
      | inl ended ↦ both_ways (is_end_line line) (not-true _ parts.0) (line_that_ends R read.0 line read.1 going ended)
      | inr goes ↦ no_script_without_end read.0 (number + 1) lines script goes parts.1 read.2
    ]

-- a line's own fault is the same whatever comes after it
same_if : {X : Type 0} (number : ℕ) (r : Result Reading Kind) (next other : Reading → Result X ScriptFault) (fault : ScriptFault) → ((S : Reading) → r ≡ Ok S → next S ≡ Err fault → other S ≡ Err fault) → then_read number r next ≡ Err fault → then_read number r other ≡ Err fault
same_if number (Ok S) next other fault goes_on e = goes_on S refl e
same_if number (Err kind) next other fault goes_on e = e

-- a fault of lines up to the line `end` is the fault of the lines that go on after it
same_fault : (R : Reading) (number : ℕ) (before more : List (List ℕ)) (last : List ℕ) (fault : ScriptFault) → is_end_line last ≡ true → lines_read R number (before ++ last ∷ []) ≡ Err fault → lines_read R number ((before ++ last ∷ []) ++ more) ≡ Err fault
same_fault R number [] more last fault is e =
    same_if number (line_read R last) (λ S. lines_read S (number + 1) []) (λ S. lines_read S (number + 1) more) fault
    (λ S at f. absurd (let g = rw (end_line_ends R S last is at) at f in cc)) e
same_fault R number (line ∷ before) more last fault is e =
    same_if number (line_read R line) (λ S. lines_read S (number + 1) (before ++ last ∷ [])) (λ S. lines_read S (number + 1) ((before ++ last ∷ []) ++ more)) fault
    (λ S at f. same_fault S (number + 1) before more last fault is f) e

-- the lines up to the first line `end`, after lines without it
front_lines-append : (before more : List (List ℕ)) → list_all (λ line. not (is_end_line line)) before ≡ true → front_lines (before ++ more) ≡ before ++ front_lines more
front_lines-append [] more none = refl
front_lines-append (line ∷ before) more none =
    let parts = and_parts (not (is_end_line line)) (list_all (λ l. not (is_end_line l)) before) none in
    rw (not-true _ parts.0) (ap (λ (ls : List (List ℕ)). line ∷ ls) (front_lines-append before more parts.1))

-- ---- the bytes of lines

abbrev size : List (List ℕ) → ℕ
size lines = sum_by (λ line. length line + 1) lines

size-cons : (line : List ℕ) (lines : List (List ℕ)) → size (line ∷ lines) ≡ length line + 1 + size lines
size-cons line lines = sum_by-cons (λ l. length l + 1) line lines

-- lines have all bytes of their text
size_covers : (piece rest : List ℕ) → length piece + length rest ≤ size (lines_from piece rest)
size_covers [] [] = omega arith
size_covers (byte ∷ piece) [] = omega (arith, size-cons (byte ∷ piece) [])
size_covers piece (byte ∷ rest) = cond_both (is_line_end byte) _ _ (λ ls. length piece + length (byte ∷ rest) ≤ size ls)
    (λ ends. omega (arith, size_covers [] rest, size-cons piece (lines_from [] rest)))
    (λ goes_on. omega (arith, size_covers (piece ++ byte ∷ []) rest, length-append piece (byte ∷ [])))

-- after a line feed the lines begin anew, and those up to it have no more bytes than their text
cut : (piece before rest : List ℕ) → (lines_from piece (before ++ 10 ∷ rest) ≡ lines_from piece (before ++ 10 ∷ []) ++ lines_from [] rest) × (size (lines_from piece (before ++ 10 ∷ [])) ≡ length piece + length before + 1)
cut piece [] rest = (refl, omega (arith, size-cons piece []))
cut piece (byte ∷ before) rest =
    elim (cases_Bool (is_line_end byte)) [
      | inl ends ↦ rw ends (
          let more = cut [] before rest in
          (ap (λ (ls : List (List ℕ)). piece ∷ ls) more.0, omega (arith, more.1, size-cons piece (lines_from [] (before ++ 10 ∷ [])))))
      | inr goes_on ↦ rw goes_on (let more = cut (piece ++ byte ∷ []) before rest in (more.0, omega (arith, more.1, length-append piece (byte ∷ []))))
    ]

-- ---- a text and its front

-- a piece and the bytes after it have a front
record HasFront (piece bytes : List ℕ) : Type 0 where
  place : ℕ
  after_line : IsAfterLine bytes place
  up_to_end : AreUpToEnd (lines_from piece (take place bytes))

one_line : (line : List ℕ) → is_end_line line ≡ true → AreUpToEnd (line ∷ [])
one_line line is = record { before = []; last = line; lines_are = refl; no_end = refl; ends = is }

one_more : (line : List ℕ) (lines : List (List ℕ)) → is_end_line line ≡ false → AreUpToEnd lines → AreUpToEnd (line ∷ lines)
one_more line lines not_end u = record {
  before = line ∷ u.before;
  last = u.last;
  lines_are = ap (λ (ls : List (List ℕ)). line ∷ ls) u.lines_are;
  no_end = and_from _ _ (ap not not_end) u.no_end;
  ends = u.ends;
}

longer : (byte : ℕ) (bytes : List ℕ) (place : ℕ) → IsAfterLine bytes place → IsAfterLine (byte ∷ bytes) (suc place)
longer byte bytes place (inl all) = inl (ap suc all)
longer byte bytes place (inr (before, rest, is, at)) = inr (byte ∷ before, rest, ap (λ (bs : List ℕ). byte ∷ bs) is, omega arith)

-- a text has a front, or no line `end`
find_front : (piece bytes : List ℕ) → (list_all (λ line. not (is_end_line line)) (lines_from piece bytes) ≡ true) ⊎ HasFront piece bytes
find_front [] [] = inl refl
find_front (byte ∷ piece) [] =
    elim (cases_Bool (is_end_line (byte ∷ piece))) [
      | inl is ↦ inr (record { place = 0; after_line = inl refl; up_to_end = one_line (byte ∷ piece) is })
      | inr other ↦ inl (and_from _ _ (ap not other) refl)
    ]
find_front piece (byte ∷ bytes) =
    elim (cases_Bool (is_line_end byte)) [
      | inl ends ↦ elim (cases_Bool (is_end_line piece)) [
        | inl is ↦
            let feed = ap (λ (b : ℕ). b ∷ bytes) (eqb-true byte 10 ends) in
            inr (record { place = 1; after_line = inr ([], bytes, feed, refl); up_to_end = rw ends (one_line piece is) })
        | inr other ↦ elim (find_front [] bytes) [
          | inl none ↦ inl (rw ends (and_from _ _ (ap not other) none))
          | inr has ↦ inr (record { place = suc has.place; after_line = longer byte bytes has.place has.after_line; up_to_end = rw ends (one_more piece _ other has.up_to_end) })
        ]
      ]
      | inr goes ↦ elim (find_front (piece ++ byte ∷ []) bytes) [
        | inl none ↦ inl (rw goes none)
        | inr has ↦ inr (record { place = suc has.place; after_line = longer byte bytes has.place has.after_line; up_to_end = rw goes has.up_to_end })
      ]
    ]

take_of_line : (before rest : List ℕ) → take (length before + 1) (before ++ 10 ∷ rest) ≡ before ++ 10 ∷ []
take_of_line before rest = rw append_assoc at (take_at (before ++ 10 ∷ []) rest (length before + 1) (length_push before 10))

-- the text up to a place after a line is a text of its own, and the lines of the whole text begin with its lines
apart : (text : List ℕ) (place : ℕ) → IsAfterLine text place → (more : List (List ℕ)) × (text_lines text ≡ text_lines (take place text) ++ more) × (min (size (text_lines (take place text))) (length text) ≡ place)
apart text place (inl all) =
    let whole : take place text ≡ text = take_all place text (omega arith) in
    ([], rw whole (sym (append-nil (text_lines text))), rw whole (omega (arith, size_covers [] text)))
apart text place (inr (before, rest, is, at)) =
    let line : take place text ≡ before ++ 10 ∷ [] = rw (at, is) (take_of_line before rest) in
    let lines = cut [] before rest in
    (text_lines rest, rw line (ap text_lines is ∙ lines.0), rw line (omega (arith, lines.1, ap length is, length-append before (10 ∷ rest))))

-- a place after a line is the front's where the lines up to it end with the first line `end`
place_is : (text : List ℕ) (place : ℕ) → IsAfterLine text place → AreUpToEnd (text_lines (take place text)) → front_size text ≡ place
place_is text place after_line u =
    let a = apart text place after_line in
    rw (a.1, u.lines_are, append_assoc u.before (u.last ∷ []) a.0, front_lines-append u.before (u.last ∷ a.0) u.no_end, u.ends, ← u.lines_are) a.2

-- the front of a text is all of it, without a line `end`, or its lines up to that line
front_cases : (text : List ℕ) → ((take (front_size text) text ≡ text) × (list_all (λ line. not (is_end_line line)) (text_lines text) ≡ true)) ⊎ (IsAfterLine text (front_size text) × AreUpToEnd (text_lines (take (front_size text) text)))
front_cases text =
    elim (find_front [] text) [
      | inl none ↦
          let all : front_lines (text_lines text) ≡ text_lines text = simp append-nil at (front_lines-append (text_lines text) [] none) in
          inl (rw all (take_all _ text (omega (arith, size_covers [] text))), none)
      | inr has ↦ inr (rw (place_is text has.place has.after_line has.up_to_end) (has.after_line, has.up_to_end))
    ]

script_of-short : (limit : ℕ) (text : List ℕ) → length text ≤ limit → script_of limit text ≡ lines_read opening_reading 1 (text_lines text)
unfolding script_of
script_of-short limit text short = rw (le-ltb limit (length text) short) refl

-- ---- the front of a text is a script's

placed : (place at : ℕ) (r : Result ScriptValue ScriptFault) (script : ScriptValue) → with_place place r ≡ Ok (script, at) → (r ≡ Ok script) × (place ≡ at)
placed place at r script e = grind arith

refused : (place : ℕ) (r : Result ScriptValue ScriptFault) (fault : ScriptFault) → with_place place r ≡ Err fault → r ≡ Err fault
refused place r fault e = grind arith

pub is_front : (limit : ℕ) (text : List ℕ) (script : ScriptValue) (place : ℕ) → front_of limit text ≡ Ok (script, place) → IsFront limit text script place
unfolding front_of
is_front limit text script place e =
    let p = passed (nat_lt limit (length text)) (fault_at 0 TooLong) _ (script, place) e in
    let q = placed (front_size text) place (script_of limit (take (front_size text) text)) script p.1 in
    let short : length text ≤ limit = ltb-false limit (length text) p.0 in
    elim (front_cases text) [
      | inl all ↦
          let read = sym (script_of-short limit text short) ∙ (rw all.0 at q.0) in
          absurd (no_script_without_end opening_reading 1 (text_lines text) script refl all.1 read)
      | inr is ↦ subst (IsFront limit text script) q.1 (record { short = short; after_line = is.0; up_to_end = is.1; spells = q.0 })
    ]

pub front_from : (limit : ℕ) (text : List ℕ) (script : ScriptValue) (place : ℕ) → IsFront limit text script place → front_of limit text ≡ Ok (script, place)
unfolding front_of
front_from limit text script place f = rw (le-ltb limit (length text) f.short, place_is text place f.after_line f.up_to_end, f.spells)

pub rest_is_not_read : (limit : ℕ) (before rest other : List ℕ) (script : ScriptValue) → length (before ++ 10 ∷ other) ≤ limit
    → front_of limit (before ++ 10 ∷ rest) ≡ Ok (script, length before + 1) → front_of limit (before ++ 10 ∷ other) ≡ Ok (script, length before + 1)
rest_is_not_read limit before rest other script short e =
    let f = is_front limit (before ++ 10 ∷ rest) script (length before + 1) e in
    let same : take (length before + 1) (before ++ 10 ∷ rest) ≡ take (length before + 1) (before ++ 10 ∷ other) = take_of_line before rest ∙ sym (take_of_line before other) in
    front_from limit (before ++ 10 ∷ other) script (length before + 1) (record {
      short = short;
      after_line = inr (before, other, refl, refl);
      up_to_end = rw same at f.up_to_end;
      spells = rw same at f.spells;
    })

-- where the front has a fault, it is the text's own
in_front : (limit : ℕ) (text : List ℕ) (fault : ScriptFault) → length text ≤ limit → script_of limit (take (front_size text) text) ≡ Err fault → script_of limit text ≡ Err fault
in_front limit text fault short r =
    elim (front_cases text) [
      | inl all ↦ rw all.0 at r
      | inr is ↦
          let u = is.1 in
          let a = apart text (front_size text) is.0 in
          let few : length (take (front_size text) text) ≤ limit = omega (arith, length-take (front_size text) text) in
          let read = rw (script_of-short limit _ few, u.lines_are) at r in
          rw (script_of-short limit text short, a.1, u.lines_are) (same_fault opening_reading 1 u.before a.0 u.last fault u.ends read)
    ]

pub fault_in_front : (limit : ℕ) (text : List ℕ) (fault : ScriptFault) → front_of limit text ≡ Err fault → script_of limit text ≡ Err fault
unfolding front_of script_of
fault_in_front limit text fault e =
    elim (cases_lt limit (length text)) [
      | inl long ↦
          let f = rw (lt-ltb limit (length text) long) at e in
          let same : fault_at 0 TooLong ≡ fault = cc in
          rw (lt-ltb limit (length text) long, same)
      | inr short ↦ in_front limit text fault short
          (refused (front_size text) (script_of limit (take (front_size text) text)) fault (rw (le-ltb limit (length text) short) at e))
    ]
