-- The loop over the lines of a text keeps what the grammar says of the lines that are left.
use Rattle.std.proofs.Common.{◌≡◌, ℕ, ◌+◌, ◌^◌, ◌<◌, ◌≤◌, min, List, [], ◌∷◌, ◌++◌, length, map, Result, Ok, Err, refl, sym, ap, subst, ◌∙◌, arith, inl, inr}
use Rattle.std.specs.List.{enumerate_from, sum_by}
use Rattle.std.proofs.lemmas.Bool.{cases_Bool}
use Rattle.cove_base.specs.declared.faults.Kind.{Kind}
use Rattle.cove_base.specs.declared.faults.ScriptFault.{ScriptFault}
use Rattle.cove_base.specs.Scripts.{ScriptValue}
use Rattle.cove_base.specs.Text.{is_line_end, lines_from, text_lines}
use Rattle.std.proofs.lemmas.List.{length_push}
use Rattle.cove_model.specs.Fronts.{front_lines, front_size}
use Rattle.cove_model.specs.Grammar.{Reading, line_read, lines_read, then_read, fault_at, opening_reading}
use Rattle.cove_script.specs.declared.faults.LineFault.{LineFault}
use Rattle.cove_script.specs.declared.faults.LineFault.TheVariants.{Refused, Memory}
use Rattle.cove_script.specs.declared.faults.ParseError.{ParseError}
use Rattle.cove_script.specs.Judging.{Judged, IsFaultAt, IsFaultOf}
use Rattle.cove_model.proofs.GrammarLimits.{IsSound, Keeps, opening_is_sound, sound_is_small, line_keeps}

-- ---- there are no more lines than bytes

lines_few : (piece rest : List ℕ) → length (lines_from piece rest) ≤ length piece + length rest
lines_few [] [] = omega arith
lines_few (b ∷ piece) [] = omega arith
lines_few piece (b ∷ rest) =
    elim (cases_Bool (is_line_end b)) [
      | inl ends ↦ rw ends (omega (arith, lines_few [] rest))
      | inr goes_on ↦ rw goes_on (omega (arith, lines_few (piece ++ b ∷ []) rest, length_push piece b))
    ]

-- ---- the loop to the last line

-- the lines that are left are numbered on, and there are few; read on, they give what all lines give; and what
-- was read keeps the limits
pub record Goes (size : ℕ) (total : Result ScriptValue ScriptFault) (R : Reading) (next : ℕ) (left : List (ℕ × List ℕ)) : Type 0 where
  pub rest : List (List ℕ)
  pub left_are : left ≡ enumerate_from next rest
  pub reads : lines_read R next rest ≡ total
  pub few : next + length rest ≤ size + 1
  pub phases : R.phase + 1 ≤ next
  pub sound : IsSound R

pub goes_first : (text : List ℕ) → Goes (length text) (lines_read opening_reading 1 (text_lines text)) opening_reading 1 (enumerate_from 1 (text_lines text))
goes_first text = record {
  rest = text_lines text;
  left_are = refl;
  reads = refl;
  few = omega (arith, lines_few [] text);
  phases = omega arith;
  sound = opening_is_sound;
}

-- the line that comes next, and what its reader needs
pub record AtLine (size : ℕ) (total : Result ScriptValue ScriptFault) (R : Reading) (next number : ℕ) (line : List ℕ) (left : List (ℕ × List ℕ)) : Type 0 where
  pub at : number ≡ next
  pub rest : List (List ℕ)
  pub left_are : left ≡ enumerate_from (next + 1) rest
  pub reads : then_read next (line_read R line) (λ S. lines_read S (next + 1) rest) ≡ total
  pub few : next + length rest ≤ size
  pub phase : R.phase < next
  pub pages : R.script.pages < 2 ^ 20

pub at_line : {size : ℕ} {total : Result ScriptValue ScriptFault} {R : Reading} {next number : ℕ} {line : List ℕ} {now left : List (ℕ × List ℕ)} → Goes size total R next now → now ≡ (number, line) ∷ left → AtLine size total R next number line left
at_line {size = size} {total = total} {R = R} {next = next} {number = number} {line = line} {left = left} g is =
    go g.rest (sym g.left_are ∙ is) g.reads g.few
  where
    go : (rest : List (List ℕ)) → enumerate_from next rest ≡ (number, line) ∷ left → lines_read R next rest ≡ total → next + length rest ≤ size + 1
        → AtLine size total R next number line left
    go [] e reads few = absurd (cc)
    go (first ∷ rest) e reads few =
        let tail : left ≡ enumerate_from (next + 1) rest = cc in
        let head : ◌≡◌ {A = ℕ × List ℕ} (next, first) (number, line) = cc in
        let P : List ℕ → Type 0 = λ l. then_read next (line_read R l) (λ S. lines_read S (next + 1) rest) ≡ total in
        record {
          at = sym (ap (λ (p : ℕ × List ℕ). p.0) head);
          rest = rest;
          left_are = tail;
          reads = subst P (ap (λ (p : ℕ × List ℕ). p.1) head) reads;
          few = omega arith;
          phase = omega (arith, g.phases);
          pages = sound_is_small R g.sound;
        }

pub goes_on : {size : ℕ} {total : Result ScriptValue ScriptFault} {R S : Reading} {next number : ℕ} {line : List ℕ} {now left : List (ℕ × List ℕ)} → size ≤ 2 ^ 20 → Goes size total R next now → now ≡ (number, line) ∷ left → line_read R line ≡ Ok S → Goes size total S (number + 1) left
goes_on {R = R} {S = S} {line = line} small g is e =
    let a = at_line g is in
    let k : Keeps R S = line_keeps R line S e g.sound (omega (arith, a.phase, a.few)) in
    rw a.at (record {
      rest = a.rest;
      left_are = a.left_are;
      reads = rw e at a.reads;
      few = omega (arith, a.few);
      phases = omega (arith, a.phase, k.phase);
      sound = k.sound;
    })

pub faulty : {size : ℕ} {total : Result ScriptValue ScriptFault} {R : Reading} {next number : ℕ} {line : List ℕ} {now left : List (ℕ × List ℕ)} {kind : Kind} → Goes size total R next now → now ≡ (number, line) ∷ left → line_read R line ≡ Err kind → total ≡ Err (fault_at number kind)
faulty g is e =
    let a = at_line g is in
    rw a.at (sym (rw e at a.reads))

-- after the last line
pub at_the_end : {size : ℕ} {total : Result ScriptValue ScriptFault} {R : Reading} {next : ℕ} {now : List (ℕ × List ℕ)} → Goes size total R next now → now ≡ [] → lines_read R next [] ≡ total
at_the_end {total = total} {R = R} {next = next} g is =
    go g.rest (sym g.left_are ∙ is) g.reads
  where
    go : (rest : List (List ℕ)) → enumerate_from next rest ≡ [] → lines_read R next rest ≡ total → lines_read R next [] ≡ total
    go [] e reads = reads
    go (line ∷ rest) e reads = absurd (cc)

-- ---- the loop up to the line `end`

-- the place so far and the lines that are left up to the line `end` are the front
pub record IsSized (size total place : ℕ) (left : List (ℕ × List ℕ)) : Type 0 where
  pub sum : min (place + sum_by (λ line. length line + 1) (front_lines (map (λ l. l.1) left))) size ≡ total
  pub within : place ≤ size

map-enumerate : (n : ℕ) (lines : List (List ℕ)) → map (λ l. l.1) (enumerate_from n lines) ≡ lines
map-enumerate n [] = refl
map-enumerate n (line ∷ lines) = ap (λ (ls : List (List ℕ)). line ∷ ls) (map-enumerate (n + 1) lines)

pub sized_first : (text : List ℕ) → IsSized (length text) (front_size text) 0 (enumerate_from 1 (text_lines text))
sized_first text = record {
  sum = rw map-enumerate (let e : 0 + sum_by (λ line. length line + 1) (front_lines (text_lines text)) ≡ sum_by (λ line. length line + 1) (front_lines (text_lines text)) = omega arith in ap (λ (n : ℕ). min n (length text)) e);
  within = omega arith;
}

-- ---- the fault of a line

pub is_fault : {X : Type 0} (fault : LineFault) (error : ParseError) (number : ℕ) (new : Reading) (judgement : Result Reading Kind) (total : Result X ScriptFault) → IsFaultAt number fault error → Judged {X = Unit {0}} (Err fault) new judgement → ((kind : Kind) → judgement ≡ Err kind → total ≡ Err (fault_at number kind)) → IsFaultOf error total
is_fault (Refused kind) error number new judgement total at judged shows = rw at (shows kind judged)
is_fault Memory error number new judgement total at judged shows = rw at tt
