-- Each line that the grammar accepts keeps the limits of a script.
use Rattle.std.proofs.Common.{◌≡◌, ℕ, ◌+◌, ◌^◌, ◌<◌, ◌≤◌, ◌⊎◌, Bool, true, false, cond, ◌&&◌, nat_le, nat_lt, List, [], ◌∷◌, ◌++◌, map, Option, Some, None, Result, Ok, Err, refl, sym, subst, ◌∙◌, inl, inr, arith}
use Rattle.std.specs.List.{list_all}
use Rattle.std.specs.Option.{option_map_or}
use Rattle.std.proofs.lemmas.Bool.{cases_cond, not-false, and_parts, and_from, leb-true, le-leb, lt-ltb}
use Rattle.std.proofs.lemmas.Bool.Decides.{nat_tests}
use Rattle.std.proofs.lemmas.List.{append-nil}
use Rattle.std.proofs.lemmas.List.Folds.{list_all-append}
use Rattle.cove_base.proofs.ScriptLimits.{Tests, all_weaker, limits_from_tests, within_from_tests}
use Rattle.cove_model.specs.Machine.{PHASE_LIMIT, Line, ScriptLine, is_within_limits, is_fill, is_script_line, is_line_within, phases_rise_from}
use Rattle.cove_base.specs.declared.faults.Kind.TheVariants.{BadHeader, UnknownWord, BadNumber, WrongCount, OutOfBoard}
use Rattle.cove_base.specs.Text.{text_words}
use Rattle.cove_model.specs.Grammar.{Word, Reading, is_ascii, is_remark, value, is_hex, line_of, Content, BoardLine, KeyLine, FillLine, PhaseLine, TurnsLine, EndLine, HartLine, content_of, is_header, is_bad_header, is_unknown, has_bad_number, has_wrong_count, is_out_of_board, is_key, fill_of, script_lines, reading_after, judged, words_read, line_read, opening_reading}

-- ---- what a reading keeps

abbrev pub is_of_phase : ℕ → ScriptLine → Bool
is_of_phase phase line = nat_le line.phase phase

-- the script so far keeps the limits, and its lines are of no later phase; before the board it is empty
pub record IsSound (R : Reading) : Type 0 where
  pub tests : Tests R.script
  pub past : list_all (is_of_phase R.phase) R.script.lines ≡ true
  pub fresh : R.has_board ≡ false → (R.script.fills ≡ []) × (R.script.lines ≡ []) × (R.script.turns ≡ [])

pub opening_is_sound : IsSound opening_reading
opening_is_sound = assumption

pub sound_is_within : (R : Reading) → IsSound R → is_within_limits R.script ≡ true
sound_is_within R s = within_from_tests R.script s.tests

pub sound_is_small : (R : Reading) → IsSound R → R.script.pages < 2 ^ 20
sound_is_small R s = omega (arith, (limits_from_tests R.script s.tests).few_pages)

-- ---- lists that grow

all_push : {X : Type 0} (p : X → Bool) (xs ys : List X) → list_all p xs ≡ true → list_all p ys ≡ true → list_all p (xs ++ ys) ≡ true
all_push p xs ys a b = list_all-append p xs ys ∙ and_from _ _ a b

rise_push : (first : ℕ) (lines : List ScriptLine) (line : ScriptLine) → first ≤ line.phase → phases_rise_from first lines ≡ true → list_all (is_of_phase line.phase) lines ≡ true → phases_rise_from first (lines ++ line ∷ []) ≡ true
rise_push first [] line le rise past = and_from _ _ (le-leb first line.phase le) refl
rise_push first (x ∷ lines) line le rise past = grind (arith, nat_tests, rise_push x.phase lines line)

later : (phase next : ℕ) → phase ≤ next → (lines : List ScriptLine) → list_all (is_of_phase phase) lines ≡ true → list_all (is_of_phase next) lines ≡ true
later phase next le lines e = all_weaker (is_of_phase phase) (is_of_phase next) (λ line h. le-leb line.phase next (let a : line.phase ≤ phase = leb-true line.phase phase h in omega arith)) lines e

-- ---- a line without fault

pub record IsAccepted (R : Reading) (content : Content) (S : Reading) : Type 0 where
  pub header : is_bad_header R content ≡ false
  pub known : is_unknown R content ≡ false
  pub numbers : has_bad_number content ≡ false
  pub count : has_wrong_count content ≡ false
  pub within : is_out_of_board R content ≡ false
  pub is : reading_after R content ≡ S

-- a test that does not refuse has failed
pub passed : {A E : Type 0} (b : Bool) (k : E) (r : Result A E) (x : A) → cond b (Err k) r ≡ Ok x → (b ≡ false) × (r ≡ Ok x)
passed true k r x e = absurd cc
passed false k r x e = (refl, e)

pub accepted : (R : Reading) (content : Content) (S : Reading) → judged R content ≡ Ok S → IsAccepted R content S
unfolding judged
accepted R content S e =
    let a = passed (is_bad_header R content) BadHeader _ S e in
    let b = passed (is_unknown R content) UnknownWord _ S a.1 in
    let c = passed (has_bad_number content) BadNumber _ S b.1 in
    let d = passed (has_wrong_count content) WrongCount _ S c.1 in
    let f = passed (is_out_of_board R content) OutOfBoard _ S d.1 in
    record { header = a.0; known = b.0; numbers = c.0; count = d.0; within = f.0; is = cc (f.1) }

-- a line that is read says nothing, or is one without fault
pub line_cases : (R : Reading) (line : List ℕ) (S : Reading) → line_read R line ≡ Ok S → (R ≡ S) ⊎ ((first : Word) × (words : List Word) × (text_words line ≡ first ∷ words) × IsAccepted R (content_of first words) S)
unfolding line_read words_read
line_cases R line S e =
    elim (cases_cond (is_ascii line) _ _ _ (sym e)) [
      | inl read ↦ of_words (text_words line) (sym read)
      | inr bad ↦ absurd cc
    ]
  where
    of_words : (words : List Word) → words_read R words ≡ Ok S → (R ≡ S) ⊎ ((first : Word) × (rest : List Word) × (words ≡ first ∷ rest) × IsAccepted R (content_of first rest) S)
    of_words [] f = inl cc
    of_words (first ∷ rest) f = elim (cases_cond (is_remark first) _ _ _ (sym f)) [
      | inl same ↦ inl cc
      | inr read ↦ inr (first, rest, refl, accepted R (content_of first rest) S (sym read))
    ]

-- a reading that kept the limits keeps them, and its phase is the next one at most
pub record Keeps (R S : Reading) : Type 0 where
  pub sound : IsSound S
  pub phase : S.phase ≤ R.phase + 1

-- a line that is not the board's comes after the board's
after_board : (R S T : Reading) (content : Content) → IsAccepted R content S → is_header content ≡ false → T.has_board ≡ R.has_board → Tests T.script → list_all (is_of_phase T.phase) T.script.lines ≡ true → T.phase ≤ R.phase + 1 → Keeps R T
after_board R S T content a other same tests past phase = record {
  sound = record { tests = tests; past = past; fresh = λ none. absurd (let e = a.header in let h : true ≡ false = rw (sym same ∙ none, other) at e in cc) };
  phase = phase;
}

-- the lines of a script with one that a hart may have said
with_line : (R : Reading) (hart : ℕ) (found : Option Line) → IsSound R → R.phase < 2 ^ 20 → (nat_lt hart R.script.harts && option_map_or (is_line_within R.script.pages) found false) ≡ true
    → (list_all (is_script_line R.script.pages R.script.harts) (R.script.lines ++ script_lines hart R.phase found) ≡ true) × (phases_rise_from 0 (R.script.lines ++ script_lines hart R.phase found) ≡ true) × (list_all (is_of_phase R.phase) (R.script.lines ++ script_lines hart R.phase found) ≡ true)
with_line R hart None s small e = rw (append-nil R.script.lines) (s.tests.lines, s.tests.phases, s.past)
with_line R hart (Some line) s small e =
    let both = and_parts _ _ e in (
      all_push (is_script_line R.script.pages R.script.harts) R.script.lines _ s.tests.lines (and_from _ _ (and_from _ _ (and_from _ _ both.0 (lt-ltb R.phase PHASE_LIMIT small)) both.1) refl),
      rise_push 0 R.script.lines _ (omega arith) s.tests.phases s.past,
      all_push (is_of_phase R.phase) R.script.lines _ s.past (and_from _ _ (le-leb R.phase R.phase (omega arith)) refl),
    )

keeps_after : (R S : Reading) (content : Content) → IsSound R → R.phase < 2 ^ 20 → IsAccepted R content S → Keeps R (reading_after R content)
keeps_after R S (BoardLine (x ∷ y ∷ z ∷ more)) s small a =
    let empty = s.fresh a.known in
    let tests : Tests (reading_after R (BoardLine (x ∷ y ∷ z ∷ more))).script = record {
      board = not-false _ a.within;
      fills = rw empty.0 refl;
      lines = rw empty.1 refl;
      turns = rw empty.2 refl;
      some_key = s.tests.some_key;
      few_key = s.tests.few_key;
      phases = s.tests.phases;
    } in
    record { sound = record { tests = tests; past = s.past; fresh = λ e. empty }; phase = omega arith }
keeps_after R S (BoardLine few) s small a = absurd (let e = a.within in cc)
keeps_after R S (KeyLine (hex ∷ more)) s small a =
    let some : is_hex hex ≡ true = (and_parts _ _ (not-false _ a.numbers)).0 in
    let few : is_key (hex ∷ more) ≡ true = not-false _ a.within in
    after_board R S _ (KeyLine (hex ∷ more)) a refl refl (assumption) s.past (omega arith)
keeps_after R S (FillLine (addr ∷ hex ∷ more)) s small a =
    let some : is_hex hex ≡ true = (and_parts _ _ (and_parts _ _ (not-false _ a.numbers)).1).0 in
    let fills = all_push (is_fill R.script.pages) R.script.fills (fill_of (addr ∷ hex ∷ more)) s.tests.fills (and_from _ _ (and_from _ _ some (not-false _ a.within)) refl) in
    after_board R S _ (FillLine (addr ∷ hex ∷ more)) a refl refl (assumption) s.past (omega arith)
keeps_after R S (PhaseLine words) s small a =
    after_board R S _ (PhaseLine words) a refl refl s.tests (later R.phase (R.phase + 1) (omega arith) R.script.lines s.past) (omega arith)
keeps_after R S (TurnsLine words) s small a =
    let turns = all_push (λ hart. nat_lt hart R.script.harts) R.script.turns (map value words) s.tests.turns (not-false _ a.within) in
    after_board R S _ (TurnsLine words) a refl refl (assumption) s.past (omega arith)
keeps_after R S (HartLine hart word words) s small a =
    let line = with_line R (value hart) (line_of word (map value words)) s small (not-false _ a.within) in
    after_board R S _ (HartLine hart word words) a refl refl (assumption) line.2 (omega arith)
keeps_after R S (EndLine words) s small a = record { sound = assumption; phase = omega arith }
keeps_after R S content s small a = absurd (let e = a.within in let f = a.known in let g = a.count in cc)

-- a line that is read keeps the limits
pub line_keeps : (R : Reading) (line : List ℕ) (S : Reading) → line_read R line ≡ Ok S → IsSound R → R.phase < 2 ^ 20 → Keeps R S
line_keeps R line S e s small =
    elim (line_cases R line S e) [
      | inl same ↦ subst (Keeps R) same (record { sound = s; phase = omega arith })
      | inr said ↦ subst (Keeps R) said.3.is (keeps_after R S (content_of said.0 said.1) s small said.3)
    ]
