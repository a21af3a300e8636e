-- The canonical text of a script is read back as that script.
use Rattle.std.proofs.Common.{◌≡◌, ℕ, zero, suc, ◌+◌, ◌-◌, ◌*◌, ◌^◌, ◌<◌, ◌≤◌, Bool, true, false, ◌==◌, nat_le, nat_lt, List, [], ◌∷◌, ◌++◌, length, map, codes, Ok, refl, sym, subst, append_assoc, arith}
use Rattle.std.specs.Prelude.{replicate}
use Rattle.std.specs.List.{list_all, AllByRecursion}
use Rattle.std.proofs.lemmas.Bool.{and_parts, and_from, leb-true, le-ltb, ltb-true, lt-ltb, ne_eqb}
use Rattle.std.proofs.lemmas.List.{append-nil}
use Rattle.std.proofs.lemmas.List.Elements.{recursion_from_All}
use Rattle.cove_base.proofs.ScriptLimits.{IsWithin, Limits, Tests, all_weaker, limits_from_tests, tests_of}
use Rattle.cove_model.specs.Machine.{KEY_LIMIT, ScriptLine, Fill, ScriptValue, is_within_limits, is_fill, is_line_within, phases_rise_from}
use Rattle.cove_base.specs.Numbers.{number_text, natural_text, hex_text}
use Rattle.cove_model.specs.Grammar.{Word, Reading, value, is_board, are_numbers, content_of, judged, words_read, script_of, opening_reading}
use Rattle.cove_model.specs.ScriptText.{board_words, key_words, fill_words, phase_words, hart_words, body_words, turns_words, end_words, script_words, lines_text, script_text}
use Rattle.cove_script.specs.MachineNumbers.{HasMachineNumbers, HasBytes, HasFittingNumbers}
use Rattle.cove_script.proofs.JoinedText.{Spells, Spells-cons}
use Rattle.cove_script.proofs.NumberWords.{Writes, WriteAll, WritesBytes, natural_text_writes, number_text_writes, write_all, hex_text_writes}
use Rattle.cove_script.proofs.ActionsReadBack.{Acts, acts, action_word, action_numbers, action_words_are, IsHartWord, hart_is_hart_word}

-- a script with other fills, lines and turns
abbrev part : ScriptValue → List Fill → List ScriptLine → List ℕ → ScriptValue
part s fills lines turns = record s { fills = fills; lines = lines; turns = turns }

-- what has been read of it, behind its key
abbrev so_far : ScriptValue → (has_body : Bool) → (phase : ℕ) → List Fill → List ScriptLine → List ℕ → Reading
so_far s has_body phase fills lines turns = record {
  has_board = true;
  has_key = true;
  has_body = has_body;
  has_end = false;
  phase = phase;
  script = part s fills lines turns;
}

-- ---- the end and the turns

end_spells : (s : ScriptValue) (body : Bool) (phase : ℕ) (fills : List Fill) (lines : List ScriptLine) (turns : List ℕ)
    → Spells (so_far s body phase fills lines turns) (end_words ∷ []) (part s fills lines turns)
unfolding words_read content_of judged
end_spells s body phase fills lines turns =
    let R : Reading = so_far s body phase fills lines turns in
    Spells-cons R (record R { has_body = true; has_end = true }) (codes "end") [] [] (part s fills lines turns) refl refl (λ number. refl)

turns_are_read : (s : ScriptValue) (body : Bool) (phase : ℕ) (fills : List Fill) (lines : List ScriptLine) (turns : List ℕ) (words : List Word)
    → are_numbers words ≡ true → map value words ≡ turns → (length words == 0) ≡ false → list_all (λ hart. nat_lt hart s.harts) turns ≡ true
    → words_read (so_far s body phase fills lines []) (codes "turns" ∷ words) ≡ Ok (so_far s true phase fills lines turns)
unfolding words_read content_of judged
turns_are_read s body phase fills lines turns words numbers meaning some harts = rw (numbers, some, meaning, harts) refl

turns_spell : (s : ScriptValue) (body : Bool) (phase : ℕ) (fills : List Fill) (lines : List ScriptLine) (turns : List ℕ) → Limits s → list_all (λ hart. nat_lt hart s.harts) turns ≡ true
    → Spells (so_far s body phase fills lines []) (turns_words turns ++ end_words ∷ []) (part s fills lines turns)
turns_spell s body phase fills lines [] l below = end_spells s body phase fills lines []
turns_spell s body phase fills lines (hart ∷ harts) l below =
    let turns : List ℕ = hart ∷ harts in
    let words : List Word = map natural_text turns in
    let small = all_weaker (λ h. nat_lt h s.harts) (λ n. nat_lt n (2 ^ 64)) (λ x e. lt-ltb x (2 ^ 64) (omega (arith, ltb-true x s.harts e, l.few_harts))) turns below in
    let w : WriteAll words turns = write_all natural_text (2 ^ 64) natural_text_writes turns small in
    Spells-cons (so_far s body phase fills lines []) (so_far s true phase fills lines turns) (codes "turns") words (end_words ∷ []) (part s fills lines turns) (and_from _ _ refl w.printed)
    (turns_are_read s body phase fills lines turns words w.number w.meaning (ne_eqb (length words) 0 (λ e. omega arith)) below)
    (end_spells s true phase fills lines turns)

-- ---- the lines of harts

phases_spell : (s : ScriptValue) (fills : List Fill) (done : List ScriptLine) (more : List (List Word)) (script : ScriptValue) (n phase last : ℕ) → phase + n ≡ last
    → ((body : Bool) → Spells (so_far s body last fills done []) more script) → (body : Bool) → Spells (so_far s body phase fills done []) (replicate n phase_words ++ more) script
unfolding words_read content_of judged
phases_spell s fills done more script zero phase last is rest body =
    let same : last ≡ phase = omega arith in
    let P : ℕ → Type 0 = λ k. Spells (so_far s body k fills done []) more script in
    subst P same (rest body)
phases_spell s fills done more script (suc n) phase last is rest body =
    Spells-cons (so_far s body phase fills done []) (so_far s true (phase + 1) fills done []) (codes "phase") [] (replicate n phase_words ++ more) script refl refl
    (phases_spell s fills done more script n (phase + 1) last (omega arith) rest true)

hart_is_read : (s : ScriptValue) (body : Bool) (fills : List Fill) (done : List ScriptLine) (line : ScriptLine) (hart word : Word) (words : List Word)
    → IsHartWord hart → Writes hart line.hart.0 → Acts word words line.line → nat_lt line.hart.0 s.harts ≡ true → is_line_within s.pages line.line ≡ true
    → words_read (so_far s body line.phase fills done []) (hart ∷ word ∷ words) ≡ Ok (so_far s true line.phase fills (done ++ line ∷ []) [])
unfolding words_read judged
hart_is_read s body fills done line hart word words is_hart w acts below within =
    rw (is_hart.no_remark, is_hart.content word words, acts.known, w.number, acts.number, acts.made, w.meaning, below, within) refl

lines_spell : (s : ScriptValue) (fills : List Fill) (done lines : List ScriptLine) (turns : List ℕ) (phase : ℕ) → Limits s → list_all (λ hart. nat_lt hart s.harts) turns ≡ true
    → AllByRecursion (IsWithin s.pages s.harts) lines → phases_rise_from phase lines ≡ true → AllByRecursion HasFittingNumbers lines
    → (body : Bool) → Spells (so_far s body phase fills done []) (body_words phase lines ++ (turns_words turns ++ end_words ∷ [])) (part s fills (done ++ lines) turns)
lines_spell s fills done [] turns phase l below within rise fit body =
    let P : List ScriptLine → Type 0 = λ ls. Spells (so_far s body phase fills done []) (turns_words turns ++ end_words ∷ []) (part s fills ls turns) in
    subst P (sym (append-nil done)) (turns_spell s body phase fills done turns l below)
lines_spell s fills done (line ∷ lines) turns phase l below within rise fit body =
    let more : List (List Word) = turns_words turns ++ end_words ∷ [] in
    let rest : List (List Word) = body_words line.phase lines ++ more in
    let script : ScriptValue = part s fills ((done ++ line ∷ []) ++ lines) turns in
    let u = and_parts (nat_le phase line.phase) (phases_rise_from line.phase lines) rise in
    let le : phase ≤ line.phase = leb-true phase line.phase u.0 in
    let here : IsWithin s.pages s.harts line = within.0 in
    let small : line.hart.0 < 8 = omega (arith, here.hart, l.few_harts) in
    let w : Writes (natural_text line.hart.0) line.hart.0 = natural_text_writes line.hart.0 (omega arith) in
    let does : Acts (action_word line.line) (action_numbers line.line) line.line = acts line.line fit.0 in
    let after : Spells (so_far s true line.phase fills (done ++ line ∷ []) []) rest script = lines_spell s fills (done ++ line ∷ []) lines turns line.phase l below within.1 u.1 fit.1 true in
    let Q : List Word → Type 0 = λ words. (b : Bool) → Spells (so_far s b line.phase fills done []) ((natural_text line.hart.0 ∷ words) ∷ rest) script in
    let this : Q (action_word line.line ∷ action_numbers line.line) = λ b.
    Spells-cons (so_far s b line.phase fills done []) (so_far s true line.phase fills (done ++ line ∷ []) []) (natural_text line.hart.0) (action_word line.line ∷ action_numbers line.line) rest script (and_from _ _ w.printed does.printed)
    (hart_is_read s b fills done line (natural_text line.hart.0) (action_word line.line) (action_numbers line.line) (hart_is_hart_word line.hart.0 small) w does (lt-ltb line.hart.0 s.harts here.hart) here.line) after in
    let whole = phases_spell s fills done (hart_words line ∷ rest) script (line.phase - phase) phase line.phase (omega arith) (subst Q (sym (action_words_are line.line)) this) body in
    let P : List (List Word) → Type 0 = λ ws. Spells (so_far s body phase fills done []) ws script in
    let S : List ScriptLine → Type 0 = λ ls. Spells (so_far s body phase fills done []) (body_words phase (line ∷ lines) ++ more) (part s fills ls turns) in
    subst S (append_assoc done (line ∷ []) lines) (subst P (sym (append_assoc (replicate (line.phase - phase) phase_words) (hart_words line ∷ body_words line.phase lines) more)) whole)

-- ---- fills

fill_is_read : (s : ScriptValue) (done : List Fill) (f : Fill) (a h : Word) → Writes a f.addr → WritesBytes h f.bytes → nat_le (f.addr + length f.bytes) (4096 * s.pages) ≡ true
    → words_read (so_far s false 0 done [] []) (codes "fill" ∷ a ∷ h ∷ []) ≡ Ok (so_far s false 0 (done ++ f ∷ []) [] [])
unfolding words_read content_of judged
fill_is_read s done f a h wa wh within = rw (wa.number, wh.hex, wa.meaning, wh.meaning, within) refl

fills_spell : (s : ScriptValue) (done fills : List Fill) (more : List (List Word)) (script : ScriptValue) → Limits s → list_all (is_fill s.pages) fills ≡ true → AllByRecursion HasBytes fills
    → Spells (so_far s false 0 (done ++ fills) [] []) more script → Spells (so_far s false 0 done [] []) (map fill_words fills ++ more) script
fills_spell s done [] more script l within bytes rest =
    let P : List Fill → Type 0 = λ fs. Spells (so_far s false 0 fs [] []) more script in
    subst P (append-nil done) rest
fills_spell s done (f ∷ fills) more script l within bytes rest =
    let p = and_parts (is_fill s.pages f) (list_all (is_fill s.pages) fills) within in
    let q = and_parts (nat_le 1 (length f.bytes)) (nat_le (f.addr + length f.bytes) (4096 * s.pages)) p.0 in
    let a : Writes (number_text f.addr) f.addr = number_text_writes f.addr (omega (arith, leb-true (f.addr + length f.bytes) (4096 * s.pages) q.1, l.few_pages)) in
    let h : WritesBytes (hex_text f.bytes) f.bytes = hex_text_writes f.bytes q.0 bytes.0 in
    let P : List Fill → Type 0 = λ fs. Spells (so_far s false 0 fs [] []) more script in
    Spells-cons (so_far s false 0 done [] []) (so_far s false 0 (done ++ f ∷ []) [] []) (codes "fill") (number_text f.addr ∷ hex_text f.bytes ∷ []) (map fill_words fills ++ more) script
    (and_from _ _ refl (and_from _ _ a.printed (and_from _ _ h.printed refl)))
    (fill_is_read s done f (number_text f.addr) (hex_text f.bytes) a h q.1)
    (fills_spell s (done ++ f ∷ []) fills more script l p.1 bytes.1 (subst P (sym (append_assoc done (f ∷ []) fills)) rest))

-- ---- board, key and the whole

-- behind the line of the board
abbrev with_board : (pages harts files : ℕ) → Reading
with_board pages harts files =
    record opening_reading { has_board = true; script = record opening_reading.script { pages = pages; harts = harts; files = files } }

board_is_read : (pages harts files : ℕ) (p h f : Word) → Writes p pages → Writes h harts → Writes f files → is_board (pages ∷ harts ∷ files ∷ []) ≡ true
    → words_read opening_reading (codes "board" ∷ p ∷ h ∷ f ∷ []) ≡ Ok (with_board pages harts files)
unfolding words_read content_of judged
board_is_read pages harts files p h f wp wh wf sized = rw (wp.number, wh.number, wf.number, wp.meaning, wh.meaning, wf.meaning, sized) refl

key_is_read : (s : ScriptValue) (k : Word) → WritesBytes k s.key → nat_le (length s.key) KEY_LIMIT ≡ true
    → words_read (with_board s.pages s.harts s.files) (codes "key" ∷ k ∷ []) ≡ Ok (so_far s false 0 [] [] [])
unfolding words_read content_of judged
key_is_read s k w short = rw (w.hex, w.meaning, short) refl

script_spells : (s : ScriptValue) → Tests s → HasMachineNumbers s → Spells opening_reading (script_words s) s
script_spells s t m =
    let P : List (List Word) → Type 0 = λ words. Spells opening_reading words s in
    let l : Limits s = limits_from_tests s t in
    let p : Writes (natural_text s.pages) s.pages = natural_text_writes s.pages (omega (arith, l.few_pages)) in
    let h : Writes (natural_text s.harts) s.harts = natural_text_writes s.harts (omega (arith, l.few_harts)) in
    let f : Writes (natural_text s.files) s.files = natural_text_writes s.files (omega (arith, l.few_files)) in
    let k : WritesBytes (hex_text s.key) s.key = hex_text_writes s.key t.some_key m.key in
    let lines : List (List Word) = body_words 0 s.lines ++ (turns_words s.turns ++ end_words ∷ []) in
    let body = lines_spell s s.fills [] s.lines s.turns 0 l t.turns l.lines t.phases (recursion_from_All HasFittingNumbers s.lines m.lines) false in
    let fills = fills_spell s [] s.fills lines s l t.fills (recursion_from_All HasBytes s.fills m.fills) body in
    let whole =
    Spells-cons opening_reading (with_board s.pages s.harts s.files) (codes "board") (natural_text s.pages ∷ natural_text s.harts ∷ natural_text s.files ∷ []) (key_words s.key ∷ map fill_words s.fills ++ lines) s
    (and_from _ _ refl (and_from _ _ p.printed (and_from _ _ h.printed (and_from _ _ f.printed refl))))
    (board_is_read s.pages s.harts s.files (natural_text s.pages) (natural_text s.harts) (natural_text s.files) p h f t.board)
    (Spells-cons (with_board s.pages s.harts s.files) (so_far s false 0 [] [] []) (codes "key") (hex_text s.key ∷ []) (map fill_words s.fills ++ lines) s
    (and_from _ _ refl (and_from _ _ k.printed refl)) (key_is_read s (hex_text s.key) k t.few_key) fills) in
    let same : script_words s ≡ board_words s.pages s.harts s.files ∷ key_words s.key ∷ (map fill_words s.fills ++ lines) = simp append_assoc in
    subst P (sym same) whole

-- the canonical text of a script is read as that script, where it is not too long
pub script_of-script_text : (limit : ℕ) (s : ScriptValue) → is_within_limits s ≡ true → HasMachineNumbers s → length (script_text s) ≤ limit → script_of limit (script_text s) ≡ Ok s
unfolding script_of script_text
script_of-script_text limit s within machine short =
    rw (le-ltb limit (length (lines_text (script_words s))) short) (script_spells s (tests_of s within) machine 1)
