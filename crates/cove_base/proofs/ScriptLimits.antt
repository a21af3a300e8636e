-- What the limits of a script say of its board, its lines and its turns.
use Rattle.std.proofs.Common.{◌≡◌, ℕ, ◌*◌, ◌/◌, ◌%◌, ◌^◌, ◌<◌, ◌≤◌, Bool, true, ◌==◌, ◌&&◌, List, [], ◌∷◌, Option, None, Some, IfSome, IsTrue, nat_lt, nat_le, length, slice_get, refl, subst, arith}
use Rattle.std.specs.List.{AllByRecursion, list_all}
use Rattle.std.proofs.lemmas.Bool.{and_parts, and_from, ltb-true, leb-true}
use Rattle.std.proofs.lemmas.List.Elements.{All-from_recursion}
use Rattle.std.proofs.lemmas.Option.{get_or_from_slice_get, same_Some, slice_get_within}
use Rattle.cove_base.specs.HartValues.{accessed_page}
use Rattle.cove_base.specs.Scripts.{ScriptValue, is_within_limits, is_script_line, is_line_within, is_word_address, is_fill, phases_rise_from}
use Rattle.cove_base.specs.declared.limits.TheConstants.{PAGE_LIMIT, HART_LIMIT, FILE_LIMIT, KEY_LIMIT, PHASE_LIMIT}
use Rattle.cove_base.specs.declared.scripts.Line.{Line}
use Rattle.cove_base.specs.declared.scripts.Line.TheVariants.{Call, Load, Store}
use Rattle.cove_base.specs.declared.scripts.ScriptLine.{ScriptLine}

pub if_some : {X : Type 0} (o : Option X) (P : X → Type 0) → ((x : X) → o ≡ Some x → P x) → IfSome o P
if_some None P holds = tt
if_some (Some x) P holds = holds x refl

-- a list passes a test that follows from another one that it passes
pub all_weaker : {X : Type 0} (p q : X → Bool) → ((x : X) → p x ≡ true → q x ≡ true) → (xs : List X) → list_all p xs ≡ true → list_all q xs ≡ true
all_weaker p q f [] all = refl
all_weaker p q f (x ∷ xs) all =
    let both = and_parts (p x) (list_all p xs) all in
    and_from _ _ (f x both.0) (all_weaker p q f xs both.1)

-- what a test says, it says of each item of a list that passes it
pub all_from_test : {X : Type 0} (p : X → Bool) (P : X → Type 0) → ((x : X) → p x ≡ true → P x) → (xs : List X) → list_all p xs ≡ true → AllByRecursion P xs
all_from_test p P f [] all = tt
all_from_test p P f (x ∷ xs) all =
    let both = and_parts (p x) (list_all p xs) all in
    (f x both.0, all_from_test p P f xs both.1)

-- the line of a hart of the board
pub record IsWithin (pages harts : ℕ) (l : ScriptLine) : Type 0 where
  pub hart : l.hart.0 < harts
  pub line : is_line_within pages l.line ≡ true

-- a line that passes the test of a script's lines
line_within : (pages harts : ℕ) (line : ScriptLine) → is_script_line pages harts line ≡ true → IsWithin pages harts line
line_within pages harts line e =
    let a = and_parts (nat_lt line.hart.0 harts && nat_lt line.phase PHASE_LIMIT) (is_line_within pages line.line) e in
    let b = and_parts (nat_lt line.hart.0 harts) (nat_lt line.phase PHASE_LIMIT) a.0 in
    record { hart = ltb-true line.hart.0 harts b.0; line = a.1 }

-- the limits of a script, by their tests
pub record Tests (script : ScriptValue) : Type 0 where
  pub board : (nat_le 1 script.pages && nat_le script.pages PAGE_LIMIT && nat_le 1 script.harts && nat_le script.harts HART_LIMIT && nat_le script.files FILE_LIMIT) ≡ true
  pub some_key : nat_le 1 (length script.key) ≡ true
  pub few_key : nat_le (length script.key) KEY_LIMIT ≡ true
  pub fills : list_all (is_fill script.pages) script.fills ≡ true
  pub lines : list_all (is_script_line script.pages script.harts) script.lines ≡ true
  pub phases : phases_rise_from 0 script.lines ≡ true
  pub turns : list_all (λ hart. nat_lt hart script.harts) script.turns ≡ true

pub tests_of : (script : ScriptValue) → is_within_limits script ≡ true → Tests script
unfolding is_within_limits
tests_of script e =
    let turns = and_parts _ _ e in
    let phases = and_parts _ _ turns.0 in
    let lines = and_parts _ _ phases.0 in
    let fills = and_parts _ _ lines.0 in
    let key = and_parts _ _ fills.0 in
    let board = and_parts _ _ key.0 in
    record { board = board.0; some_key = board.1; few_key = key.1; fills = fills.1; lines = lines.1; phases = phases.1; turns = turns.1 }

pub within_from_tests : (script : ScriptValue) → Tests script → is_within_limits script ≡ true
unfolding is_within_limits
within_from_tests script t =
    and_from _ _ (and_from _ _ (and_from _ _ (and_from _ _ (and_from _ _ (and_from _ _ t.board t.some_key) t.few_key) t.fills) t.lines) t.phases) t.turns

-- a script is within its limits
pub record Limits (script : ScriptValue) : Type 0 where
  pub some_pages : 1 ≤ script.pages
  pub few_pages : script.pages ≤ PAGE_LIMIT
  pub some_harts : 1 ≤ script.harts
  pub few_harts : script.harts ≤ HART_LIMIT
  pub few_files : script.files ≤ FILE_LIMIT
  pub fills : list_all (is_fill script.pages) script.fills ≡ true
  pub lines : AllByRecursion (IsWithin script.pages script.harts) script.lines
  pub phases : phases_rise_from 0 script.lines ≡ true
  pub turns : AllByRecursion (λ hart. hart < script.harts) script.turns

pub limits_from_tests : (script : ScriptValue) → Tests script → Limits script
limits_from_tests script t =
    let files = and_parts _ _ t.board in
    let harts = and_parts _ _ files.0 in
    let hart = and_parts _ _ harts.0 in
    let pages = and_parts _ _ hart.0 in
    record {
      some_pages = leb-true _ _ pages.0;
      few_pages = leb-true script.pages PAGE_LIMIT pages.1;
      some_harts = leb-true _ _ hart.1;
      few_harts = leb-true script.harts HART_LIMIT harts.1;
      few_files = leb-true script.files FILE_LIMIT files.1;
      fills = t.fills;
      lines = all_from_test (is_script_line script.pages script.harts) _ (line_within script.pages script.harts) script.lines t.lines;
      phases = t.phases;
      turns = all_from_test (λ hart. nat_lt hart script.harts) _ (λ h below. ltb-true h script.harts below) script.turns t.turns;
    }

-- the limits, from the test that a script passes
pub limits_of : (script : ScriptValue) → IsTrue (is_within_limits script) → Limits script
limits_of script e = limits_from_tests script (tests_of script e)

-- the page of a word of the board
word_within : (pages addr : ℕ) → is_word_address pages addr ≡ true → addr / 4096 < pages
word_within pages addr word =
    let below = ltb-true addr (4096 * pages) (and_parts (addr % 8 == 0) (nat_lt addr (4096 * pages)) word).1 in
    omega arith

-- the page of an access that is within the board
page_within : (pages : ℕ) (line : Line) (p : ℕ) → is_line_within pages line ≡ true → accessed_page line ≡ Some p → p < pages
page_within pages (Call call) p within asks = cc
page_within pages (Load addr) p within asks = subst (λ q. q < pages) (same_Some (addr / 4096) p asks) (word_within pages addr within)
page_within pages (Store addr value) p within asks = subst (λ q. q < pages) (same_Some (addr / 4096) p asks) (word_within pages addr within)

-- the page of a line of the script is one of the board
pub line_page : (script : ScriptValue) → IsTrue (is_within_limits script) → (i : ℕ) (line : ScriptLine) (p : ℕ) → slice_get script.lines i ≡ Some line → accessed_page line.line ≡ Some p → p < script.pages
line_page script within i line p at asks =
    let P : ScriptLine → Type 0 = IsWithin script.pages script.harts in
    let all = All-from_recursion P script.lines (limits_of script within).lines i line (slice_get_within script.lines i line at) in
    page_within script.pages line.line p (subst P (get_or_from_slice_get script.lines i line line at) all).line asks

-- the page of an access of a script has a number of 32 bits
pub small_pages : (script : ScriptValue) → IsTrue (is_within_limits script) → (i : ℕ)
    → IfSome (slice_get script.lines i) (λ line. IfSome (accessed_page line.line) (λ page. page < 2 ^ 32))
small_pages script within i =
    if_some (slice_get script.lines i) _ (λ line at.
    if_some (accessed_page line.line) _ (λ page asks.
    omega (arith, line_page script within i line page at asks, (limits_of script within).few_pages)))
