use Rattle.std.specs.Prelude.{ℕ, ◌+◌, ◌*◌, ◌%◌, Bool, true, ◌==◌, ◌&&◌, nat_lt, nat_le, List, [], ◌∷◌, length}
use Rattle.std.specs.List.{list_all}
use Rattle.cove_base.specs.declared.limits.TheConstants.{PAGE_LIMIT, HART_LIMIT, FILE_LIMIT, KEY_LIMIT, PHASE_LIMIT}
use Rattle.cove_base.specs.declared.scripts.Line.{Line}
use Rattle.cove_base.specs.declared.scripts.Line.TheVariants.{Call, Load, Store}
use Rattle.cove_base.specs.declared.scripts.ScriptLine.{ScriptLine}
use Rattle.cove_base.specs.declared.scripts.Fill.{Fill}

-- a script as clauses see it: the board, the opening memory, the lines of the harts and their turns
pub record ScriptValue : Type 0 where
  pub pages : ℕ
  pub harts : ℕ
  pub files : ℕ
  pub key : List ℕ
  pub fills : List Fill
  pub lines : List ScriptLine
  pub turns : List ℕ

-- the address of eight bytes of the board's memory, of which it is a multiple
abbrev pub is_word_address : (pages addr : ℕ) → Bool
is_word_address pages addr = addr % 8 == 0 && nat_lt addr (4096 * pages)

-- an access of a line is a word of the board's memory; a call may have any arguments
abbrev pub is_line_within : (pages : ℕ) → Line → Bool
is_line_within pages (Call call) = true
is_line_within pages (Load addr) = is_word_address pages addr
is_line_within pages (Store addr value) = is_word_address pages addr

-- a line of a hart of the board
abbrev pub is_script_line : (pages harts : ℕ) → ScriptLine → Bool
is_script_line pages harts line =
    nat_lt line.hart.0 harts && nat_lt line.phase PHASE_LIMIT && is_line_within pages line.line

-- a fill has a byte, and ends within the board's memory
abbrev pub is_fill : (pages : ℕ) → Fill → Bool
is_fill pages fill = nat_le 1 (length fill.bytes) && nat_le (fill.addr + length fill.bytes) (4096 * pages)

-- no line is of an earlier phase than the line before it, nor the first of an earlier one than the given phase
abbrev pub phases_rise_from : ℕ → List ScriptLine → Bool
phases_rise_from phase [] = true
phases_rise_from phase (line ∷ lines) = nat_le phase line.phase && phases_rise_from line.phase lines

-- the limits that every script keeps
unfoldable pub is_within_limits : ScriptValue → Bool
is_within_limits script =
    nat_le 1 script.pages && nat_le script.pages PAGE_LIMIT
    && nat_le 1 script.harts && nat_le script.harts HART_LIMIT
    && nat_le script.files FILE_LIMIT
    && nat_le 1 (length script.key) && nat_le (length script.key) KEY_LIMIT
    && list_all (is_fill script.pages) script.fills
    && list_all (is_script_line script.pages script.harts) script.lines
    && phases_rise_from 0 script.lines
    && list_all (λ hart. nat_lt hart script.harts) script.turns
