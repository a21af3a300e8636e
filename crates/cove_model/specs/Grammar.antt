-- The grammar of a script, over the list of its lines: what they say, or the first faulty line with the first
-- kind of fault that applies to it.
use Rattle.std.specs.Prelude.{ℕ, ◌+◌, ◌*◌, Bool, true, false, ◌==◌, ◌&&◌, ◌||◌, not, nat_lt, nat_le, if◌then◌else◌, List, [], ◌∷◌, ◌++◌, length, map, replicate, slice_index, codes, Option, Some, None, is_some, is_none, unwrap_or, Result, Ok, Err}
use Rattle.std.specs.List.{list_all}
use Rattle.std.specs.Option.{option_map, option_map_or}
use Rattle.std.specs.Str.{bytes_eq}
use Rattle.cove_base.specs.declared.limits.TheConstants.{PAGE_LIMIT, HART_LIMIT, FILE_LIMIT, KEY_LIMIT}
use Rattle.cove_base.specs.declared.faults.Kind.{Kind}
use Rattle.cove_base.specs.declared.faults.Kind.TheVariants.{TooLong, NotAscii, BadHeader, UnknownWord, BadNumber, WrongCount, OutOfBoard, NoEnd}
use Rattle.cove_base.specs.declared.faults.ScriptFault.{ScriptFault}
use Rattle.cove_base.specs.declared.scripts.Line.{Line}
use Rattle.cove_base.specs.declared.scripts.Line.TheVariants.{Call, Load, Store}
use Rattle.cove_base.specs.declared.scripts.ScriptLine.{ScriptLine}
use Rattle.cove_base.specs.declared.scripts.Fill.{Fill}
use Rattle.cove_base.specs.CallWords.{is_call_word, call_of}
use Rattle.cove_base.specs.Numbers.{number_of, hex_of}
use Rattle.cove_base.specs.Scripts.{ScriptValue, is_line_within}
use Rattle.cove_base.specs.Text.{text_lines, text_words}

-- ---- words

-- a word of a line, by its bytes
abbrev pub Word : Type 0
Word = List ℕ

-- tab, carriage return or a printing character of ASCII
abbrev pub is_text_byte : ℕ → Bool
is_text_byte b = b == 9 || b == 13 || (nat_le 32 b && nat_lt b 127)

abbrev pub is_ascii : (line : List ℕ) → Bool
is_ascii line = list_all is_text_byte line

unfoldable pub is_number : Word → Bool
is_number word = is_some (number_of word)

-- the number that a word is, and 0 where it is none
unfoldable pub value : Word → ℕ
value word = unwrap_or (number_of word) 0

-- the bytes that a word spells in hex, and none where it spells none
unfoldable pub bytes_of : Word → List ℕ
bytes_of word = unwrap_or (hex_of word) []

-- at least one byte in hex
abbrev pub is_hex : Word → Bool
is_hex word = nat_le 1 (length (bytes_of word))

-- a line with this first word says nothing
abbrev pub is_remark : Word → Bool
is_remark word = slice_index word 0 == 35

-- the first word of a hart's line begins with a decimal digit
abbrev pub is_hart_word : Word → Bool
is_hart_word word = nat_le 48 (slice_index word 0) && nat_le (slice_index word 0) 57

-- ---- what a hart does

-- the words of a hart's line: the two accesses, and those of the calls
unfoldable pub is_line_word : Word → Bool
is_line_word word = bytes_eq word (codes "ld") || bytes_eq word (codes "sd") || is_call_word word

abbrev pub load_line : List ℕ → Option Line
load_line (addr ∷ []) = Some (Load addr)
load_line _ = None

abbrev pub store_line : List ℕ → Option Line
store_line (addr ∷ value ∷ []) = Some (Store addr value)
store_line _ = None

-- the line of a hart that a word and its arguments make; None for another word, or another number of arguments
unfoldable pub line_of : Word → (arguments : List ℕ) → Option Line
line_of word arguments =
    if bytes_eq word (codes "ld") then load_line arguments
    else (if bytes_eq word (codes "sd") then store_line arguments
    else option_map Call (call_of word arguments))

-- ---- the forms of a line

-- a line that says something, by its form, with the words after its fixed words
pub data Content : Type 0 where
  BoardLine : (words : List Word) → Content
  KeyLine : (words : List Word) → Content
  FillLine : (words : List Word) → Content
  PhaseLine : (words : List Word) → Content
  TurnsLine : (words : List Word) → Content
  EndLine : (words : List Word) → Content
  HartAlone : (hart : Word) → Content
  HartLine : (hart word : Word) (words : List Word) → Content
  Unknown : Content

abbrev pub hart_content : (hart : Word) → List Word → Content
hart_content hart [] = HartAlone hart
hart_content hart (word ∷ words) = HartLine hart word words

unfoldable pub content_of : (first : Word) → List Word → Content
content_of first words =
    if bytes_eq first (codes "board") then BoardLine words
    else (if bytes_eq first (codes "key") then KeyLine words
    else (if bytes_eq first (codes "fill") then FillLine words
    else (if bytes_eq first (codes "phase") then PhaseLine words
    else (if bytes_eq first (codes "turns") then TurnsLine words
    else (if bytes_eq first (codes "end") then EndLine words
    else (if is_hart_word first then hart_content first words else Unknown))))))

-- ---- what the lines so far have said

-- which lines have been: the board's, the key's, one of the body and the line `end`; the phase of the next line
-- of a hart, and the script that the lines make
pub record Reading : Type 0 where
  pub has_board : Bool
  pub has_key : Bool
  pub has_body : Bool
  pub has_end : Bool
  pub phase : ℕ
  pub script : ScriptValue

-- a key of 48 zero bytes, where none is given
abbrev pub default_key : List ℕ
default_key = replicate 48 0

-- before the first line
abbrev pub opening_reading : Reading
opening_reading = record {
  has_board = false;
  has_key = false;
  has_body = false;
  has_end = false;
  phase = 0;
  script = record { pages = 1; harts = 1; files = 0; key = default_key; fills = []; lines = []; turns = [] };
}

-- ---- the faults of a line, each by its form

abbrev pub is_header : Content → Bool
is_header (BoardLine words) = true
is_header _ = false

-- BadHeader: the first content line is not the board's
abbrev pub is_bad_header : Reading → Content → Bool
is_bad_header R content = not R.has_board && not (is_header content)

-- UnknownWord: the first word is none of the table or not allowed here, or a hart has no such word
abbrev pub is_unknown : Reading → Content → Bool
is_unknown R (BoardLine words) = R.has_board
is_unknown R (KeyLine words) = R.has_body || R.has_key
is_unknown R (FillLine words) = R.has_body
is_unknown R (PhaseLine words) = R.has_end
is_unknown R (TurnsLine words) = R.has_end
is_unknown R (EndLine words) = R.has_end
is_unknown R (HartAlone hart) = R.has_end
is_unknown R (HartLine hart word words) = R.has_end || not (is_line_word word)
is_unknown R Unknown = true

abbrev pub are_numbers : List Word → Bool
are_numbers words = list_all is_number words

abbrev pub are_hex_and_numbers : List Word → Bool
are_hex_and_numbers [] = true
are_hex_and_numbers (hex ∷ words) = is_hex hex && are_numbers words

abbrev pub are_fill_words : List Word → Bool
are_fill_words [] = true
are_fill_words (addr ∷ words) = is_number addr && are_hex_and_numbers words

-- BadNumber: a word that should be a number or HEX is none; a word past the last argument should be a number
abbrev pub has_bad_number : Content → Bool
has_bad_number (BoardLine words) = not (are_numbers words)
has_bad_number (KeyLine words) = not (are_hex_and_numbers words)
has_bad_number (FillLine words) = not (are_fill_words words)
has_bad_number (PhaseLine words) = not (are_numbers words)
has_bad_number (TurnsLine words) = not (are_numbers words)
has_bad_number (EndLine words) = not (are_numbers words)
has_bad_number (HartAlone hart) = not (is_number hart)
has_bad_number (HartLine hart word words) = not (is_number hart && are_numbers words)
has_bad_number Unknown = false

-- WrongCount: too few or too many words
abbrev pub has_wrong_count : Content → Bool
has_wrong_count (BoardLine words) = not (length words == 3)
has_wrong_count (KeyLine words) = not (length words == 1)
has_wrong_count (FillLine words) = not (length words == 2)
has_wrong_count (PhaseLine words) = not (length words == 0)
has_wrong_count (TurnsLine words) = length words == 0
has_wrong_count (EndLine words) = not (length words == 0)
has_wrong_count (HartAlone hart) = true
has_wrong_count (HartLine hart word words) = is_none (line_of word (map value words))
has_wrong_count Unknown = false

-- a board has 1 to 4096 pages, 1 to 8 harts and at most 7 interrupt files a hart
abbrev pub is_board : List ℕ → Bool
is_board (pages ∷ harts ∷ files ∷ more) =
    nat_le 1 pages && nat_le pages PAGE_LIMIT && nat_le 1 harts && nat_le harts HART_LIMIT && nat_le files FILE_LIMIT
is_board _ = false

-- a key has at most 128 bytes
abbrev pub is_key : List Word → Bool
is_key (hex ∷ words) = nat_le (length (bytes_of hex)) KEY_LIMIT
is_key [] = false

-- a fill ends within the memory of the board
abbrev pub is_fill_within : (pages : ℕ) → List Word → Bool
is_fill_within pages (addr ∷ hex ∷ words) = nat_le (value addr + length (bytes_of hex)) (4096 * pages)
is_fill_within pages _ = false

-- OutOfBoard: a size, a hart, an access, a fill or a key past its limit
abbrev pub is_out_of_board : Reading → Content → Bool
is_out_of_board R (BoardLine words) = not (is_board (map value words))
is_out_of_board R (KeyLine words) = not (is_key words)
is_out_of_board R (FillLine words) = not (is_fill_within R.script.pages words)
is_out_of_board R (PhaseLine words) = false
is_out_of_board R (TurnsLine words) = not (list_all (λ hart. nat_lt hart R.script.harts) (map value words))
is_out_of_board R (EndLine words) = false
is_out_of_board R (HartAlone hart) = false
is_out_of_board R (HartLine hart word words) =
    not (nat_lt (value hart) R.script.harts && option_map_or (is_line_within R.script.pages) (line_of word (map value words)) false)
is_out_of_board R Unknown = false

-- ---- what a line without fault says

abbrev pub fill_of : List Word → List Fill
fill_of (addr ∷ hex ∷ words) = record { addr = value addr; bytes = bytes_of hex } ∷ []
fill_of _ = []

-- the key that a line gives
abbrev pub key_of : List Word → List ℕ
key_of (hex ∷ words) = bytes_of hex
key_of [] = []

abbrev pub script_lines : (hart phase : ℕ) → Option Line → List ScriptLine
script_lines hart phase None = []
script_lines hart phase (Some line) = record { hart = record { 0 = hart }; phase = phase; line = line } ∷ []

-- what has been said after a line; the body begins with the first line of it, or with the line `end`
abbrev pub reading_after : Reading → Content → Reading
reading_after R (BoardLine words) = let sizes : List ℕ = map value words in
    record R { has_board = true; script = record R.script { pages = slice_index sizes 0; harts = slice_index sizes 1; files = slice_index sizes 2 } }
reading_after R (KeyLine words) = record R { has_key = true; script = record R.script { key = key_of words } }
reading_after R (FillLine words) = record R { script = record R.script { fills = R.script.fills ++ fill_of words } }
reading_after R (PhaseLine words) = record R { has_body = true; phase = R.phase + 1 }
reading_after R (TurnsLine words) = record R { has_body = true; script = record R.script { turns = R.script.turns ++ map value words } }
reading_after R (EndLine words) = record R { has_body = true; has_end = true }
reading_after R (HartAlone hart) = R
reading_after R (HartLine hart word words) = record R {
  has_body = true;
  script = record R.script { lines = R.script.lines ++ script_lines (value hart) R.phase (line_of word (map value words)) };
}
reading_after R Unknown = R

-- ---- a line, and the lines of a text

-- what has been read after a line that says something, or the first kind of fault that applies
unfoldable pub judged : Reading → Content → Result Reading Kind
judged R content =
    if is_bad_header R content then Err BadHeader
    else (if is_unknown R content then Err UnknownWord
    else (if has_bad_number content then Err BadNumber
    else (if has_wrong_count content then Err WrongCount
    else (if is_out_of_board R content then Err OutOfBoard
    else Ok (reading_after R content)))))

-- a line without words, and one whose first word begins with `#`, are passed over
unfoldable pub words_read : Reading → List Word → Result Reading Kind
words_read R [] = Ok R
words_read R (first ∷ words) = if is_remark first then Ok R else judged R (content_of first words)

unfoldable pub line_read : Reading → (line : List ℕ) → Result Reading Kind
line_read R line = if is_ascii line then words_read R (text_words line) else Err NotAscii

abbrev pub fault_at : (number : ℕ) → Kind → ScriptFault
fault_at number kind = record { line = number; kind = kind }

-- a line's fault, or how it goes on
abbrev pub then_read : {X : Type 0} → (number : ℕ) → Result Reading Kind → (Reading → Result X ScriptFault) → Result X ScriptFault
then_read number (Ok R) goes_on = goes_on R
then_read number (Err kind) goes_on = Err (fault_at number kind)

-- the lines from a number on, to the last; NoEnd is at the line after it
abbrev pub lines_read : Reading → (number : ℕ) → List (List ℕ) → Result ScriptValue ScriptFault
lines_read R number [] = if R.has_end then Ok R.script else Err (fault_at number NoEnd)
lines_read R number (line ∷ lines) = then_read number (line_read R line) (λ S. lines_read S (number + 1) lines)

-- the script of a text, or its first fault; a text longer than the limit has it at line 0
unfoldable pub script_of : (limit : ℕ) → (text : List ℕ) → Result ScriptValue ScriptFault
script_of limit text =
    if nat_lt limit (length text) then Err (fault_at 0 TooLong) else lines_read opening_reading 1 (text_lines text)
