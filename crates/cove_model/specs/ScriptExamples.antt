-- Texts of scripts to read: what the grammar makes of them is proved by computing it.
use Rattle.std.specs.Prelude.{◌≡◌, ℕ, List, [], ◌∷◌, ◌++◌, codes, Ok, Err}
use Rattle.cove_base.specs.declared.faults.Kind.{Kind}
use Rattle.cove_model.specs.Types.{ScriptValue, GlobalFence, ScriptLine, Line}
use Rattle.cove_model.specs.Examples.{text, board, load}
use Rattle.cove_model.specs.Grammar.{script_of, fault_at}

-- the lines, read as a text of at most 99 bytes, have this fault
abbrev pub IsRefused : (lines : List (List ℕ)) → (line : ℕ) → Kind → Type 0
IsRefused lines line kind = script_of 99 (text lines) ≡ Err (fault_at line kind)

abbrev pub IsScript : (lines : List (List ℕ)) → ScriptValue → Type 0
IsScript lines script = script_of 99 (text lines) ≡ Ok script

abbrev pub first : List ℕ
first = codes "board 16 1 0"

-- a script of that board, with no fills and no turns
abbrev pub lines_of_one : (key : List ℕ) → List ScriptLine → ScriptValue
lines_of_one key lines =
    record { pages = 16; harts = 1; files = 0; key = key; fills = []; lines = lines; turns = [] }

-- two fills at one place, and a load
abbrev pub two_fills_text : List (List ℕ)
two_fills_text =
    first ∷ codes "fill 16384 1122" ∷ codes "key 00" ∷ codes "fill 0x4001 33" ∷ codes "0 ld 0x4000" ∷ codes "end" ∷ []

abbrev pub two_fills : ScriptValue
two_fills = board 1
    (record { addr = 0x4000; bytes = 0x11 ∷ 0x22 ∷ [] } ∷ record { addr = 0x4001; bytes = 0x33 ∷ [] } ∷ [])
    (load 0 0x4000 ∷ []) []

-- every kind of line, in other spellings: remarks, tabs, carriage returns and numbers in decimal and hex
abbrev pub every_line_text : List (List ℕ)
every_line_text =
    codes "# x" ∷ codes "board 0x1 002 7" ∷ codes "" ∷ codes "key aB" ∷ codes "phase" ∷ (codes "1 sd 8 0xf" ++ 13 ∷ []) ∷ codes "turns 1 0"
    ∷ (9 ∷ codes "phase") ∷ codes "0 gfence" ∷ codes "turns 1" ∷ codes "end" ∷ codes " # end" ∷ []

abbrev pub every_line : ScriptValue
every_line = record {
  pages = 1;
  harts = 2;
  files = 7;
  key = 0xab ∷ [];
  fills = [];
  lines = record { hart = record { 0 = 1 }; phase = 1; line = Line.Store 8 15 } ∷ record { hart = record { 0 = 0 }; phase = 2; line = Line.Call GlobalFence } ∷ [];
  turns = 1 ∷ 0 ∷ 1 ∷ [];
}
