-- The canonical text of a script, as lines of words.
use Rattle.std.specs.Prelude.{ℕ, ◌-◌, List, [], ◌∷◌, ◌++◌, map, replicate, flat_map, codes}
use Rattle.cove_base.specs.declared.scripts.Line.{Line}
use Rattle.cove_base.specs.declared.scripts.Line.TheVariants.{Call, Load, Store}
use Rattle.cove_base.specs.declared.scripts.ScriptLine.{ScriptLine}
use Rattle.cove_base.specs.declared.scripts.Fill.{Fill}
use Rattle.cove_base.specs.CallWords.{call_words}
use Rattle.cove_base.specs.Numbers.{number_text, natural_text, hex_text}
use Rattle.cove_base.specs.Scripts.{ScriptValue}
use Rattle.cove_base.specs.Text.{joined}
use Rattle.cove_model.specs.Grammar.{Word}

-- words with one space between them
abbrev pub words_text : Word → List Word → List ℕ
words_text first words = joined (first ∷ words)

-- a line of words, with its line feed
abbrev pub line_text : List Word → List ℕ
line_text [] = 10 ∷ []
line_text (first ∷ words) = words_text first words ++ 10 ∷ []

abbrev pub board_words : (pages harts files : ℕ) → List Word
board_words pages harts files = codes "board" ∷ natural_text pages ∷ natural_text harts ∷ natural_text files ∷ []

abbrev pub key_words : (key : List ℕ) → List Word
key_words key = codes "key" ∷ hex_text key ∷ []

abbrev pub fill_words : Fill → List Word
fill_words fill = codes "fill" ∷ number_text fill.addr ∷ hex_text fill.bytes ∷ []

abbrev pub phase_words : List Word
phase_words = codes "phase" ∷ []

-- what a hart does
abbrev pub action_words : Line → List Word
action_words (Call call) = call_words call
action_words (Load addr) = codes "ld" ∷ number_text addr ∷ []
action_words (Store addr value) = codes "sd" ∷ number_text addr ∷ number_text value ∷ []

abbrev pub hart_words : ScriptLine → List Word
hart_words line = natural_text line.hart.0 ∷ action_words line.line

-- the lines of harts after one of a phase, with a line `phase` for each phase between them
abbrev pub body_words : (phase : ℕ) → List ScriptLine → List (List Word)
body_words phase [] = []
body_words phase (line ∷ lines) =
    replicate (line.phase - phase) phase_words ++ hart_words line ∷ body_words line.phase lines

-- one line of turns, where there are any
abbrev pub turns_words : List ℕ → List (List Word)
turns_words [] = []
turns_words (hart ∷ harts) = (codes "turns" ∷ map natural_text (hart ∷ harts)) ∷ []

abbrev pub end_words : List Word
end_words = codes "end" ∷ []

abbrev pub script_words : ScriptValue → List (List Word)
script_words script =
    board_words script.pages script.harts script.files ∷ key_words script.key ∷ map fill_words script.fills
    ++ body_words 0 script.lines ++ turns_words script.turns ++ end_words ∷ []

abbrev pub lines_text : List (List Word) → List ℕ
lines_text lines = flat_map line_text lines

-- the canonical text
unfoldable pub script_text : ScriptValue → List ℕ
script_text script = lines_text (script_words script)
