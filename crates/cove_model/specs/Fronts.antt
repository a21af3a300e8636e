-- A script in front of other text, up to the first line `end`.
use Rattle.std.specs.Prelude.{◌≡◌, ℕ, ◌+◌, ◌≤◌, Bool, true, false, not, nat_lt, min, if◌then◌else◌, ◌⊎◌, List, [], ◌∷◌, ◌++◌, length, take, sum_by, codes, Result, Ok, Err}
use Rattle.std.specs.List.{list_all}
use Rattle.std.specs.Str.{bytes_eq}
use Rattle.cove_base.specs.declared.faults.Kind.TheVariants.{TooLong}
use Rattle.cove_base.specs.declared.faults.ScriptFault.{ScriptFault}
use Rattle.cove_base.specs.Scripts.{ScriptValue}
use Rattle.cove_base.specs.Text.{text_lines, text_words}
use Rattle.cove_model.specs.Grammar.{Word, script_of, fault_at}

-- the word `end` alone
abbrev pub is_end : List Word → Bool
is_end (word ∷ []) = bytes_eq word (codes "end")
is_end _ = false

abbrev pub is_end_line : (line : List ℕ) → Bool
is_end_line line = is_end (text_words line)

-- the lines up to the first line `end` and with it, or all lines
abbrev pub front_lines : List (List ℕ) → List (List ℕ)
front_lines [] = []
front_lines (line ∷ lines) = line ∷ (if is_end_line line then [] else front_lines lines)

-- the place after these lines, each with its line feed, or the end of the text
abbrev pub front_size : (text : List ℕ) → ℕ
front_size text = min (sum_by (λ line. length line + 1) (front_lines (text_lines text))) (length text)

abbrev pub with_place : (place : ℕ) → Result ScriptValue ScriptFault → Result (ScriptValue × ℕ) ScriptFault
with_place place (Ok script) = Ok (script, place)
with_place place (Err fault) = Err fault

-- the script in front of a text of at most so many bytes, and the place after it, or its first fault
unfoldable pub front_of : (limit : ℕ) → (text : List ℕ) → Result (ScriptValue × ℕ) ScriptFault
front_of limit text =
    if nat_lt limit (length text) then Err (fault_at 0 TooLong)
    else with_place (front_size text) (script_of limit (take (front_size text) text))

-- ---- what it is

-- the last of the lines is the first line `end`
pub record AreUpToEnd (lines : List (List ℕ)) : Type 0 where
  pub before : List (List ℕ)
  pub last : List ℕ
  pub lines_are : lines ≡ before ++ last ∷ []
  pub no_end : list_all (λ line. not (is_end_line line)) before ≡ true
  pub ends : is_end_line last ≡ true

-- a place after a line feed of the text, or at its end
abbrev pub IsAfterLine : (text : List ℕ) (place : ℕ) → Type 0
IsAfterLine text place =
    (place ≡ length text) ⊎ ((before rest : List ℕ) × (text ≡ before ++ 10 ∷ rest) × (place ≡ length before + 1))

-- the text up to a place is a script's, and ends with the first line `end`
pub record IsFront (limit : ℕ) (text : List ℕ) (script : ScriptValue) (place : ℕ) : Type 0 where
  pub short : length text ≤ limit
  pub after_line : IsAfterLine text place
  pub up_to_end : AreUpToEnd (text_lines (take place text))
  pub spells : script_of limit (take place text) ≡ Ok script
