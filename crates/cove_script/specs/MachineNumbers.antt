-- What a script holds where the program runs: bytes are below 256, and numbers below 2 ^ 64.
use Rattle.std.specs.Prelude.{◌≡◌, ℕ, ◌^◌, ◌<◌, Bool, true, nat_lt, List, [], ◌∷◌, slice_index}
use Rattle.std.specs.List.{list_all, All}
use Rattle.cove_base.specs.declared.scripts.Line.{Line}
use Rattle.cove_base.specs.declared.scripts.Line.TheVariants.{Call, Load, Store}
use Rattle.cove_base.specs.declared.scripts.ScriptLine.{ScriptLine}
use Rattle.cove_base.specs.declared.scripts.Fill.{Fill}
use Rattle.cove_base.specs.CallWords.{arguments}
use Rattle.cove_base.specs.Scripts.{ScriptValue}

abbrev pub AreBytes : List ℕ → Type 0
AreBytes bytes = (i : ℕ) → slice_index bytes i < 256

abbrev pub fits : ℕ → Bool
fits n = nat_lt n (2 ^ 64)

-- the numbers that a line of a hart names
abbrev pub line_numbers : Line → List ℕ
line_numbers (Call call) = arguments call
line_numbers (Load addr) = addr ∷ []
line_numbers (Store addr value) = addr ∷ value ∷ []

abbrev pub HasFittingNumbers : ScriptLine → Type 0
HasFittingNumbers line = list_all fits (line_numbers line.line) ≡ true

abbrev pub HasBytes : Fill → Type 0
HasBytes fill = AreBytes fill.bytes

pub record HasMachineNumbers (script : ScriptValue) : Type 0 where
  pub key : AreBytes script.key
  pub fills : All HasBytes script.fills
  pub lines : All HasFittingNumbers script.lines
