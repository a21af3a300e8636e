-- Where a hart stands in the lines of a script.
use Rattle.std.specs.Prelude.{◌≡◌, ℕ, ◌==◌, Bool, filter, drop, IfSome, slice_get}
use Rattle.cove_base.specs.declared.scripts.ScriptLine.{ScriptLine}
use Rattle.cove_base.specs.HartLines.{lines_of}
use Rattle.cove_base.specs.Scripts.{ScriptValue}

-- a line of this hart
abbrev pub is_line_of : (hart : ℕ) → ScriptLine → Bool
is_line_of hart line = line.hart.0 == hart

-- the place of the next line of a hart that has ended this many of its lines: from there on stand all that it has
-- not ended, and its next one there; or there is none, and it is the end of the script's lines
pub record IsNextPlace (script : ScriptValue) (hart ended place : ℕ) : Type 0 where
  pub rest : filter (is_line_of hart) (drop place script.lines) ≡ drop ended (lines_of script hart)
  pub here : IfSome (slice_get script.lines place) (λ line. line.hart.0 ≡ hart)
