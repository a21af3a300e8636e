use Rattle.std.specs.Prelude.{ℕ, ◌==◌, List, filter, Option, slice_get}
use Rattle.cove_base.specs.declared.scripts.ScriptLine.{ScriptLine}
use Rattle.cove_base.specs.Scripts.{ScriptValue}

-- the lines of a hart, in order
abbrev pub lines_of : (script : ScriptValue) (hart : ℕ) → List ScriptLine
lines_of script hart = filter (λ line. line.hart.0 == hart) script.lines

-- the next line of a hart that has ended this many of its lines
abbrev pub next_line : (script : ScriptValue) (hart ended : ℕ) → Option ScriptLine
next_line script hart ended = slice_get (lines_of script hart) ended
