-- What a hart needs before its next event.
use Rattle.std.specs.Prelude.{ℕ, ◌||◌, nat_lt, if◌then◌else◌, is_some, Option, Some, None}
use Rattle.cove_base.specs.declared.scripts.ScriptLine.{ScriptLine}
use Rattle.cove_base.specs.declared.walks.Target.TheVariants.{Host}
use Rattle.cove_base.specs.HartLines.{next_line}
use Rattle.cove_base.specs.HartValues.{HartValue, accessed_page, has_walked_to}
use Rattle.cove_base.specs.Rings.{found}
use Rattle.cove_base.specs.Scripts.{ScriptValue}
use Rattle.cove_hart.specs.declared.needs.Need.{Need}
use Rattle.cove_hart.specs.declared.needs.Need.TheVariants.{Walk, Event, Idle}

-- a call needs nothing; an access needs a walk to its page, where no ring finds it and none was made
abbrev pub access_need : HartValue → Option ℕ → Need
access_need hart None = Event
access_need hart (Some page) =
    if is_some (found page hart.rings.hosts) || has_walked_to hart.walked page then Event
    else Walk (Host (record { 0 = page }))

-- a hart whose next line is of a later phase has nothing to do yet
abbrev pub line_need : HartValue → (phase : ℕ) → Option ScriptLine → Need
line_need hart phase None = Idle
line_need hart phase (Some line) =
    if nat_lt phase line.phase then Idle else access_need hart (accessed_page line.line)

-- what a hart needs in this phase
abbrev pub next_need : ScriptValue → HartValue → (phase : ℕ) → Need
next_need script hart phase = line_need hart phase (next_line script hart.hart hart.ended)
