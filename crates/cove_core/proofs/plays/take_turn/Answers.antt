use Rattle.std.proofs.Common.{slice_get, sym, ◌∙◌, arith}
use Rattle.cove_core.proofs.Making.{next_at}
use Rattle.cove_core.proofs.Turning.{behind_of, idle_never, kept_words, made_at, none_of, over_turned, walk_turned}
use Rattle.cove_core.proofs.Walking.{prepared_for}
use Rattle.cove_hart.specs.HartStates.{hart_value}
use Rattle.cove_core.proofs.plays.take_turn.Goals as goal

pub returns-in_default-clause-turned : goal.returns-in_default-clause-turned
returns-in_default-clause-turned c =
    over_turned c.args.script.now c.args.mon.now.history (hart_value c.args.hart.now) c.requires.fits (sym c.line_at.ensures.line ∙ c.in_default.is)

pub returns-then-is_some-clause-turned : goal.returns-then-is_some-clause-turned
returns-then-is_some-clause-turned c =
    let script = c.args.script.now in
    let held = hart_value c.args.hart.now in
    let next = next_at script c.args.mon.now.history held c.requires.fits c.in-Some.line (sym c.line_at.ensures.line ∙ c.in-Some.is) in
    behind_of script c.args.mon.now.history held c.requires.fits c.in-Some.line next c.first_behind.result (sym c.is_some.ensures ∙ c.if-is_some.true) c.first_behind.ensures.some

pub walk_step-requires-clause-words : goal.walk_step-requires-clause-words
walk_step-requires-clause-words c =
    kept_words c.args.script.now c.line_at.ensures.within c.args.words.now c.args.mon.now c.requires.kept (omega (arith, c.if-len.false))

pub returns-in-Did-clause-turned : goal.returns-in-Did-clause-turned
returns-in-Did-clause-turned c =
    let script = c.args.script.now in
    let held = hart_value c.args.hart.now in
    let line = c.in-Some.line in
    let prepared = prepared_for script held line.phase (sym c.next.ensures ∙ c.in-Event.is) in
    made_at script c.line_at.ensures.within c.args.words.now c.event_step.new.w c.args.mon.now c.event_step.new.mon c.requires.kept held (hart_value c.event_step.new.hart) c.requires.fits prepared
    c.in-Did.ensures.limit.1 (slice_get c.event_step.new.mon.history c.in-Did.field-0) c.in-Did.ensures.entry.1 c.in-Did.ensures.made c.in-Did.ensures.used

pub returns-else-is_some-clause-turned : goal.returns-else-is_some-clause-turned
returns-else-is_some-clause-turned c =
    let script = c.args.script.now in
    let held = hart_value c.args.hart.now in
    let next = next_at script c.args.mon.now.history held c.requires.fits c.in-Some.line (sym c.line_at.ensures.line ∙ c.in-Some.is) in
    walk_turned script c.line_at.ensures.within c.args.words.now c.args.mon.now c.requires.kept held (hart_value c.walk_step.new.hart) c.requires.fits c.in-Some.line.phase c.walk_step.ensures.walked c.in-Some.line next
    (omega (arith, c.if-len.false)) (none_of c.first_behind.result (sym c.is_some.ensures ∙ c.if-is_some.false) c.first_behind.ensures.none)

pub returns-in-Idle-clause-turned : goal.returns-in-Idle-clause-turned
returns-in-Idle-clause-turned c =
    let script = c.args.script.now in
    let held = hart_value c.args.hart.now in
    let next = next_at script c.args.mon.now.history held c.requires.fits c.in-Some.line (sym c.line_at.ensures.line ∙ c.in-Some.is) in
    absurd (idle_never script held c.in-Some.line next (sym c.next.ensures ∙ c.in-Idle.is))
