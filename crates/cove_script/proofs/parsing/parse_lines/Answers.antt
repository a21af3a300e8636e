use Rattle.std.proofs.Common.{sym, arith}
use Rattle.cove_base.specs.Text.{text_lines}
use Rattle.cove_model.specs.Grammar.{line_read, lines_read, opening_reading}
use Rattle.cove_model.proofs.GrammarLimits.{sound_is_within}
use Rattle.cove_script.proofs.LoopOverLines.{at_line, at_the_end, faulty, goes_first, goes_on, is_fault}
use Rattle.cove_script.proofs.parsing.parse_lines.Goals as goal

pub loop-number-init : goal.loop-number-init
loop-number-init c =
    rw (c.in_ok-reading.ensures, c.into_iter-number-iterator.ensures.into_iter_gives, c.split_lines-number-items.ensures) (goes_first c.args.text.now)

pub overflow_add-next : goal.overflow_add-next
overflow_add-next c = let a = at_line c.loop-number.invariant c.in-Some.ensures.steps in omega (arith, a.at, a.few, c.requires)

pub fault_of_line-requires : goal.fault_of_line-requires
fault_of_line-requires c = let a = at_line c.loop-number.invariant c.in-Some.ensures.steps in omega (arith, a.at, a.few, c.requires)

pub returns-in-Err-clause-refused : goal.returns-in-Err-clause-refused
returns-in-Err-clause-refused c =
    is_fault c.in-Err.fault c.fault_of_line.result c.in-Some.number c.read_line.new.reading (line_read c.loop-number.reading c.in-Some.line.now) (lines_read opening_reading 1 (text_lines c.args.text.now)) c.fault_of_line.ensures c.in-Err.ensures
    (λ kind e. faulty c.loop-number.invariant c.in-Some.ensures.steps e)

pub loop-number-preserved : goal.loop-number-preserved
loop-number-preserved c = goes_on (omega (arith, c.requires)) c.loop-number.invariant c.in-Some.ensures.steps c.in-Ok.ensures

pub ended-requires-clause-within : goal.ended-requires-clause-within
ended-requires-clause-within c = sound_is_within c.loop-number.reading c.loop-number.invariant.sound

pub returns-clause-ok : goal.returns-clause-ok
returns-clause-ok c = rw (sym (at_the_end c.loop-number.invariant c.in-None.ensures.steps.0)) c.ended.ensures.ok

pub returns-clause-refused : goal.returns-clause-refused
returns-clause-refused c = rw (sym (at_the_end c.loop-number.invariant c.in-None.ensures.steps.0)) c.ended.ensures.refused
