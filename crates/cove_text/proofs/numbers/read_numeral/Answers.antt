use Rattle.std.proofs.Common.{sym, ◌∙◌, ◌<◌, length, arith}
use Rattle.cove_text.proofs.Numerals.{IsValueSoFar-more, value_of_numeral-bad, value_of_numeral-end}
use Rattle.cove_text.proofs.numbers.read_numeral.Goals as goal

pub returns-in_err-value : goal.returns-in_err-value
returns-in_err-value c =
    c.from_residual.ensures
    ∙ sym (value_of_numeral-bad c.args.base c.args.most c.args.digits.now c.loop-digit.digit-index c.loop-digit.value (omega arith) (omega arith) c.loop-digit.invariant.same c.in_err-value.ensures)

pub loop-digit-preserved : goal.loop-digit-preserved
loop-digit-preserved c =
    IsValueSoFar-more c.args.base c.args.digits.now c.loop-digit.digit-index c.loop-digit.value c.in_ok-value.value (omega arith) c.loop-digit.invariant c.in_ok-value.ensures.0 c.in_ok-value.ensures.1

pub returns : goal.returns
returns c =
    let some : 0 < length c.args.digits.now = grind arith in
    value_of_numeral-end c.args.base c.args.most c.args.digits.now c.loop-digit.digit-index c.loop-digit.value some (omega arith) (omega arith) c.loop-digit.invariant
