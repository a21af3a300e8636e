use Rattle.cove_text.proofs.Numerals.{IsValueSoFar}
use Rattle.cove_text.proofs.numbers.read_numeral.Given as goal

abbrev pub invariant-loop-digit : goal.invariant-loop-digit
invariant-loop-digit l = IsValueSoFar l.base l.digits l.digit-index l.value
