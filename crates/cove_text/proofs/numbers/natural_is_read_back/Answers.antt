use Rattle.std.proofs.Common.{arith}
use Rattle.cove_text.proofs.Numerals.{number_of-natural_text}
use Rattle.cove_text.proofs.numbers.natural_is_read_back.Goals as goal

pub returns : goal.returns
returns c = number_of-natural_text c.args.v (omega arith)
