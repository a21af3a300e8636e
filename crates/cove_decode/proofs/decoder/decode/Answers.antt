use Rattle.std.proofs.Common.{◌≡◌, ℕ, ◌<◌, ◌^◌, Option, arith, ◌∙◌}
use Rattle.cove_base.specs.Instructions.{decoded}
use Rattle.cove_base.specs.declared.instructions.Insn.{Insn}
use Rattle.cove_decode.proofs.AgainLemmas.{IsRead, decoded_read, read_fits, read_again}
use Rattle.cove_decode.proofs.RoundLemmas.{decoded_is}
use Rattle.cove_decode.proofs.decoder.decode.Goals as goal

read : (w : ℕ) (found : Option Insn) → found ≡ decoded w → w < 2 ^ 32 → IsRead w found
read w found e below = rw e (decoded_read w below)

pub returns-clause-fits : goal.returns-clause-fits
returns-clause-fits c = read_fits _ _ (read c.args.word c.instruction.result c.instruction.ensures (omega arith))

pub returns-clause-again : goal.returns-clause-again
returns-clause-again c = read_again _ _ (read c.args.word c.instruction.result c.instruction.ensures (omega arith))

pub returns-clause-found : goal.returns-clause-found
returns-clause-found c = λ insn fits e. c.instruction.ensures ∙ decoded_is c.args.word insn fits e
