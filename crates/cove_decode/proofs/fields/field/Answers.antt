use Rattle.std.proofs.Common.{ℕ, ◌/◌, ◌-◌, ◌^◌, ap, ◌∙◌}
use Rattle.std.proofs.lemmas.Nat.{and_mask, one_shl}
use Rattle.std.specs.Prelude.{bit_and}
use Rattle.cove_decode.proofs.fields.field.Goals as goal

pub returns-clause-value : goal.returns-clause-value
returns-clause-value c =
    ap (λ (n : ℕ). bit_and (c.args.word / 2 ^ c.args.low) (n - 1)) (one_shl c.args.width 32 c.requires.width)
    ∙ and_mask (c.args.word / 2 ^ c.args.low) c.args.width
