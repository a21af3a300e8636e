use Rattle.std.proofs.Common.{ℕ, ◌-◌, ap, ◌∙◌}
use Rattle.std.proofs.lemmas.Nat.{and_mask, one_shl}
use Rattle.std.specs.Prelude.{bit_and}
use Rattle.cove_exec.proofs.numbers.low.Goals as goal

pub returns-then-width-lt64 : goal.returns-then-width-lt64
returns-then-width-lt64 c =
    ap (λ (n : ℕ). bit_and c.args.a (n - 1)) (one_shl c.args.width 64 c.if-width-lt64.true)
    ∙ and_mask c.args.a c.args.width
