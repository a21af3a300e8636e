use Rattle.std.proofs.Common.{◌^◌, refl, arith}
use Rattle.std.specs.List.{list_all}
use Rattle.std.proofs.lemmas.Bool.{lt-ltb}
use Rattle.std.proofs.lemmas.List.Recursion.{and_from_places}
use Rattle.cove_base.specs.Numbers.{is_u64}
use Rattle.cove_text.proofs.numbers.numbers_fit.Goals as goal

pub returns : goal.returns
returns c =
    and_from_places (list_all is_u64) is_u64 refl (λ _ _. refl) c.args.numbers.now 0 (λ i _. lt-ltb _ (2 ^ 64) (omega (arith, c.type_inv.numbers i)))
