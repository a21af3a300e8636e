use Rattle.std.proofs.Common.{refl, arith}
use Rattle.std.specs.List.{list_all}
use Rattle.std.proofs.lemmas.Bool.{lt-ltb}
use Rattle.std.proofs.lemmas.List.Recursion.{and_from_places}
use Rattle.cove_base.specs.Numbers.{is_u8}
use Rattle.cove_base.proofs.sizes.bytes_fit.Goals as goal

pub returns : goal.returns
returns c =
    and_from_places (list_all is_u8) is_u8 refl (λ _ _. refl) c.args.bytes.now 0 (λ i _. lt-ltb _ 256 (omega (arith, c.type_inv.bytes i)))
