use Rattle.std.proofs.Common.{◌≡◌, ◌++◌, ◌∷◌, map, take}
use Rattle.std.specs.Prelude.{flat_map}
use Rattle.cove_base.specs.Numbers.{natural_text}
use Rattle.cove_script.proofs.printing.put_harts.Given as goal

abbrev pub invariant-loop-hart : goal.invariant-loop-hart
invariant-loop-hart l = l.out ≡ l.fn.out ++ flat_map (λ word. 32 ∷ word) (map natural_text (take l.hart-index l.harts))
