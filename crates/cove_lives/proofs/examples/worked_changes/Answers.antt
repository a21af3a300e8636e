use Rattle.std.proofs.Common.{◌≡◌, ℕ, List, [], ◌∷◌, length, ap, arith}
use Rattle.cove_model.specs.Tvms.{Mapping, new_tvm}
use Rattle.cove_lives.specs.Examples.{own_five}
use Rattle.cove_lives.proofs.examples.worked_changes.Goals as goal

pub returns-clause-made : goal.returns-clause-made
returns-clause-made c = λ keeps. let is : ◌≡◌ {A = ℕ} 1 0 = keeps.made in absurd (omega arith)

pub returns-clause-renumbered : goal.returns-clause-renumbered
returns-clause-renumbered c = λ keeps. let is : ◌≡◌ {A = ℕ} 2 1 = keeps.number (new_tvm 1) in absurd (omega arith)

pub returns-clause-unmapped : goal.returns-clause-unmapped
returns-clause-unmapped c = λ keeps.
    let is : ◌≡◌ {A = ℕ} 0 1 = ap (λ (mappings : List Mapping). length mappings) (keeps.mappings (record (new_tvm 1) { mappings = own_five ∷ [] })) in
    absurd (omega arith)
