use Rattle.std.proofs.Common.{◌≡◌, ℕ, List, [], ◌∷◌, ◌++◌, length, length-append, refl, ap, ◌∙◌, true≢false, arith}
use Rattle.cove_tvm.specs.Lives.{is_gone}
use Rattle.cove_tvm.specs.declared.machines.Life.{Life}
use Rattle.cove_tvm.specs.declared.machines.Tvm.{Tvm}
use Rattle.cove_lives.proofs.build_examples.worked_growing.Goals as goal

pub returns-clause-pages : goal.returns-clause-pages
returns-clause-pages c = λ tvm. record { pages = refl; room = refl; rest = refl }

pub returns-clause-one_page : goal.returns-clause-one_page
returns-clause-one_page c = λ tvm adds.
    let same : length (tvm.pool.pages ++ 4 ∷ []) ≡ length (tvm.pool.pages ++ 4 ∷ 5 ∷ []) = ap (λ (pages : List ℕ). length pages) adds.pages in
    let one = length-append tvm.pool.pages (4 ∷ []) in
    let two = length-append tvm.pool.pages (4 ∷ 5 ∷ []) in
    absurd (omega arith)

pub returns-clause-gone : goal.returns-clause-gone
returns-clause-gone c = λ tvm building adds.
    true≢false (ap (λ (one : Tvm). is_gone one.life) adds.rest ∙ ap (λ (life : Life). is_gone life) building)

pub returns-clause-less_room : goal.returns-clause-less_room
returns-clause-less_room c = λ tvm nine adds. let is : 8 ≡ tvm.pool.room = adds.room in absurd (omega arith)
