use Rattle.std.proofs.Common.{◌≡◌, ◌∙◌, ◌++◌, [], ◌∷◌, sym, ap, subst, arith, inr}
use Rattle.cove_base.specs.Tables.{At, IsPool}
use Rattle.cove_stage2.proofs.ZeroLemmas.{zeros-tree, zeros-absent, zeros-pool}
use Rattle.cove_tests.proofs.stage2_tests.two_mapped.Goals as goal

pub map-requires-clause-tree : goal.map-requires-clause-tree
map-requires-clause-tree c = zeros-tree 16 4 2 8208 c.in_ok-words.words c.in_ok-words.ensures (omega arith) (omega arith)

pub map-requires-clause-absent : goal.map-requires-clause-absent
map-requires-clause-absent c = zeros-absent 16 4 8208 c.in_ok-words.words c.in_ok-words.ensures (omega arith) (omega arith) (At 2 16) (omega arith)

pub map-requires-clause-pool : goal.map-requires-clause-pool
map-requires-clause-pool c =
    let pool : c.add-2.new.self.pages ≡ 8 ∷ 9 ∷ [] = c.add-2.ensures.pages ∙ ap (λ ps. ps ++ 9 ∷ []) (c.add.ensures.pages ∙ ap (λ ps. ps ++ 8 ∷ []) c.in_ok-pool.ensures.pages) in
    subst (IsPool 16 4 c.in_ok-words.words) (sym pool) (zeros-pool 16 4 8208 c.in_ok-words.words c.in_ok-words.ensures (omega arith) (omega arith) 8 9 (λ e. omega arith) (omega arith, inr (omega arith)) (omega arith, inr (omega arith)))

pub map-requires-2-clause-absent : goal.map-requires-2-clause-absent
map-requires-2-clause-absent c =
    c.map.ensures.leaf.others 17 (omega arith) (λ e. omega arith) ∙ zeros-absent 16 4 8208 c.in_ok-words.words c.in_ok-words.ensures (omega arith) (omega arith) (At 2 17) (omega arith)
