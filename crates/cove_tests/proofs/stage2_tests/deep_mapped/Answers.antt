use Rattle.std.proofs.Common.{◌≡◌, ℕ, zero, suc, ◌+◌, ◌<◌, ◌≤◌, ◌∙◌, ◌++◌, List, [], ◌∷◌, get_or, refl, sym, ap, subst, arith, inr}
use Rattle.cove_base.specs.Tables.{At, IsPool, IsSpare}
use Rattle.cove_stage2.proofs.ZeroLemmas.{zeros-absent, zeros-spare, zeros-tree}
use Rattle.cove_tests.proofs.stage2_tests.deep_mapped.Goals as goal

page : (k : ℕ) → k < 3 → get_or (8 ∷ 9 ∷ 10 ∷ []) k 0 ≡ 8 + k
page zero low = refl
page (suc zero) low = refl
page (suc (suc zero)) low = refl
page (suc (suc (suc k))) low = absurd (omega arith)

three : (words : List ℕ) → ((p : ℕ) → 8 ≤ p → p < 16 → IsSpare 16 4 words p) → IsPool 16 4 words (8 ∷ 9 ∷ 10 ∷ [])
three words spare = record {
  each = λ k low. subst (IsSpare 16 4 words) (sym (page k low)) (spare (8 + k) (omega arith) (omega arith));
  differ = λ j k first second same. omega (arith, page j first, page k second, same);
}

pub map-requires-clause-tree : goal.map-requires-clause-tree
map-requires-clause-tree c = zeros-tree 16 4 3 8208 c.in_ok-words.words c.in_ok-words.ensures (omega arith) (omega arith)

pub map-requires-clause-absent : goal.map-requires-clause-absent
map-requires-clause-absent c = zeros-absent 16 4 8208 c.in_ok-words.words c.in_ok-words.ensures (omega arith) (omega arith) (At 3 0x200C0A11) (omega arith)

pub map-requires-clause-pool : goal.map-requires-clause-pool
map-requires-clause-pool c =
    let two : c.add-2.new.self.pages ≡ 8 ∷ 9 ∷ [] = c.add-2.ensures.pages ∙ ap (λ ps. ps ++ 9 ∷ []) (c.add.ensures.pages ∙ ap (λ ps. ps ++ 8 ∷ []) c.in_ok-pool.ensures.pages) in
    let pool : c.add-3.new.self.pages ≡ 8 ∷ 9 ∷ 10 ∷ [] = c.add-3.ensures.pages ∙ ap (λ ps. ps ++ 10 ∷ []) two in
    subst (IsPool 16 4 c.in_ok-words.words) (sym pool)
    (three c.in_ok-words.words (λ p low high. zeros-spare 16 4 8208 c.in_ok-words.words c.in_ok-words.ensures (omega arith) (omega arith) p (omega arith, inr (omega arith))))
