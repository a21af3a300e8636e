-- Fences that stay, while an entry is made.
use Rattle.std.proofs.Common.{ℕ, ◌+◌, ◌≤◌, List, arith}
use Rattle.cove_model.specs.WordsStand.{FencesWithin, number_in}

-- numbers of fences that stay are within the next one
pub stays_within : (pages harts : ℕ) (words : List ℕ) (most : ℕ) → FencesWithin pages harts words most → FencesWithin pages harts words (most + 1)
stays_within pages harts words most within = record {
  epoch = let epoch = within.epoch in omega arith;
  numbers = λ t low high. let number : number_in pages harts words t ≤ most = within.numbers t low high in omega arith;
}
