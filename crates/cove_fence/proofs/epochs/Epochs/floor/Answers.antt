use Rattle.std.proofs.Common.{◌≡◌, ◌+◌, ◌<◌, ◌≤◌, ℕ, min, inl, inr, arith, rules, below_more, ap, ◌∙◌, get_or}
use Rattle.std.proofs.lemmas.Bool.{cases_lt}
use Rattle.cove_fence.specs.Fences.{answered}
use Rattle.cove_fence.proofs.epochs.Epochs.floor.Goals as goal

-- the least so far and the next number: the lesser of them is the least of one more
least_more : (f : ℕ → ℕ) (k least more : ℕ) → more ≡ min least (f k) → ((j : ℕ) → j < k → least ≤ f j) → ((j : ℕ) → j < k + 1 → more ≤ f j)
least_more f k least more is below =
    below_more (λ j. more ≤ f j) k (λ j h. let at : least ≤ f j = below j h in omega arith) (omega arith)

-- and it is one of the numbers
one_more : (f : ℕ → ℕ) (k least more : ℕ) → more ≡ min least (f k) → (j : ℕ) × (j < k) × (least ≡ f j) → (j : ℕ) × (j < k + 1) × (more ≡ f j)
one_more f k least more is one =
    elim (cases_lt least (f k)) [
      | inl less ↦ (one.0, omega (arith, one.1), omega (arith, one.2))
      | inr over ↦ (k, omega arith, omega arith)
    ]

pub loop-k-preserved : goal.loop-k-preserved
loop-k-preserved g c =
    let places = c.args.self.now in
    let words = g.W.Words.words c.args.w.now in
    let k = c.loop-k.k in
    let read : c.get.result ≡ answered places words k =
    c.get.ensures.value ∙ ap (λ ws. get_or ws c.place-in-loop-k.result 0) c.loop-k.invariant.unchanged.words ∙ ap (λ p. get_or words p 0) c.place-in-loop-k.ensures in
    let is : c.min-least.result ≡ min c.loop-k.least (answered places words k) =
    c.min-least.ensures ∙ ap (λ n. min c.loop-k.least n) read in
    record {
      least = least_more (answered places words) k _ _ is c.loop-k.invariant.least;
      answered = one_more (answered places words) k _ _ is c.loop-k.invariant.answered;
      unchanged = search rules;
    }
