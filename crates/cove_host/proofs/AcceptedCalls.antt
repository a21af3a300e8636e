-- What an accepted call leaves that has no value.
use Rattle.std.proofs.Common.{◌≡◌, ℕ, ◌+◌, ◌≤◌, List, get_or, None, refl, arith}
use Rattle.cove_base.proofs.StoreLemmas.{length-stored}
use Rattle.cove_model.specs.Machine.{count_word, AllAllowed, stored, Success, Rule, IsLawful, first_failing, State, FencesWithin, epoch_in, number_in}
use Rattle.cove_tvm.specs.Called.{Called, IsMet}
use Rattle.cove_tvm.specs.Stands.{Stands}
use Rattle.cove_tvm.specs.declared.ground.Ground.{Ground}

-- fences of which the epoch rises by one at most, and no number
pub rises_within : (pages harts : ℕ) (words new : List ℕ) (most : ℕ) → epoch_in pages new ≤ epoch_in pages words + 1
    → ((t : ℕ) → number_in pages harts new t ≡ number_in pages harts words t)
    → FencesWithin pages harts words most → FencesWithin pages harts new (most + 1)
rises_within pages harts words new most epoch numbers within = record {
  epoch = let was = within.epoch in omega arith;
  numbers = λ t low high. let number = within.numbers t low high in let same = numbers t in omega arith;
}

-- what a state must give for an accepted call
pub record Accepts (r : Rule) (new : List ℕ) (H : Ground) : Type 0 where
  pub none : first_failing r.checks ≡ None
  pub value : r.outcome.value ≡ 0
  pub stands : Stands new H r.outcome.state

-- a call that every state accepts makes its stores
pub accepts : (hart : ℕ) (rule_in : State → Rule) (words : List ℕ) (G H : Ground) (ss : List (ℕ × ℕ)) → AllAllowed (IsLawful G.pages G.harts hart words) words ss
    → ((most : ℕ) → FencesWithin G.pages G.harts words most → FencesWithin G.pages G.harts (stored words ss) (most + 1))
    → get_or (stored words ss) (count_word G.pages G.harts) 0 ≡ get_or words (count_word G.pages G.harts) 0
    → ((S : State) → IsMet S → Stands words G S → Accepts (rule_in S) (stored words ss) H)
    → Called hart rule_in words (stored words ss) G H (record { status = Success; value = 0 })
accepts hart rule_in words G H ss lawful fences count each = record {
  serves = λ S met stands. let right = each S met stands in rw right.none (rw right.value refl, right.stands);
  lawful = (ss, lawful, refl);
  refused = λ e. absurd cc;
  fences = fences;
  count = count;
  size = length-stored words ss;
}
