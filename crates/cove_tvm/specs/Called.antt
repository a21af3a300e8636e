-- What a call of a hart needs of words and ground, and what it leaves.
use Rattle.std.specs.Prelude.{◌≡◌, ℕ, ◌+◌, ◌-◌, ◌<◌, ◌≤◌, false, List, length, slice_index}
use Rattle.cove_base.specs.Places.{count_word}
use Rattle.cove_base.specs.Statuses.{is_success}
use Rattle.cove_base.specs.declared.limits.TheConstants.{ENTRY_LIMIT, HART_LIMIT, PAGE_LIMIT}
use Rattle.cove_base.specs.declared.statuses.Reply.{Reply}
use Rattle.cove_model.specs.Answers.{reply_by, state_after_rule}
use Rattle.cove_model.specs.HostCalls.{Rule}
use Rattle.cove_model.specs.LawfulStores.{MakesLawful}
use Rattle.cove_model.specs.Orderly.{IsOrderly}
use Rattle.cove_model.specs.Seated.{IsSeated}
use Rattle.cove_model.specs.Sound.{IsSound}
use Rattle.cove_model.specs.States.{State}
use Rattle.cove_model.specs.WordsStand.{FencesWithin}
use Rattle.cove_tvm.specs.Stands.{Stands}
use Rattle.cove_tvm.specs.declared.ground.Ground.{Ground}

-- a state as it is after every legal history
pub record IsMet (S : State) : Type 0 where
  pub sound : IsSound S
  pub orderly : IsOrderly S
  pub seated : IsSeated S

-- a board within the limits, fences that may rise by one, and a state that words and ground stand for
pub record IsReady (words : List ℕ) (G : Ground) : Type 0 where
  pub page_limit : G.pages ≤ PAGE_LIMIT
  pub some_hart : 0 < G.harts
  pub hart_limit : G.harts ≤ HART_LIMIT
  pub fences : FencesWithin G.pages G.harts words (ENTRY_LIMIT - 1)
  pub state : State
  pub met : IsMet state
  pub stands : Stands words G state

-- A call that a hart makes, by the rule that it has in each state. Whatever state words and ground stood for, it is answered as
-- its rule says there, and they stand for the state after it; its stores are lawful; a refused call changes nothing; the number
-- of words and the count stay, and each fence rises by one at most.
pub record Called (hart : ℕ) (rule_in : State → Rule) (words new : List ℕ) (G H : Ground) (reply : Reply) : Type 0 where
  pub serves :
      (S : State) → IsMet S → Stands words G S → (reply ≡ reply_by (rule_in S)) × Stands new H (state_after_rule S (rule_in S))
  pub lawful : MakesLawful G.pages G.harts hart words words new
  pub refused : is_success reply.status ≡ false → (new ≡ words) × (H ≡ G)
  pub fences : (most : ℕ) → FencesWithin G.pages G.harts words most → FencesWithin G.pages G.harts new (most + 1)
  pub count : slice_index new (count_word G.pages G.harts) ≡ slice_index words (count_word G.pages G.harts)
  pub size : length new ≡ length words
