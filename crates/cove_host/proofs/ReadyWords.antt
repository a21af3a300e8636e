-- What words are that are ready for a call.
use Rattle.std.proofs.Common.{ℕ, ◌+◌, ◌^◌, ◌<◌, ◌≤◌, List, arith}
use Rattle.cove_model.specs.Machine.{IsPageWord, ENTRY_LIMIT, FencesWithin, maps_of}
use Rattle.cove_tvm.specs.Called.{IsReady}
use Rattle.cove_model.proofs.SharedLeaves.{stores_count_shared}
use Rattle.cove_model.proofs.ToldProofs.{words_are_words}
use Rattle.cove_owner.specs.States.{EveryPage}
use Rattle.cove_tvm.specs.declared.ground.Ground.{Ground}

module _ (words : List ℕ) (G : Ground) (ready : IsReady words G) where
  -- a page is mapped shared at most as often as there are table words
  pub few_maps : (p : ℕ) → p < G.pages → maps_of ready.state p < 2 ^ 32
  few_maps p on =
      let limit = ready.page_limit in
      let few = (stores_count_shared G.pages G.harts words p ready.stands.words_stand.stands.size).0 in
      let counted = ready.stands.counted p on in
      omega arith

  -- each page has a page word
  pub page_words : (first n : ℕ) → first + n ≤ G.pages → EveryPage IsPageWord words first n
  page_words first n inside p low high =
      let epoch = ready.fences.epoch in
      words_are_words G.pages G.harts words ready.state p (omega arith) ready.stands.words_stand ready.some_hart (omega arith) (few_maps p (omega arith))

  -- the fences are within the limit of entries
  pub fences_within : FencesWithin G.pages G.harts words ENTRY_LIMIT
  fences_within = record {
    epoch = let epoch = ready.fences.epoch in omega arith;
    numbers = λ t low high. let number = ready.fences.numbers t low high in omega arith;
  }
