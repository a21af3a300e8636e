use Rattle.std.proofs.Common.{ℕ, ◌+◌, ◌*◌, ◌<◌, ◌≤◌, ◌⊎◌, List, length, arith, inl, inr}
use Rattle.cove_base.proofs.StoreLemmas.{length-stored, get_or-fills, get_or-fills_other}
use Rattle.cove_model.specs.Machine.{table_word, stored}
use Rattle.cove_stage2.specs.Changes.{clear_stores, ClearsPage}

-- what the stores of 0 to the table words of a page leave
pub clears-page : (pages : ℕ) (words : List ℕ) (page : ℕ) → page < pages → 513 * pages ≤ length words → ClearsPage pages words (stored words (clear_stores pages page)) page
unfolding clear_stores
clears-page pages words page on size = record {
  zeros = λ i h. get_or-fills words (table_word pages page 0) 512 0 (table_word pages page i) (omega arith) (omega arith) (omega arith);
  others = λ place apart. get_or-fills_other words (table_word pages page 0) 512 0 place (behind place apart);
  length = length-stored words (clear_stores pages page);
} where
  behind : (place : ℕ) → (place < table_word pages page 0) ⊎ (table_word pages page 512 ≤ place) → (place < table_word pages page 0) ⊎ (table_word pages page 0 + 512 ≤ place)
  behind place (inl before) = inl before
  behind place (inr after) = inr (omega arith)
