-- Pages of a run are free in a state just where a test of their words says so.
use Rattle.std.proofs.Common.{◌≡◌, ◌↔◌, ℕ, ◌+◌, ◌<◌, ◌≤◌, ◌∙◌, Bool, true, List, ap, arith}
use Rattle.cove_model.specs.Machine.{IsFreeWord, epoch_word, every, is_free, State}
use Rattle.cove_fence.specs.Fences.{FenceWords, answered}
use Rattle.cove_host.proofs.PageTests.{every_told}
use Rattle.cove_model.proofs.ToldProofs.{words_tell_free}
use Rattle.cove_model.specs.WordLaws.{IsFloor}
use Rattle.cove_owner.specs.States.{EveryPage}
use Rattle.cove_tvm.specs.Stands.{Stands}
use Rattle.cove_tvm.specs.declared.ground.Ground.{Ground}

abbrev fence_words : (first harts : ℕ) → FenceWords
fence_words first harts = record { first = first; harts = harts }

-- the least number that was answered, by the places of the fence words
pub floor_is : (pages harts : ℕ) (words : List ℕ) (places : FenceWords) (floor : ℕ) → places.first ≡ epoch_word pages → places.harts ≡ harts
    → ((k : ℕ) → k < places.harts → floor ≤ answered places words k)
    → (k : ℕ) × (k < places.harts) × (floor ≡ answered places words k) → IsFloor pages harts words floor
floor_is pages harts words places floor first count least one =
    let are : places ≡ fence_words (epoch_word pages) harts =
    ap (λ n. fence_words n places.harts) first ∙ ap (λ n. fence_words (epoch_word pages) n) count in
    (rw are at least, rw are at one)

pub free_told : (words : List ℕ) (G : Ground) (S : State) (first n floor : ℕ) (b : Bool) → Stands words G S → first + n ≤ G.pages
    → IsFloor G.pages G.harts words floor → ((b ≡ true) ↔ EveryPage (IsFreeWord floor) words first n) → every is_free first n S.pages ≡ b
free_told words G S first n floor b stands inside least test =
    let long = stands.words_stand.stands.owners.page_count in
    every_told is_free (IsFreeWord floor) words S.pages first n b (omega arith)
    (λ p on. words_tell_free G.pages G.harts words S p floor (omega arith) stands.words_stand.stands.owners least) test
