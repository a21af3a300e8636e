-- A test of the pages of a run in a state, by a fact of their words.
use Rattle.std.proofs.Common.{◌≡◌, ◌↔◌, ℕ, ◌+◌, ◌<◌, ◌≤◌, Bool, true, List, get_or, length, arith}
use Rattle.std.proofs.lemmas.Bool.Decides.{same_from_decides}
use Rattle.cove_model.specs.Machine.{IsHostWord, Owner, every, is_host, page_at, State}
use Rattle.cove_model.proofs.Runs.{every_at, every_from}
use Rattle.cove_model.proofs.ToldProofs.{words_tell_host}
use Rattle.cove_owner.specs.States.{EveryPage}
use Rattle.cove_tvm.specs.Stands.{Stands}
use Rattle.cove_tvm.specs.declared.ground.Ground.{Ground}

-- every page passes where a word of each says so
pub every_told : (test : Owner → Bool) (P : ℕ → Type 0) (words : List ℕ) (pages : List Owner) (first n : ℕ) (b : Bool) → first + n ≤ length pages
    → ((p : ℕ) → p < length pages → (test (page_at pages p) ≡ true) ↔ P (get_or words p 0)) → ((b ≡ true) ↔ EveryPage P words first n) → every test first n pages ≡ b
every_told test P words pages first n b inside each is = same_from_decides (every test first n pages) b told is
  where
    told : (every test first n pages ≡ true) ↔ EveryPage P words first n
    told = (
      λ all p low high. (each p (omega arith)).0 (every_at test first n pages all p low high (omega arith)),
      λ all. every_from test first n pages (λ p low high on. (each p on).1 (all p low high)),
    )

-- pages are the host's just where a test of their words says so
pub host_told : (words : List ℕ) (G : Ground) (S : State) (first n : ℕ) (b : Bool) → Stands words G S → first + n ≤ G.pages
    → ((b ≡ true) ↔ EveryPage IsHostWord words first n) → every is_host first n S.pages ≡ b
host_told words G S first n b stands inside test =
    let long = stands.words_stand.stands.owners.page_count in
    every_told is_host IsHostWord words S.pages first n b (omega arith)
    (λ p on. words_tell_host G.pages G.harts words S p (omega arith) stands.words_stand.stands.owners) test
