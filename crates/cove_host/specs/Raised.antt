-- Counts of shared mappings that a call raises.
use Rattle.std.specs.Prelude.{◌≡◌, ℕ, ◌+◌, ◌^◌, ◌<◌, ◌≤◌, List, length, slice_index}
use Rattle.cove_base.specs.PageWords.{host}
use Rattle.cove_model.specs.LawfulStores.{AllowsLawful, MakesLawful}
use Rattle.cove_tvm.specs.SharedRuns.{RaisesCounts}

-- the words of n pages from one on are those of pages of the host's, mapped within the limit
abbrev pub AreHosts : (first n : ℕ) (words : List ℕ) → Type 0
AreHosts first n words =
    (p : ℕ) → first ≤ p → p < first + n → (maps : ℕ) × (maps < 2 ^ 32) × (slice_index words p ≡ host maps)

-- their counts may be raised, by a test that allows what is lawful for a hart
pub record MayRaise (allows : List ℕ → ℕ → ℕ → Type 0) (first n : ℕ) (words : List ℕ) : Type 0 where
  pub pages : ℕ
  pub harts : ℕ
  pub hart : ℕ
  pub start : List ℕ
  pub lawful : AllowsLawful allows pages harts hart start
  pub inside : first + n ≤ pages
  pub few : pages ≤ 2 ^ 16
  pub size : pages ≤ length words
  pub hosts : AreHosts first n words

-- the counts of the first i of them are raised, by lawful stores
pub record RaisesBy (first i : ℕ) (old new : List ℕ) : Type 0 where
  pub raised : RaisesCounts first i old new
  pub lawful :
      (pages harts hart : ℕ) (start : List ℕ) → first + i ≤ pages → AreHosts first i old
      → MakesLawful pages harts hart start old new
