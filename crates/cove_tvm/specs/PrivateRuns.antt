-- Free pages become the memory of a TVM, and its guest pages are mapped to them: what words and ground stand for then.
use Rattle.std.specs.Prelude.{◌≡◌, ℕ, suc, ◌+◌, ◌/◌, ◌<◌, ◌≤◌, ◌⊎◌, true, false, ◌++◌, List, [], length, slice_index_or}
use Rattle.cove_base.specs.Measurement.{registers_of}
use Rattle.cove_base.specs.Modes.{leaves_of}
use Rattle.cove_base.specs.PageWords.{given}
use Rattle.cove_base.specs.Places.{page_word}
use Rattle.cove_base.specs.Stores.{AllAllowed, fills, stored}
use Rattle.cove_base.specs.declared.calls.HostCall.TheVariants.{Measured, Zero}
use Rattle.cove_base.specs.declared.numbers.Role.TheVariants.{Data}
use Rattle.cove_model.specs.HostCalls.{page_records, rule, page_words_from}
use Rattle.cove_model.specs.LawfulStores.{IsLawful}
use Rattle.cove_model.specs.Owners.{every, is_free, is_host, zeros}
use Rattle.cove_model.specs.States.{State}
use Rattle.cove_model.specs.Tvms.{Tvm as ModelTvm}
use Rattle.cove_stage2.specs.MapStores.{Pages}
use Rattle.cove_tvm.specs.MappedRuns.{AreMapped, MayMap}
use Rattle.cove_tvm.specs.Stands.{Stands}
use Rattle.cove_tvm.specs.TvmLends.{with_tvm}
use Rattle.cove_tvm.specs.UnmappedRuns.{MayMapOwnedBy}
use Rattle.cove_tvm.specs.declared.ground.Ground.{Ground}
use Rattle.cove_tvm.specs.declared.machines.Tvm.{Tvm}

-- the pages are given to the TVM as memory
abbrev pub memory_stores : (t base n : ℕ) → List (ℕ × ℕ)
memory_stores t base n = fills (page_word (base / 4096)) n (given t Data)

abbrev pub with_memory : (words : List ℕ) (t base n : ℕ) → List ℕ
with_memory words t base n = stored words (memory_stores t base n)

-- guest pages of a TVM may be mapped to free pages, which may be given to it
abbrev pub MayGrow : (words : List ℕ) (G : Ground) (S : State) (k base n gpa : ℕ) (old : Tvm) (model : ModelTvm) → Type 0
MayGrow words G S k base n gpa old model = MayMapOwnedBy is_free words G S k base n gpa old model

-- its guest pages are mapped to the pages, which were given to it
abbrev pub OwnsRun : (words : List ℕ) (G : Ground) (k base n gpa : ℕ) (old : Tvm) (new : List ℕ) (left : Pages) → Type 0
OwnsRun words G k base n gpa old new left =
    AreMapped G.pages G.harts (suc k) old.tables.root.0 (leaves_of old.tables.mode) (gpa / 4096) (base / 4096) n n false (with_memory words (suc k) base n) old.pool.pages new left.pages

-- the frames of n pages from a first one on have these words, and the other frames stay
pub record FillsFrames (first n : ℕ) (content : ℕ → List ℕ) (frames new : List (List ℕ)) : Type 0 where
  pub count : length new ≡ length frames
  pub here : (j : ℕ) → j < n → slice_index_or new (first + j) [] ≡ content j
  pub others : (p : ℕ) → (p < first) ⊎ (first + n ≤ p) → slice_index_or new p [] ≡ slice_index_or frames p []

-- The stores that give the pages are lawful, and then the run may be mapped.
abbrev pub MemoryIsLawful : Type 0
MemoryIsLawful =
    (k : ℕ) (words : List ℕ) (G : Ground) (S : State) (hart base n gpa : ℕ) (old : Tvm) (model : ModelTvm)
    → MayGrow words G S k base n gpa old model
    → AllAllowed (IsLawful G.pages G.harts hart words) words (memory_stores (suc k) base n)

abbrev pub MemoryMayMap : Type 0
MemoryMayMap =
    (k : ℕ) (words : List ℕ) (G : Ground) (S : State) (base n gpa : ℕ) (old : Tvm) (model : ModelTvm)
    → MayGrow words G S k base n gpa old model
    → MayMap G.pages G.harts (with_memory words (suc k) base n) (suc k) old.tables.root.0 (leaves_of old.tables.mode) old.pool.pages (gpa / 4096) (base / 4096) n false

-- Where the pages were filled with zeros and are mapped, all of it stands for the state after the call.
abbrev pub ZeroStands : Type 0
ZeroStands =
    (k : ℕ) (words : List ℕ) (G : Ground) (S : State) (hart base n gpa : ℕ) (old : Tvm) (model : ModelTvm)
    (frames : List (List ℕ)) (new : List ℕ) (left : Pages)
    → MayGrow words G S k base n gpa old model → FillsFrames (base / 4096) n (λ j. zeros) G.memory frames
    → left.room ≡ old.pool.room → OwnsRun words G k base n gpa old new left
    → Stands new (record G { memory = frames; tvms = with_tvm G.tvms k (record old { pool = left }) })
    (rule S hart (Zero (suc k) base n gpa)).outcome.state

-- Where they have the words of pages of the host's, and are measured, it stands for the state after that call.
abbrev pub MeasuredStands : Type 0
MeasuredStands =
    (k : ℕ) (words : List ℕ) (G : Ground) (S : State) (hart src dst n gpa : ℕ) (old : Tvm) (model : ModelTvm)
    (frames : List (List ℕ)) (new : List ℕ) (left : Pages) (measured : List (List ℕ))
    → MayGrow words G S k dst n gpa old model
    → src / 4096 + n ≤ G.pages → every is_host (src / 4096) n S.pages ≡ true
    → FillsFrames (dst / 4096) n (λ j. slice_index_or G.memory (src / 4096 + j) []) G.memory frames
    → left.room ≡ old.pool.room → OwnsRun words G k dst n gpa old new left
    → measured ≡ registers_of (model.records ++ page_records gpa (page_words_from S src n)) model.extensions
    → Stands new (record G { memory = frames; tvms = with_tvm G.tvms k (record old { pool = left; registers = measured }) })
    (rule S hart (Measured (suc k) src dst n gpa)).outcome.state
