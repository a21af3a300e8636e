-- Guest pages of a TVM are mapped to pages of the host's: what words and ground stand for then.
use Rattle.std.specs.Prelude.{◌≡◌, ℕ, suc, ◌+◌, ◌/◌, ◌<◌, ◌≤◌, ◌⊎◌, true, List, length, slice_index}
use Rattle.cove_base.specs.Modes.{leaves_of}
use Rattle.cove_base.specs.PageWords.{host}
use Rattle.cove_base.specs.Places.{page_word}
use Rattle.cove_base.specs.declared.calls.HostCall.TheVariants.{Shared}
use Rattle.cove_model.specs.HostCalls.{rule}
use Rattle.cove_model.specs.Owners.{is_host}
use Rattle.cove_model.specs.States.{State}
use Rattle.cove_model.specs.Orderly.{IsOrderly}
use Rattle.cove_model.specs.Tvms.{Tvm as ModelTvm}
use Rattle.cove_stage2.specs.MapStores.{Pages}
use Rattle.cove_tvm.specs.MappedRuns.{AreMapped, MayMap}
use Rattle.cove_tvm.specs.Stands.{Stands}
use Rattle.cove_tvm.specs.TvmLends.{with_tvm}
use Rattle.cove_tvm.specs.UnmappedRuns.{MayMapOwnedBy}
use Rattle.cove_tvm.specs.declared.ground.Ground.{Ground}
use Rattle.cove_tvm.specs.declared.machines.Tvm.{Tvm}

-- guest pages of a TVM may be mapped to pages of the host's
abbrev pub MayShare : (words : List ℕ) (G : Ground) (S : State) (k base n gpa : ℕ) (old : Tvm) (model : ModelTvm) → Type 0
MayShare words G S k base n gpa old model = MayMapOwnedBy is_host words G S k base n gpa old model

-- the words of n pages of the host's from one on count one mapping more, and all others stay
pub record RaisesCounts (first n : ℕ) (words new : List ℕ) : Type 0 where
  pub size : length new ≡ length words
  pub here :
      (p maps : ℕ) → first ≤ p → p < first + n
      → slice_index words (page_word p) ≡ host maps → slice_index new (page_word p) ≡ host (maps + 1)
  pub others : (place : ℕ) → (place < first) ⊎ (first + n ≤ place) → slice_index new place ≡ slice_index words place

-- Where the counts were raised, the run may be mapped.
abbrev pub CountsMayMap : Type 0
CountsMayMap =
    (k : ℕ) (words raised : List ℕ) (G : Ground) (S : State) (base n gpa : ℕ) (old : Tvm) (model : ModelTvm)
    → MayShare words G S k base n gpa old model → RaisesCounts (base / 4096) n words raised
    → MayMap G.pages G.harts raised (suc k) old.tables.root.0 (leaves_of old.tables.mode) old.pool.pages (gpa / 4096) (base / 4096) n true

-- And where it is mapped then, all of it stands for the state after the call.
abbrev pub SharedStands : Type 0
SharedStands =
    (k : ℕ) (words raised new : List ℕ) (G : Ground) (S : State) (hart base n gpa : ℕ) (old : Tvm) (model : ModelTvm) (left : Pages)
    → MayShare words G S k base n gpa old model → IsOrderly S → RaisesCounts (base / 4096) n words raised
    → left.room ≡ old.pool.room
    → AreMapped G.pages G.harts (suc k) old.tables.root.0 (leaves_of old.tables.mode) (gpa / 4096) (base / 4096) n n true raised old.pool.pages new left.pages
    → Stands new (record G { tvms = with_tvm G.tvms k (record old { pool = left }) })
    (rule S hart (Shared (suc k) base n gpa)).outcome.state
