-- What a call on one TVM leaves of the others, and that words and ground stand after it.
use Rattle.std.specs.Prelude.{◌≡◌, ◌≢◌, ℕ, suc, ◌<◌, ◌≤◌, false, List, Some}
use Rattle.cove_base.specs.declared.limits.TheConstants.{TVM_LIMIT}
use Rattle.cove_model.specs.States.{State, find_tvm, on_tvm}
use Rattle.cove_model.specs.TableLaw.{shared_leaves}
use Rattle.cove_model.specs.Tvms.{Tvm as ModelTvm}
use Rattle.cove_model.specs.WordLaws.{Stand}
use Rattle.cove_model.specs.WordsStand.{FramesStand, maps_of}
use Rattle.cove_tvm.specs.Leaves.{LeavesTvm}
use Rattle.cove_tvm.specs.Lives.{is_gone}
use Rattle.cove_tvm.specs.Stands.{BoardStands, Stands}
use Rattle.cove_tvm.specs.TvmLends.{with_tvm}
use Rattle.cove_tvm.specs.TvmStands.{LiveStands, TvmStands}
use Rattle.cove_tvm.specs.TvmTables.{TvmTable, live_at}
use Rattle.cove_tvm.specs.declared.ground.Ground.{Ground}
use Rattle.cove_tvm.specs.declared.machines.Tvm.{Tvm}

-- Every TVM but one is the same, on both sides, and the words leave it; and every hart is where it was.
pub record LeavesOthers (t : ℕ) (words new : List ℕ) (G : Ground) (table : TvmTable) (S T : State) : Type 0 where
  pub words_leave : (u : ℕ) → u ≢ t → u ≤ TVM_LIMIT → LeavesTvm G.pages G.harts words new u
  pub same_live : (u : ℕ) → u ≢ t → live_at table u ≡ live_at G.tvms u
  pub same_state : (u : ℕ) → u ≢ t → find_tvm T u ≡ find_tvm S u
  pub seats : T.seats ≡ S.seats

-- what new words, frames and TVMs stand for beside the TVMs that stay: the page words, the frames, the one TVM, the counts
pub record OwnPartStands (t : ℕ) (new : List ℕ) (G : Ground) (frames : List (List ℕ)) (table : TvmTable) (T : State) : Type 0 where
  pub words_stand : Stand G.pages G.harts new T
  pub frames_stand : FramesStand frames T
  pub board : BoardStands (record G { memory = frames; tvms = table }) T
  pub own : TvmStands G.pages G.harts new t T.seats G.files (live_at table t) (find_tvm T t)
  pub counted : (p : ℕ) → p < G.pages → shared_leaves G.pages new p ≡ maps_of T p

-- Where a call on one TVM leaves the others, and its own part stands, all of it stands.
abbrev pub OneTvmStands : Type 0
OneTvmStands =
    (t : ℕ) (words new : List ℕ) (G : Ground) (frames : List (List ℕ)) (table : TvmTable) (S T : State)
    → Stands words G S → LeavesOthers t words new G table S T → OwnPartStands t new G frames table T
    → Stands new (record G { memory = frames; tvms = table }) T

-- a change of a TVM that keeps its number, and what its guest pages are mapped to
pub record KeepsMappings (how : ModelTvm → ModelTvm) : Type 0 where
  pub number : (v : ModelTvm) → (how v).number ≡ v.number
  pub mappings : (v : ModelTvm) → (how v).mappings ≡ v.mappings

-- Where one live TVM is written anew and stands for a changed one, and no word and no frame changes, all of it stands.
abbrev pub FieldsChangeStand : Type 0
FieldsChangeStand =
    (k : ℕ) (words : List ℕ) (G : Ground) (S : State) (how : ModelTvm → ModelTvm) (old new : Tvm) (v : ModelTvm)
    → Stands words G S → KeepsMappings how → live_at G.tvms (suc k) ≡ Some old → find_tvm S (suc k) ≡ Some v
    → is_gone new.life ≡ false → LiveStands G.pages G.harts words (suc k) S.seats G.files new (how v)
    → Stands words (record G { tvms = with_tvm G.tvms k new }) (on_tvm (suc k) how S)
