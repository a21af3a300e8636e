-- Where words and ground stand at the opening, and what leaves them standing.
use Rattle.std.specs.Prelude.{◌≡◌, ℕ, ◌+◌, ◌/◌, ◌<◌, ◌≤◌, true, List, [], replicate}
use Rattle.cove_base.specs.Places.{all_words}
use Rattle.cove_base.specs.Scripts.{ScriptValue}
use Rattle.cove_base.specs.Stores.{stored}
use Rattle.cove_base.specs.declared.calls.HostCall.TheVariants.{Convert, GlobalFence, LocalFence, Reclaim}
use Rattle.cove_model.specs.Answers.{effect}
use Rattle.cove_model.specs.Owners.{every, is_free, is_host}
use Rattle.cove_model.specs.Sound.{IsSound}
use Rattle.cove_model.specs.States.{State, opening}
use Rattle.cove_model.specs.WordLaws.{AllAnswer, Stand, convert_stores, global_fence_stores, local_fence_stores, reclaim_stores, zeroed}
use Rattle.cove_model.specs.WordsStand.{FramesStand}
use Rattle.cove_tvm.specs.Leaves.{LeavesEveryTvm}
use Rattle.cove_tvm.specs.Stands.{Stands}
use Rattle.cove_tvm.specs.declared.ground.Ground.{Ground}

-- the ground of a script's board before any call: no TVM, no kick, the frames of the opening memory
pub record IsNewGround (script : ScriptValue) (G : Ground) : Type 0 where
  pub pages : G.pages ≡ script.pages
  pub harts : G.harts ≡ script.harts
  pub filecount : G.filecount ≡ script.files
  pub key : G.key ≡ script.key
  pub no_tvm : G.tvms ≡ record { pages = script.pages; tvms = [] }
  pub no_kick : G.kicked ≡ 0
  pub file_harts : G.files.harts ≡ script.harts
  pub file_count : G.files.files ≡ script.files
  pub frames : FramesStand G.memory (opening script)

-- such a ground and words of zeros stand for the opening
abbrev pub OpeningStands : Type 0
OpeningStands =
    (script : ScriptValue) (G : Ground) → IsNewGround script G
    → Stands (replicate (all_words script.pages script.harts) 0) G (opening script)

-- two states have the same TVMs, seats, kicks, key and files
pub record KeepsTvms (S T : State) : Type 0 where
  pub tvms : T.tvms ≡ S.tvms
  pub made : T.made ≡ S.made
  pub seats : T.seats ≡ S.seats
  pub kicked : T.kicked ≡ S.kicked
  pub key : T.key ≡ S.key
  pub files : T.files ≡ S.files

-- New words and frames, of another state with the same TVMs, stand where they leave every TVM.
abbrev pub OwnersChangeStands : Type 0
OwnersChangeStands =
    (words new : List ℕ) (G : Ground) (frames : List (List ℕ)) (S T : State)
    → Stands words G S → KeepsTvms S T → LeavesEveryTvm G.pages G.harts words new
    → Stand G.pages G.harts new T → FramesStand frames T
    → Stands new (record G { memory = frames }) T

-- an accepted convert
abbrev pub ConvertStands : Type 0
ConvertStands =
    (words : List ℕ) (G : Ground) (S : State) (hart base n : ℕ)
    → 0 < G.harts → base / 4096 + n ≤ G.pages → every is_host (base / 4096) n S.pages ≡ true
    → Stands words G S
    → Stands (stored words (convert_stores G.pages words base n)) G (effect S hart (Convert base n))

-- an accepted global fence
abbrev pub GlobalFenceStands : Type 0
GlobalFenceStands =
    (words : List ℕ) (G : Ground) (S : State) (hart : ℕ)
    → hart < G.harts → AllAnswer G.pages G.harts words → Stands words G S
    → Stands (stored words (global_fence_stores G.pages words hart)) G (effect S hart GlobalFence)

-- a local fence
abbrev pub LocalFenceStands : Type 0
LocalFenceStands =
    (words : List ℕ) (G : Ground) (S : State) (hart : ℕ)
    → hart < G.harts → Stands words G S
    → Stands (stored words (local_fence_stores G.pages words hart)) G (effect S hart LocalFence)

-- an accepted reclaim, after which the frames of its pages are zeros
abbrev pub ReclaimStands : Type 0
ReclaimStands =
    (words : List ℕ) (G : Ground) (S : State) (hart base n : ℕ)
    → base / 4096 + n ≤ G.pages → every is_free (base / 4096) n S.pages ≡ true
    → IsSound S → Stands words G S
    → Stands (stored words (reclaim_stores base n)) (record G { memory = zeroed G.memory (base / 4096) n })
    (effect S hart (Reclaim base n))
