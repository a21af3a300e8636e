-- Which words and ground stand for a state of the monitor.
use Rattle.std.specs.Prelude.{◌≡◌, ℕ, ◌<◌, ◌≤◌, ◌==◌, List, length}
use Rattle.std.specs.Int.{bit_at}
use Rattle.cove_base.specs.declared.limits.TheConstants.{TVM_LIMIT}
use Rattle.cove_model.specs.Owners.{has}
use Rattle.cove_model.specs.States.{State, find_tvm}
use Rattle.cove_model.specs.TableLaw.{shared_leaves}
use Rattle.cove_model.specs.WordLaws.{Stand}
use Rattle.cove_model.specs.WordsStand.{FramesStand, maps_of}
use Rattle.cove_tvm.specs.TvmStands.{TvmStands}
use Rattle.cove_tvm.specs.TvmTables.{live_at}
use Rattle.cove_tvm.specs.declared.ground.Ground.{Ground}

-- what the ground has beside frames and TVMs: the key, the kicks, and the sizes of the board
pub record BoardStands (G : Ground) (S : State) : Type 0 where
  pub key : G.key ≡ S.key
  pub kicked : (hart : ℕ) → hart < G.harts → (bit_at G.kicked hart == 1) ≡ has hart S.kicked
  pub filecount : G.filecount ≡ S.files
  pub file_harts : G.files.harts ≡ G.harts
  pub file_count : G.files.files ≡ G.filecount
  pub tvm_pages : G.tvms.pages ≡ G.pages
  pub made : length G.tvms.tvms ≡ S.made
  pub few : S.made ≤ TVM_LIMIT

-- Words and ground stand for a state: the words and the frames do, each TVM does by its number, and each page is named by as
-- many shared leaves as the state has mappings of it.
pub record Stands (words : List ℕ) (G : Ground) (S : State) : Type 0 where
  pub words_stand : Stand G.pages G.harts words S
  pub frames : FramesStand G.memory S
  pub board : BoardStands G S
  pub tvm :
      (t : ℕ)
      → TvmStands G.pages G.harts words t S.seats G.files (live_at G.tvms t) (find_tvm S t)
  pub counted : (p : ℕ) → p < G.pages → shared_leaves G.pages words p ≡ maps_of S p
