-- When a run of pages may be given to a TVM.
use Rattle.std.specs.Prelude.{◌≡◌, ℕ, suc, ◌+◌, ◌/◌, ◌≤◌, true, List, Some}
use Rattle.cove_model.specs.Owners.{every, is_free}
use Rattle.cove_model.specs.States.{State, find_tvm}
use Rattle.cove_model.specs.Tvms.{Tvm as ModelTvm}
use Rattle.cove_tvm.specs.Stands.{Stands}
use Rattle.cove_tvm.specs.TvmTables.{live_at}
use Rattle.cove_tvm.specs.declared.ground.Ground.{Ground}
use Rattle.cove_tvm.specs.declared.machines.Tvm.{Tvm}

-- the TVM is live on both sides, and the n pages from a byte address on are on the board and free
pub record MayGive (words : List ℕ) (G : Ground) (S : State) (k base n : ℕ) (tvm : Tvm) (model : ModelTvm) : Type 0 where
  pub stands : Stands words G S
  pub live : live_at G.tvms (suc k) ≡ Some tvm
  pub found : find_tvm S (suc k) ≡ Some model
  pub inside : base / 4096 + n ≤ G.pages
  pub free : every is_free (base / 4096) n S.pages ≡ true
