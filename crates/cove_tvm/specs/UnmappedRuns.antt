-- When a run of guest pages of a TVM may be mapped to pages of the board.
use Rattle.std.specs.Prelude.{◌≡◌, ℕ, suc, ◌+◌, ◌/◌, ◌≤◌, Bool, true, false, is_some, List, Some}
use Rattle.std.specs.List.{list_any}
use Rattle.cove_base.specs.Modes.{guest_limit}
use Rattle.cove_base.specs.declared.limits.TheConstants.{PAGE_LIMIT}
use Rattle.cove_model.specs.GuestPages.{missing_tables, page_run}
use Rattle.cove_model.specs.Mappings.{mapping_of}
use Rattle.cove_model.specs.Owners.{Owner, every}
use Rattle.cove_model.specs.States.{State, find_tvm}
use Rattle.cove_model.specs.Tvms.{Tvm as ModelTvm}
use Rattle.cove_tvm.specs.Stands.{Stands}
use Rattle.cove_tvm.specs.TvmTables.{live_at}
use Rattle.cove_tvm.specs.declared.ground.Ground.{Ground}
use Rattle.cove_tvm.specs.declared.machines.Tvm.{Tvm}

-- A TVM is live on both sides; the n pages from the byte address base on are on the board, and their owners pass a test; none of
-- the n guest pages from gpa on, which a tree reaches, is mapped yet, and the TVM has the tables that they need. Their kinds are not
-- looked at.
pub record MayMapOwnedBy (test : Owner → Bool) (words : List ℕ) (G : Ground) (S : State) (k base n gpa : ℕ) (old : Tvm) (model : ModelTvm) : Type 0 where
  pub stands : Stands words G S
  pub few : G.pages ≤ PAGE_LIMIT
  pub live : live_at G.tvms (suc k) ≡ Some old
  pub found : find_tvm S (suc k) ≡ Some model
  pub inside : base / 4096 + n ≤ G.pages
  pub owners : every test (base / 4096) n S.pages ≡ true
  pub near : gpa / 4096 + n ≤ guest_limit old.tables.mode
  pub unmapped : list_any (λ g. is_some (mapping_of model g)) (page_run gpa n) ≡ false
  pub enough : missing_tables model gpa n ≡ 0
