-- What more table pages of a TVM are, and that words and ground stand after they were given to it.
use Rattle.std.specs.Prelude.{◌≡◌, ℕ, suc, ◌+◌, ◌/◌, ◌≤◌, ◌++◌, List, length}
use Rattle.cove_base.specs.PageWords.{given}
use Rattle.cove_base.specs.Places.{page_word}
use Rattle.cove_base.specs.Stores.{AllAllowed, fills, stored}
use Rattle.cove_base.specs.declared.calls.HostCall.TheVariants.{Tables}
use Rattle.cove_base.specs.declared.numbers.Role.TheVariants.{Table}
use Rattle.cove_model.specs.GuestPages.{page_run}
use Rattle.cove_model.specs.HostCalls.{rule}
use Rattle.cove_model.specs.LawfulStores.{IsLawful}
use Rattle.cove_model.specs.States.{State}
use Rattle.cove_model.specs.Tvms.{Tvm as ModelTvm}
use Rattle.cove_tvm.specs.GivenRuns.{MayGive}
use Rattle.cove_tvm.specs.Stands.{Stands}
use Rattle.cove_tvm.specs.TvmLends.{with_tvm}
use Rattle.cove_tvm.specs.declared.ground.Ground.{Ground}
use Rattle.cove_tvm.specs.declared.machines.Tvm.{Tvm}

-- the pool of a TVM has the n pages from a byte address on after those that it had, and all else stays
pub record AddsTables (base n : ℕ) (old new : Tvm) : Type 0 where
  pub pages : new.pool.pages ≡ old.pool.pages ++ page_run base n
  pub room : new.pool.room ≡ old.pool.room
  pub rest : new ≡ record old { pool = new.pool }

-- the pages are given to the TVM for tables
abbrev pub tables_stores : (t base n : ℕ) → List (ℕ × ℕ)
tables_stores t base n = fills (page_word (base / 4096)) n (given t Table)

-- Where the pool of a TVM has the pages, all of it stands for the state after the call.
abbrev pub TablesStand : Type 0
TablesStand =
    (k : ℕ) (words : List ℕ) (G : Ground) (S : State) (hart base n : ℕ) (old new : Tvm) (model : ModelTvm)
    → MayGive words G S k base n old model → AddsTables base n old new
    → Stands (stored words (tables_stores (suc k) base n)) (record G { tvms = with_tvm G.tvms k new })
    (rule S hart (Tables (suc k) base n)).outcome.state

-- its stores are lawful
abbrev pub TablesAreLawful : Type 0
TablesAreLawful =
    (k : ℕ) (words : List ℕ) (G : Ground) (S : State) (hart base n : ℕ) (old : Tvm) (model : ModelTvm)
    → MayGive words G S k base n old model
    → AllAllowed (IsLawful G.pages G.harts hart words) words (tables_stores (suc k) base n)

-- and the pool has room for the pages
abbrev pub TablesFit : Type 0
TablesFit =
    (k : ℕ) (words : List ℕ) (G : Ground) (S : State) (base n : ℕ) (old : Tvm) (model : ModelTvm)
    → MayGive words G S k base n old model → length old.pool.pages + n ≤ old.pool.room
