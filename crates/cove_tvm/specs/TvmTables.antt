-- Every TVM that was created, by its number.
use Rattle.std.specs.Prelude.{◌≡◌, ◌+◌, ◌≤◌, ℕ, zero, suc, List, [], ◌∷◌, length, Option, Some, None, slice_get, if◌then◌else◌}
use Rattle.std.specs.List.{All}
use Rattle.cove_base.specs.Measurement.{BoardRecord, registers_of}
use Rattle.cove_base.specs.declared.limits.TheConstants.{PAGE_LIMIT, TVM_LIMIT}
use Rattle.cove_base.specs.declared.modes.Mode.{Mode}
use Rattle.cove_stage2.specs.MapStores.{Pages}
use Rattle.cove_tvm.specs.Lives.{is_gone}
use Rattle.cove_tvm.specs.declared.machines.Life.TheVariants.{Building}
use Rattle.cove_tvm.specs.declared.machines.Tvm.{Tvm}

-- the number of pages of the board, and the TVMs in the order of their numbers, which begin at 1
pub record TvmTable : Type 0 where
  pub pages : ℕ
  pub tvms : List Tvm

-- a TVM, unless it was destroyed
abbrev pub unless_gone : Option Tvm → Option Tvm
unless_gone None = None
unless_gone (Some tvm) = if is_gone tvm.life then None else Some tvm

-- the live TVM with a number, for every number
abbrev pub live_at : TvmTable → (t : ℕ) → Option Tvm
live_at table zero = None
live_at table (suc k) = unless_gone (slice_get table.tvms k)

-- a TVM as it is created, with tables of a mode, on a board of so many pages and of this size in its record
pub record IsNewTvm (pages size root : ℕ) (mode : Mode) (state : ℕ) (tvm : Tvm) : Type 0 where
  pub life : tvm.life ≡ Building
  pub regions : tvm.regions ≡ record { regions = []; rows = [] }
  pub registers : tvm.registers ≡ registers_of (BoardRecord size ∷ []) []
  pub allowed : tvm.allowed ≡ 0
  pub board : tvm.tables.pages ≡ pages
  pub root_is : tvm.tables.root.0 ≡ root
  pub mode_is : tvm.tables.mode ≡ mode
  pub pool : tvm.pool.pages ≡ []
  pub room : tvm.pool.room ≡ pages
  pub state_is : tvm.state.0 ≡ state
  pub no_v0 : tvm.v0 ≡ None
  pub no_v1 : tvm.v1 ≡ None
  pub no_v2 : tvm.v2 ≡ None
  pub no_v3 : tvm.v3 ≡ None

-- an empty pool with room for every page of the board
pub record IsEmptyPool (pages : ℕ) (pool : Pages) : Type 0 where
  pub empty : pool.pages ≡ []
  pub room : pool.room ≡ pages

-- so many empty pools
pub record AreEmptyPools (pages n : ℕ) (pools : List Pages) : Type 0 where
  pub count : length pools ≡ n
  pub each : All (IsEmptyPool pages) pools

-- there is room for every TVM that may be created, and a pool for each that wasn't yet
pub record HasRoom (pages : ℕ) (tvms : List Tvm) (capacity : ℕ) (spare : List Pages) : Type 0 where
  pub board : pages ≤ PAGE_LIMIT
  pub capacity_is : TVM_LIMIT ≤ capacity
  pub count : length tvms + length spare ≡ TVM_LIMIT
  pub each : All (IsEmptyPool pages) spare
