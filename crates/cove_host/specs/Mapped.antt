-- A run of guest pages that a call maps.
use Rattle.std.specs.Prelude.{◌≡◌, ℕ, Bool, List}
use Rattle.cove_base.specs.Modes.{leaves_of}
use Rattle.cove_model.specs.LawfulStores.{AllowsLawful}
use Rattle.cove_stage2.specs.MapStores.{Pages}
use Rattle.cove_tvm.specs.MappedRuns.{AreMapped, MayMap}
use Rattle.cove_tvm.specs.declared.machines.Tvm.{Tvm}

-- a run may be mapped for some TVM of the board, by a test that allows what is lawful for a hart
pub record MayMapBy (allows : List ℕ → ℕ → ℕ → Type 0) (pages root leaves g p n : ℕ) (shared : Bool) (words pool : List ℕ) : Type 0 where
  pub harts : ℕ
  pub tvm : ℕ
  pub hart : ℕ
  pub start : List ℕ
  pub may : MayMap pages harts words tvm root leaves pool g p n shared
  pub lawful : AllowsLawful allows pages harts hart start

-- the first i guest pages of the run are mapped, for whichever TVM it could be
abbrev pub MapsRun : (pages root leaves g p n i : ℕ) (shared : Bool) (old pool new left : List ℕ) → Type 0
MapsRun pages root leaves g p n i shared old pool new left =
    (harts t : ℕ) → MayMap pages harts old t root leaves pool g p n shared
    → AreMapped pages harts t root leaves g p n i shared old pool new left

-- a TVM whose run was mapped: its pool is what is left, and all else stays
pub record MapsIn (g p n : ℕ) (shared : Bool) (words new : List ℕ) (old now : Tvm) : Type 0 where
  pub left : Pages
  pub rest : now ≡ record old { pool = left }
  pub room : left.room ≡ old.pool.room
  pub mapped : MapsRun old.tables.pages old.tables.root.0 (leaves_of old.tables.mode) g p n n shared words old.pool.pages new left.pages
