-- What the end of a TVM needs of words and of the TVM, and what it leaves.
use Rattle.std.specs.Prelude.{◌≡◌, ℕ, true, List, Option}
use Rattle.cove_base.specs.Modes.{leaves_of}
use Rattle.cove_clear.specs.Clearing.{IsBeingCleared}
use Rattle.cove_imsic.specs.FileTables.{FileTable}
use Rattle.cove_model.specs.LawfulStores.{AllowsLawful, MakesLawful}
use Rattle.cove_model.specs.States.{Seat}
use Rattle.cove_model.specs.Tvms.{Tvm as ModelTvm}
use Rattle.cove_tvm.specs.DestroyedTvms.{Destroys}
use Rattle.cove_tvm.specs.Lives.{is_gone}
use Rattle.cove_tvm.specs.TvmStands.{LiveStands}
use Rattle.cove_tvm.specs.declared.machines.Tvm.{Tvm}

-- a TVM stands on the words and may be destroyed
pub record IsEnding (harts : ℕ) (words : List ℕ) (t : ℕ) (tvm : Tvm) : Type 0 where
  pub seats : ℕ → Option Seat
  pub files : FileTable
  pub model : ModelTvm
  pub live : LiveStands tvm.tables.pages harts words t seats files tvm model
  pub leaving : IsBeingCleared tvm.tables.pages harts words t tvm.tables.root.0 (leaves_of tvm.tables.mode) tvm.pool.pages

-- and the words allow every store that is lawful for a hart
abbrev pub MayEnd : (allows : List ℕ → ℕ → ℕ → Type 0) (words : List ℕ) → Tvm → Type 0
MayEnd allows words tvm =
    (harts : ℕ) × (t : ℕ) × (hart : ℕ) × (last : List ℕ) × IsEnding harts words t tvm × AllowsLawful allows tvm.tables.pages harts hart last

-- the TVM is gone, and with it what it had, by lawful stores
pub record HasEnded (old new : List ℕ) (tvm gone : Tvm) : Type 0 where
  pub is_over : is_gone gone.life ≡ true
  pub destroys : (harts t : ℕ) → IsEnding harts old t tvm → Destroys tvm.tables.pages old new t
  pub lawful : (harts t hart : ℕ) (last : List ℕ) → IsEnding harts old t tvm → MakesLawful tvm.tables.pages harts hart last old new
