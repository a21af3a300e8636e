-- The interrupt files of a board. Each hart has as many, numbered from 1.
use Rattle.std.specs.Prelude.{ℕ, ◌+◌, ◌-◌, ◌*◌, ◌<◌, ◌≤◌, List, Option, slice_get}
use Rattle.cove_base.specs.InterruptFiles.{InterruptFile}

-- the files of the harts one after the other, each hart's in order
pub record FileTable : Type 0 where
  pub harts : ℕ
  pub files : ℕ
  pub states : List InterruptFile

-- the board has a file of this number at this hart
pub record HasFile (table : FileTable) (hart file : ℕ) : Type 0 where
  pub known : hart < table.harts
  pub above : 1 ≤ file
  pub within : file ≤ table.files

-- what a hart's file holds
abbrev pub file_at : FileTable → (hart file : ℕ) → Option InterruptFile
file_at table hart file = slice_get table.states (hart * table.files + (file - 1))
