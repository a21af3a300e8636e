-- What a TVM, a confidential virtual machine, is made of.
use Rattle.std.specs.Prelude.{ℕ, Bool, false, List, [], ◌∷◌, Option}
use Rattle.cove_base.specs.InterruptFiles.{InterruptFile}
use Rattle.cove_base.specs.Measurement.{BoardRecord, Extension, Record}
use Rattle.cove_base.specs.declared.modes.Mode.{Mode}
use Rattle.cove_base.specs.declared.modes.Mode.TheVariants.{Sv39x4}

-- what a guest page shows: a page of the TVM's own with its words, or a page of the host's
pub data Backing : Type 0 where
  OwnPage : (page : ℕ) (words : List ℕ) → Backing
  HostPage : (page : ℕ) → Backing

-- a walk finds a mapping that is present; a blocked one may yet be used by the harts that hold a translation of it,
-- and, once a fence of the TVM was accepted, it waits for those that were inside then
pub data Standing : Type 0 where
  Present : Standing
  Blocked : (held : List ℕ) (waiting : Option (List ℕ)) → Standing

-- a guest page that is mapped
pub record Mapping : Type 0 where
  pub guest : ℕ
  pub backing : Backing
  pub standing : Standing

-- a region of a TVM's memory: its first guest page, and how many it has
pub record Area : Type 0 where
  pub first : ℕ
  pub count : ℕ

-- whether the unbinding of a vCPU began, and then those that it waits for, once a fence of the TVM was accepted
pub data Unbinding : Type 0 where
  NotBegun : Unbinding
  Begun : (waiting : Option (List ℕ)) → Unbinding

-- the file of a hart that holds a vCPU's interrupts
pub record Binding : Type 0 where
  pub hart : ℕ
  pub file : ℕ
  pub unbinding : Unbinding

-- A vCPU: its registers x0 to x31 and pc, whether a trap stopped it, the word that it fetched and did not execute yet, the
-- instructions that its run has left, its interrupt file, and where that is bound. Which hart runs it, the seats say.
pub record Cpu : Type 0 where
  pub number : ℕ
  pub x : List ℕ
  pub pc : ℕ
  pub stopped : Bool
  pub latched : Option ℕ
  pub fuel : ℕ
  pub file : InterruptFile
  pub binding : Option Binding

-- A TVM. Guest pages of its regions are private but for the shared ones. Table pages serve the leading parts of guest pages
-- that are in use, at each level above the leaves that its mode has. The records are what register 0 was extended by, the
-- extensions what registers 1 to 4 were, each with its register, and `yet` are the harts that were inside at its last fence and
-- have not left.
pub record Tvm : Type 0 where
  pub number : ℕ
  pub mode : Mode
  pub runnable : Bool
  pub regions : List Area
  pub shared : List ℕ
  pub allowed : List ℕ
  pub tables : List ℕ
  pub prefixes : (level : ℕ) → List ℕ
  pub mappings : List Mapping
  pub records : List Record
  pub extensions : List Extension
  pub yet : List ℕ
  pub cpus : List Cpu

-- a TVM of a number of which nothing is known
abbrev pub new_tvm : (number : ℕ) → Tvm
new_tvm number = record {
  number = number;
  mode = Sv39x4;
  runnable = false;
  regions = [];
  shared = [];
  allowed = [];
  tables = [];
  prefixes = λ level. [];
  mappings = [];
  records = [];
  extensions = [];
  yet = [];
  cpus = [];
}

-- a TVM as it is created on a board, with tables of a mode: its measurement begins with the board's record
abbrev pub created : (number : ℕ) → Mode → (board : ℕ) → Tvm
created number mode board = record (new_tvm number) { mode = mode; records = BoardRecord board ∷ [] }
