-- Small words, mappings and states, for worked examples.
use Rattle.std.specs.Prelude.{ℕ, ◌+◌, ◌*◌, ◌^◌, List, [], ◌∷◌, ◌++◌, replicate, None}
use Rattle.cove_base.specs.Measurement.{BoardRecord, registers_of}
use Rattle.cove_model.specs.Owners.{Free}
use Rattle.cove_model.specs.States.{State}
use Rattle.cove_model.specs.Tvms.{OwnPage, Present, Mapping}
use Rattle.cove_stage2.specs.declared.tables.Tables.{Tables}
use Rattle.cove_tvm.specs.TvmTables.{TvmTable}
use Rattle.cove_tvm.specs.declared.machines.Life.TheVariants.{Building}
use Rattle.cove_tvm.specs.declared.machines.Tvm.{Tvm}

-- the words of a board of two harts without a page: hart 0 is inside TVM 1, whose number is 4, and entered with 3; hart 1 is
-- inside TVM 2
abbrev pub two_inside : List ℕ
two_inside = replicate 4 0 ++ 4 ∷ [] ++ replicate 63 0 ++ (2 ^ 32 + 3) ∷ 2 * 2 ^ 32 ∷ 0 ∷ []

-- guest page 7 is mapped to page 5 of the TVM's own
abbrev pub own_five : Mapping
own_five = record { guest = 7; backing = OwnPage 5 []; standing = Present }

-- a board of nine free pages, and no TVM yet
abbrev pub nine_free : State
nine_free = record {
  harts = 1;
  files = 0;
  key = [];
  pages = replicate 9 Free;
  unanswered = [];
  ended = 0 ∷ [];
  tvms = [];
  made = 0;
  seats = λ hart. None;
  kicked = [];
}

-- one TVM was created
abbrev pub just : Tvm → TvmTable
just tvm = record { pages = 9; tvms = tvm ∷ [] }

-- a TVM on a board of nine pages that was just created, by its tables; its state page is page 8
abbrev pub begun : Tables → Tvm
begun tables = record {
  life = Building;
  regions = record { regions = []; rows = [] };
  registers = registers_of (BoardRecord 0x10009 ∷ []) [];
  allowed = 0;
  tables = tables;
  pool = record { pages = []; room = 9 };
  state = record { 0 = 8 };
  v0 = None;
  v1 = None;
  v2 = None;
  v3 = None;
}
