-- A board to read that is ready for a TVM, and what calls make of it: a TVM is created, and then it is given two tables.
use Rattle.std.specs.Prelude.{ℕ, List, [], ◌∷◌, map, replicate}
use Rattle.std.specs.List.{range_with_len}
use Rattle.cove_base.specs.Places.{all_words}
use Rattle.cove_base.specs.Scripts.{ScriptValue}
use Rattle.cove_base.specs.Stores.{stored}
use Rattle.cove_base.specs.declared.calls.HostCall.TheVariants.{Convert, Create, GlobalFence, Tables as TablesCall}
use Rattle.cove_base.specs.declared.modes.Mode.TheVariants.{Sv39x4}
use Rattle.cove_model.specs.Answers.{effect}
use Rattle.cove_model.specs.States.{State, opening, opening_words}
use Rattle.cove_model.specs.Tvms.{Tvm as ModelTvm, created}
use Rattle.cove_model.specs.WordLaws.{convert_stores, global_fence_stores}
use Rattle.cove_stage2.specs.declared.tables.Tables.{Tables}
use Rattle.cove_lives.specs.Examples.{begun}
use Rattle.cove_tvm.specs.MoreTables.{tables_stores}
use Rattle.cove_tvm.specs.NewTvms.{create_stores, with_new}
use Rattle.cove_tvm.specs.TvmLends.{with_tvm}
use Rattle.cove_tvm.specs.declared.ground.Ground.{Ground}
use Rattle.cove_tvm.specs.declared.machines.Tvm.{Tvm}

-- a script of nine pages and one hart, and the ground of its board before any call
abbrev pub nine_pages : ScriptValue
nine_pages = record { pages = 9; harts = 1; files = 0; key = 7 ∷ []; fills = []; lines = []; turns = [] }

abbrev pub nine_ground : Ground
nine_ground = record {
  memory = map (λ p. opening_words [] p) (range_with_len 0 9);
  tvms = record { pages = 9; tvms = [] };
  files = record { harts = 1; files = 0; states = [] };
  kicked = 0;
  key = 7 ∷ [];
  pages = 9;
  harts = 1;
  filecount = 0;
}

-- every page but page 3 goes into conversion, and a fence frees them
abbrev pub low_converted : List ℕ
low_converted = stored (replicate (all_words 9 1) 0) (convert_stores 9 (replicate (all_words 9 1) 0) 0 3)

abbrev pub all_converted : List ℕ
all_converted = stored low_converted (convert_stores 9 low_converted 0x4000 5)

abbrev pub freed_words : List ℕ
freed_words = stored all_converted (global_fence_stores 9 all_converted 0)

abbrev pub freed_state : State
freed_state = effect (effect (effect (opening nine_pages) 0 (Convert 0 3)) 0 (Convert 0x4000 5)) 0 GlobalFence

-- TVM 1 is created, with its root from page 4 on, and its state page 8
abbrev pub created_words : List ℕ
created_words = stored freed_words (create_stores 1 0x4000 0x8000)

abbrev pub created_ground : Tables → Ground
created_ground tables = record nine_ground { tvms = with_new nine_ground.tvms (begun tables) }

abbrev pub created_state : State
created_state = effect freed_state 0 (Create 0x4000 0x8000)

-- it is given pages 0 and 1 for tables
abbrev pub supplied_words : List ℕ
supplied_words = stored created_words (tables_stores 1 0 2)

abbrev pub supplied_tvm : Tables → Tvm
supplied_tvm tables = record (begun tables) { pool = record { pages = 0 ∷ 1 ∷ []; room = 9 } }

abbrev pub supplied_ground : Tables → Ground
supplied_ground tables = record (created_ground tables) { tvms = with_tvm (created_ground tables).tvms 0 (supplied_tvm tables) }

abbrev pub supplied_state : State
supplied_state = effect created_state 0 (TablesCall 1 0 2)

abbrev pub supplied_model : ModelTvm
supplied_model = record (created 1 Sv39x4 0x10009) { tables = 0 ∷ 1 ∷ [] }
