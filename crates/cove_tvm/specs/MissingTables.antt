-- How many table pages a TVM misses for a run of mappings, by its tables and its pool.
use Rattle.std.specs.Prelude.{◌≡◌, ℕ, ◌+◌, ◌-◌, ◌/◌, ◌≤◌, List, length}
use Rattle.cove_base.specs.Modes.{leaves_of}
use Rattle.cove_base.specs.Tables.{slots_at}
use Rattle.cove_model.specs.GuestPages.{missing_tables}
use Rattle.cove_model.specs.Tvms.{Tvm as ModelTvm}
use Rattle.cove_stage2.specs.Lacked.{tables_lacked}
use Rattle.cove_tvm.specs.TvmStands.{AreMappings}

-- Where its mappings stand, a TVM misses the tables that a run lacks by the words, but for the pages of its pool.
abbrev pub MissingTablesAgree : Type 0
MissingTablesAgree =
    (pages harts t root leaves gpa n : ℕ) (words pool : List ℕ) (model : ModelTvm)
    → leaves ≡ leaves_of model.mode → AreMappings pages harts words t root leaves pool model
    → gpa / 4096 + n ≤ slots_at leaves
    → missing_tables model gpa n ≡ tables_lacked pages root words leaves (gpa / 4096) n - length pool
