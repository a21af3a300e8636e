-- How many tables a TVM misses, by its words and by the state.
use Rattle.std.proofs.Common.{◌≡◌, ◌∙◌, ℕ, ◌+◌, ◌-◌, ◌/◌, ◌≤◌, List, length, sym, ap, arith}
use Rattle.cove_base.specs.Tables.{At, slots_at}
use Rattle.cove_model.specs.Machine.{new_parts, over_levels}
use Rattle.cove_model.specs.Tvms.{Tvm as ModelTvm}
use Rattle.cove_stage2.proofs.LackedParts.{lacked_parts}
use Rattle.cove_stage2.specs.Lacked.{tables_lacked}
use Rattle.cove_tvm.specs.MissingTables.{MissingTablesAgree}
use Rattle.cove_tvm.specs.TvmStands.{AreMappings}

-- a run lacks as many tables by the words as by the state
pub lacked_agree : (pages harts t root leaves gpa n : ℕ) (words pool : List ℕ) (model : ModelTvm) → AreMappings pages harts words t root leaves pool model
    → gpa / 4096 + n ≤ slots_at leaves
    → tables_lacked pages root words leaves (gpa / 4096) n ≡ over_levels (λ level. length (new_parts model gpa n level)) leaves
lacked_agree pages harts t root leaves gpa n words pool model mappings near =
    lacked_parts pages root leaves words model gpa n near (λ d m low slot. mappings.links (At d m) (low, slot))

pub missing_agree : MissingTablesAgree
missing_agree pages harts t root leaves gpa n words pool model is mappings near =
    let lacked = lacked_agree pages harts t root leaves gpa n words pool model mappings near in
    let count = mappings.count in
    ap (λ k. over_levels (λ level. length (new_parts model gpa n level)) k - (length model.tables - over_levels (λ level. length (model.prefixes level)) k)) (sym is)
    ∙ omega (arith, lacked, count)
