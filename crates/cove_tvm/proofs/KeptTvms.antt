-- A TVM stands still on new words that keep it.
use Rattle.std.proofs.Common.{◌≡◌, ℕ, ◌<◌, ◌∙◌, ◌==◌, false, not, List, get_or, Option, Some, None, sym, ap, subst, inl, inr}
use Rattle.cove_base.proofs.TreeLemmas.{link-slot}
use Rattle.cove_base.specs.Modes.{leaves_of}
use Rattle.cove_model.specs.Machine.{given, Role, Root, Table, Vcpu, Data, mapping_of, Seat}
use Rattle.cove_base.specs.Tables.{Slot, At, IsSlot, Names, entry_at, leaf_at}
use Rattle.cove_base.specs.declared.numbers.Role.TheVariants.{State}
use Rattle.cove_imsic.specs.FileTables.{FileTable}
use Rattle.cove_model.specs.Tvms.{Tvm as ModelTvm}
use Rattle.cove_tvm.proofs.KeptFields.{KeepsFields, fields_stay, leaf_stands}
use Rattle.cove_tvm.proofs.KeptTables.{entry_kept, tables_kept}
use Rattle.cove_tvm.specs.LeafStands.{LeafStands}
use Rattle.cove_tvm.specs.KeptOwn.{KeepsTvm}
use Rattle.cove_tvm.specs.Leaves.{LeavesTvm, LeftTvmsStand}
use Rattle.cove_tvm.specs.TvmStands.{AreFields, AreMappings, ArePages, IsFoundAs, LiveStands}
use Rattle.cove_tvm.specs.declared.machines.Tvm.{Tvm}

-- words that leave a TVM keep it
pub keeps_left : (pages harts t : ℕ) (old new : List ℕ) → LeavesTvm pages harts old new t → KeepsTvm pages harts old new t
keeps_left pages harts t old new leaves = record {
  size = leaves.size;
  page = λ p role on. (leaves.page p role on).1;
  root = λ p on. (leaves.page p Root on).0;
  table = leaves.table;
  number = leaves.number;
  inside = leaves.inside;
}

module _ (pages harts t : ℕ) (old new : List ℕ) (keeps : KeepsTvm pages harts old new t) where
  keeps_fields : KeepsFields pages harts old new t
  keeps_fields = record { page = keeps.page; number = keeps.number; inside = keeps.inside }

  module _ (seats : ℕ → Option Seat) (files : FileTable) (tvm : Tvm) (model : ModelTvm) (live : LiveStands pages harts old t seats files tvm model) where
    stays : (a : Slot) → IsSlot a → entry_at pages tvm.tables.root.0 new a ≡ entry_at pages tvm.tables.root.0 old a
    stays = entry_kept pages harts t tvm.tables.root.0 (leaves_of tvm.tables.mode) old new tvm.pool.pages keeps live.tables

    pub found_kept : (page : ℕ) (role : Role) → IsFoundAs pages harts old t tvm page role → IsFoundAs pages harts new t tvm page role
    found_kept page Root found = found
    found_kept page State found = found
    found_kept page Table (inl found) = inl found
    found_kept page Table (inr found) = inr (found.0, found.1, stays found.0 found.1 ∙ found.2)
    found_kept page Vcpu found = found
    found_kept page Data found = (found.0, found.1, subst (Names page false) (sym (stays (At (leaves_of tvm.tables.mode) found.0) found.1)) found.2)

    pub mappings_kept : AreMappings pages harts new t tvm.tables.root.0 (leaves_of tvm.tables.mode) tvm.pool.pages model
    mappings_kept = record {
      leaf = λ g low.
          subst (λ leaf. LeafStands pages harts new t leaf (mapping_of model g)) (sym (stays (At (leaves_of tvm.tables.mode) g) low))
          (leaf_stands pages harts t old new keeps_fields (leaf_at pages tvm.tables.root.0 (leaves_of tvm.tables.mode) old g) (mapping_of model g)
          (live.mappings.leaf g low));
      far = live.mappings.far;
      links = λ a slot.
          live.mappings.links a slot ∙ sym (ap (λ entry. not (entry == 0)) (stays a (link-slot (leaves_of tvm.tables.mode) a slot)));
      count = live.mappings.count;
    }

    pub fields_kept : AreFields pages harts new t seats files tvm model
    fields_kept = fields_stay pages harts t old new keeps_fields seats files tvm model live.fields

    -- the pages that it was given, where no more are
    pages_kept : ((p : ℕ) (role : Role) → p < pages → get_or new p 0 ≡ given t role → get_or old p 0 ≡ given t role) → ArePages pages harts new t tvm
    pages_kept same = record {
      state_fits = live.owned.state_fits;
      state_is = keeps.page tvm.state.0 State live.owned.state_fits live.owned.state_is;
      found = λ page role on is. found_kept page role (live.owned.found page role on (same page role on is));
    }

    live_kept : ((p : ℕ) (role : Role) → p < pages → get_or new p 0 ≡ given t role → get_or old p 0 ≡ given t role)
        → LiveStands pages harts new t seats files tvm model
    live_kept same = record {
      board = live.board;
      mode = live.mode;
      room = live.room;
      tables = tables_kept pages harts t tvm.tables.root.0 (leaves_of tvm.tables.mode) old new tvm.pool.pages keeps live.tables;
      owned = pages_kept same;
      mappings = mappings_kept;
      fields = fields_kept;
    }

pub left_tvms_stand : LeftTvmsStand
left_tvms_stand pages harts t old new seats files None None leaves stands = stands
left_tvms_stand pages harts t old new seats files None (Some model) leaves stands = absurd stands
left_tvms_stand pages harts t old new seats files (Some tvm) None leaves stands = absurd stands
left_tvms_stand pages harts t old new seats files (Some tvm) (Some model) leaves stands =
    live_kept pages harts t old new (keeps_left pages harts t old new leaves) seats files tvm model stands (λ p role on. (leaves.page p role on).0)
