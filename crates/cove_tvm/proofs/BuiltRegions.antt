-- Words and ground stand after a region was added.
use Rattle.std.proofs.Common.{◌≡◌, ℕ, suc, Bool, true, false, cond, Option, Some, None, List, refl, subst}
use Rattle.std.proofs.lemmas.Option.{none-some, same_Some}
use Rattle.std.specs.List.{slice_get}
use Rattle.cove_model.specs.States.{State, find_tvm}
use Rattle.cove_model.specs.Tvms.{Tvm as ModelTvm}
use Rattle.cove_tvm.proofs.ChangedFields.{fields_change_stand}
use Rattle.cove_tvm.specs.BuiltTvms.{RegionStands, with_region}
use Rattle.cove_tvm.specs.Lives.{is_gone}
use Rattle.cove_tvm.specs.Stands.{Stands}
use Rattle.cove_tvm.specs.TvmStands.{LiveStands, TvmStands}
use Rattle.cove_tvm.specs.TvmTables.{TvmTable, live_at, unless_gone}
use Rattle.cove_tvm.specs.declared.ground.Ground.{Ground}
use Rattle.cove_tvm.specs.declared.machines.Tvm.{Tvm}

-- a live TVM isn't gone
pub live_stays : (table : TvmTable) (k : ℕ) (tvm : Tvm) → live_at table (suc k) ≡ Some tvm → is_gone tvm.life ≡ false
live_stays table k tvm live = go (slice_get table.tvms k) live
  where
    stays : (b : Bool) (one : Tvm) → is_gone one.life ≡ b → cond b None (Some one) ≡ Some tvm → is_gone tvm.life ≡ false
    stays true one is e = absurd (none-some tvm e)
    stays false one is e = subst (λ (x : Tvm). is_gone x.life ≡ false) (same_Some one tvm e) is

    go : (x : Option Tvm) → unless_gone x ≡ Some tvm → is_gone tvm.life ≡ false
    go None e = absurd (none-some tvm e)
    go (Some one) e = stays (is_gone one.life) one refl e

-- what stands for a live TVM
pub live_stands : (words : List ℕ) (G : Ground) (S : State) (t : ℕ) (tvm : Tvm) (model : ModelTvm) → Stands words G S → live_at G.tvms t ≡ Some tvm → find_tvm S t ≡ Some model
    → LiveStands G.pages G.harts words t S.seats G.files tvm model
live_stands words G S t tvm model stands live found =
    subst (λ v. TvmStands G.pages G.harts words t S.seats G.files (Some tvm) v) found
    (subst (λ x. TvmStands G.pages G.harts words t S.seats G.files x (find_tvm S t)) live (stands.tvm t))

pub region_stands : RegionStands
region_stands k words G S hart gpa len tvm model guests stands live found regions near =
    let old = live_stands words G S (suc k) tvm model stands live found in
    fields_change_stand k words G S (with_region gpa len) tvm (record tvm { regions = guests }) model stands
    (record { number = λ v. refl; mappings = λ v. refl }) live found (live_stays G.tvms k tvm live)
    (record {
      board = old.board;
      mode = old.mode;
      room = old.room;
      tables = old.tables;
      owned = record { state_fits = old.owned.state_fits; state_is = old.owned.state_is; found = old.owned.found };
      mappings = record { leaf = old.mappings.leaf; far = old.mappings.far; links = old.mappings.links; count = old.mappings.count };
      fields = record {
        life = old.fields.life;
        regions = regions;
        near = near;
        registers = old.fields.registers;
        allowed = old.fields.allowed;
        yet = old.fields.yet;
        cpu = old.fields.cpu;
      };
    })
