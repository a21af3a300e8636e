-- What the destruction of a TVM leaves of the words, and that words and ground stand after it.
use Rattle.std.specs.Prelude.{◌≡◌, ◌≢◌, ℕ, suc, ◌<◌, ◌≤◌, true, List, length, slice_index, Some}
use Rattle.cove_base.specs.PageWords.{given, host, released}
use Rattle.cove_base.specs.Places.{epoch_word, page_word, table_word}
use Rattle.cove_base.specs.declared.calls.HostCall.TheVariants.{Destroy}
use Rattle.cove_base.specs.declared.numbers.Role.{Role}
use Rattle.cove_model.specs.HostCalls.{rule}
use Rattle.cove_model.specs.LawfulStores.{IsTableOf}
use Rattle.cove_model.specs.Orderly.{IsOrderly}
use Rattle.cove_model.specs.States.{State, find_tvm}
use Rattle.cove_model.specs.TableLaw.{shared_leaves}
use Rattle.cove_model.specs.Tvms.{Tvm as ModelTvm}
use Rattle.cove_tvm.specs.Lives.{is_gone}
use Rattle.cove_tvm.specs.Stands.{Stands}
use Rattle.cove_tvm.specs.TvmLends.{with_tvm}
use Rattle.cove_tvm.specs.TvmTables.{live_at}
use Rattle.cove_tvm.specs.declared.ground.Ground.{Ground}
use Rattle.cove_tvm.specs.declared.machines.Tvm.{Tvm}

-- No word of the TVM's tables is left; its pages are taken back; each page of the host's counts the leaves that are left; and
-- every other word is as it was.
pub record Destroys (pages : ℕ) (old new : List ℕ) (t : ℕ) : Type 0 where
  pub size : length new ≡ length old
  pub tables : (p i : ℕ) → p < pages → i < 512 → IsTableOf old t p → slice_index new (table_word pages p i) ≡ 0
  pub others :
      (p i : ℕ) → p < pages → i < 512 → (IsTableOf old t p → ⊥)
      → slice_index new (table_word pages p i) ≡ slice_index old (table_word pages p i)
  pub own :
      (p : ℕ) (role : Role) → p < pages
      → slice_index old (page_word p) ≡ given t role → slice_index new (page_word p) ≡ released
  pub hosts :
      (p maps : ℕ) → p < pages
      → slice_index old (page_word p) ≡ host maps → slice_index new (page_word p) ≡ host (shared_leaves pages new p)
  pub rest :
      (p : ℕ) → p < pages
      → ((role : Role) → slice_index old (page_word p) ≢ given t role)
      → ((maps : ℕ) → slice_index old (page_word p) ≢ host maps)
      → slice_index new (page_word p) ≡ slice_index old (page_word p)
  pub behind : (place : ℕ) → epoch_word pages ≤ place → slice_index new place ≡ slice_index old place

-- Where a TVM is gone, and what it had, words and ground stand for the state after it was destroyed.
abbrev pub DestroyStands : Type 0
DestroyStands =
    (k : ℕ) (words new : List ℕ) (G : Ground) (S : State) (hart : ℕ) (old gone : Tvm) (model : ModelTvm)
    → Stands words G S → IsOrderly S → live_at G.tvms (suc k) ≡ Some old → find_tvm S (suc k) ≡ Some model
    → Destroys G.pages words new (suc k) → is_gone gone.life ≡ true
    → Stands new (record G { tvms = with_tvm G.tvms k gone }) (rule S hart (Destroy (suc k))).outcome.state
