-- Which new words leave a TVM as it stands.
use Rattle.std.specs.Prelude.{◌≡◌, ◌↔◌, ℕ, ◌<◌, ◌≤◌, List, Option, length, slice_index}
use Rattle.cove_base.specs.PageWords.{given}
use Rattle.cove_base.specs.Places.{count_word, epoch_word, page_word, table_word, tvm_word}
use Rattle.cove_base.specs.declared.numbers.Role.{Role}
use Rattle.cove_imsic.specs.FileTables.{FileTable}
use Rattle.cove_model.specs.LawfulStores.{IsTableOf}
use Rattle.cove_model.specs.States.{Seat}
use Rattle.cove_model.specs.Tvms.{Tvm as ModelTvm}
use Rattle.cove_model.specs.WordsStand.{number_in}
use Rattle.cove_tvm.specs.Entered.{is_entered_below}
use Rattle.cove_tvm.specs.TvmStands.{TvmStands}
use Rattle.cove_tvm.specs.declared.machines.Tvm.{Tvm}

-- The same pages are given to the TVM, each in its role; the words of its tables stay; so does its number; and the same harts
-- are inside it, each with its number.
pub record LeavesTvm (pages harts : ℕ) (old new : List ℕ) (t : ℕ) : Type 0 where
  pub size : length new ≡ length old
  pub page :
      (p : ℕ) (role : Role) → p < pages
      → (slice_index new (page_word p) ≡ given t role) ↔ (slice_index old (page_word p) ≡ given t role)
  pub table :
      (p i : ℕ) → p < pages → i < 512 → IsTableOf old t p
      → slice_index new (table_word pages p i) ≡ slice_index old (table_word pages p i)
  pub number : number_in pages harts new t ≡ number_in pages harts old t
  pub inside :
      (number hart : ℕ) → hart < harts
      → is_entered_below pages harts new t number hart ≡ is_entered_below pages harts old t number hart

-- The same pages are given to TVMs, each to one and in its role; and the words of tables, the numbers of TVMs and the words
-- of harts stay. So do the stores of the calls on owners, of a fence, and of the count.
pub record LeavesEveryTvm (pages harts : ℕ) (old new : List ℕ) : Type 0 where
  pub size : length new ≡ length old
  pub page :
      (p t : ℕ) (role : Role) → p < pages
      → (slice_index new (page_word p) ≡ given t role) ↔ (slice_index old (page_word p) ≡ given t role)
  pub tables : (place : ℕ) → pages ≤ place → place < epoch_word pages → slice_index new place ≡ slice_index old place
  pub rest :
      (place : ℕ) → tvm_word pages harts 0 ≤ place → place < count_word pages harts
      → slice_index new place ≡ slice_index old place

-- Words that leave a TVM leave it standing, if there is one.
abbrev pub LeftTvmsStand : Type 0
LeftTvmsStand =
    (pages harts t : ℕ) (old new : List ℕ) (seats : ℕ → Option Seat) (files : FileTable) (tvm : Option Tvm) (model : Option ModelTvm)
    → LeavesTvm pages harts old new t → TvmStands pages harts old t seats files tvm model
    → TvmStands pages harts new t seats files tvm model
