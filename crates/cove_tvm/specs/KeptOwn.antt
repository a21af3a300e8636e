-- Which new words keep a TVM's pages, tables and harts, where more pages may be given to it.
use Rattle.std.specs.Prelude.{◌≡◌, ℕ, ◌<◌, List, length, slice_index}
use Rattle.cove_base.specs.PageWords.{given}
use Rattle.cove_base.specs.Places.{page_word, table_word}
use Rattle.cove_base.specs.declared.numbers.Role.{Role}
use Rattle.cove_base.specs.declared.numbers.Role.TheVariants.{Root}
use Rattle.cove_model.specs.LawfulStores.{IsTableOf}
use Rattle.cove_model.specs.WordsStand.{number_in}
use Rattle.cove_tvm.specs.Entered.{is_entered_below}

-- The pages that are given to the TVM stay so, each in its role, and no other page becomes its root; the words of its tables
-- stay; so does its number; and the same harts are inside it, each with its number.
pub record KeepsTvm (pages harts : ℕ) (old new : List ℕ) (t : ℕ) : Type 0 where
  pub size : length new ≡ length old
  pub page :
      (p : ℕ) (role : Role) → p < pages
      → slice_index old (page_word p) ≡ given t role → slice_index new (page_word p) ≡ given t role
  pub root :
      (p : ℕ) → p < pages
      → slice_index new (page_word p) ≡ given t Root → slice_index old (page_word p) ≡ given t Root
  pub table :
      (p i : ℕ) → p < pages → i < 512 → IsTableOf old t p
      → slice_index new (table_word pages p i) ≡ slice_index old (table_word pages p i)
  pub number : number_in pages harts new t ≡ number_in pages harts old t
  pub inside :
      (number hart : ℕ) → hart < harts
      → is_entered_below pages harts new t number hart ≡ is_entered_below pages harts old t number hart
