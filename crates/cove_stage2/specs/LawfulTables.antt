-- The stores of the calls on tables are lawful, whatever the words at the last entry were.
use Rattle.std.specs.Prelude.{◌≡◌, ◌≢◌, ℕ, ◌^◌, ◌<◌, ◌≤◌, Bool, List, [], length, slice_index}
use Rattle.cove_base.specs.PageWords.{given}
use Rattle.cove_base.specs.Places.{page_word}
use Rattle.cove_base.specs.Stores.{AllAllowed, stored}
use Rattle.cove_base.specs.TableWords.{blocked}
use Rattle.cove_base.specs.Tables.{Slot, IsLeaf, IsPool, IsSlot, IsTree, entry_at, leaf_at, next_table, present, slots_at}
use Rattle.cove_base.specs.declared.numbers.Role.TheVariants.{Table}
use Rattle.cove_model.specs.LawfulStores.{AreInsideAbove, IsBehindLeaf, IsLawful, IsLeft, IsRoot, IsTableOf}
use Rattle.cove_model.specs.WordsStand.{number_in}
use Rattle.cove_stage2.specs.Changes.{clear_stores, leaf_stores, unblocked}
use Rattle.cove_stage2.specs.Lacked.{tables_lacked}
use Rattle.cove_stage2.specs.MapStores.{map_stores, pool_left}

-- a TVM has these tables: its root is the TVM's, and the pages that its slots name and those of the pool are given to it for tables
pub record AreGiven (pages : ℕ) (words : List ℕ) (tvm root : ℕ) (pool : List ℕ) : Type 0 where
  pub root_is : IsRoot pages words tvm root
  pub linked :
      (a : Slot) (page : ℕ) → IsSlot a → entry_at pages root words a ≡ next_table page
      → slice_index words (page_word page) ≡ given tvm Table
  pub spare : (k : ℕ) → k < length pool → slice_index words (page_word (slice_index pool k)) ≡ given tvm Table

-- the stores of a mapping, where the page stands behind the leaf and the pool has the tables that are missing
abbrev pub MapIsLawful : Type 0
MapIsLawful =
    (pages harts hart : ℕ) (old words pool : List ℕ) (tvm root leaves g page : ℕ) (shared : Bool)
    → g < slots_at leaves → page < pages → IsTree pages root leaves words → IsPool pages root words pool
    → AreGiven pages words tvm root pool → leaf_at pages root leaves words g ≡ 0
    → tables_lacked pages root words leaves g 1 ≤ length pool → IsBehindLeaf words tvm page shared
    → AllAllowed (IsLawful pages harts hart old) words (map_stores pages root leaves words pool g (present page shared))

-- the store that blocks a leaf with the TVM's number, where the leaf was there at the last entry
abbrev pub BlockIsLawful : Type 0
BlockIsLawful =
    (pages harts hart : ℕ) (old words : List ℕ) (tvm root leaves g page : ℕ) (shared : Bool)
    → g < slots_at leaves → page < 2 ^ 16 → IsTree pages root leaves words → AreGiven pages words tvm root []
    → leaf_at pages root leaves words g ≡ present page shared → leaf_at pages root leaves old g ≡ present page shared
    → AllAllowed (IsLawful pages harts hart old) words
    (leaf_stores pages root leaves words g (blocked (leaf_at pages root leaves words g) (number_in pages harts words tvm)))

-- the store that unblocks a leaf
abbrev pub UnblockIsLawful : Type 0
UnblockIsLawful =
    (pages harts hart : ℕ) (old words : List ℕ) (tvm root leaves g page : ℕ) (shared : Bool) (since : ℕ)
    → g < slots_at leaves → page < 2 ^ 16 → IsTree pages root leaves words → AreGiven pages words tvm root []
    → leaf_at pages root leaves words g ≡ blocked (present page shared) since
    → AllAllowed (IsLawful pages harts hart old) words (leaf_stores pages root leaves words g (unblocked (leaf_at pages root leaves words g)))

-- the store that takes a blocked leaf away, where a fence came after it and every hart inside entered after that
abbrev pub UnmapIsLawful : Type 0
UnmapIsLawful =
    (pages harts hart : ℕ) (old words : List ℕ) (tvm root leaves g page : ℕ) (shared : Bool) (since : ℕ)
    → g < slots_at leaves → page < 2 ^ 16 → IsTree pages root leaves words → AreGiven pages words tvm root []
    → leaf_at pages root leaves words g ≡ blocked (present page shared) since
    → since < number_in pages harts words tvm → AreInsideAbove pages harts words tvm since
    → AllAllowed (IsLawful pages harts hart old) words (leaf_stores pages root leaves words g 0)

-- the stores that clear a page of a TVM's tables, where no hart is inside
abbrev pub ClearIsLawful : Type 0
ClearIsLawful =
    (pages harts hart : ℕ) (old words : List ℕ) (tvm page : ℕ)
    → page < pages → IsTableOf words tvm page → IsLeft pages harts words tvm
    → AllAllowed (IsLawful pages harts hart old) words (clear_stores pages page)

-- after a mapping the TVM has these tables, with what is left of the pool
abbrev pub MapKeepsGiven : Type 0
MapKeepsGiven =
    (pages : ℕ) (words pool : List ℕ) (tvm root leaves g page : ℕ) (shared : Bool)
    → g < slots_at leaves → page < 2 ^ 16 → IsTree pages root leaves words → IsPool pages root words pool
    → AreGiven pages words tvm root pool → tables_lacked pages root words leaves g 1 ≤ length pool
    → AreGiven pages (stored words (map_stores pages root leaves words pool g (present page shared))) tvm root
    (pool_left pages root words pool leaves g)

-- after the store of a leaf where one was, it has the tables that it had
abbrev pub LeafKeepsGiven : Type 0
LeafKeepsGiven =
    (pages : ℕ) (words pool : List ℕ) (tvm root leaves g leaf : ℕ)
    → g < slots_at leaves → IsLeaf leaf → IsTree pages root leaves words → IsPool pages root words pool
    → AreGiven pages words tvm root pool → leaf_at pages root leaves words g ≢ 0
    → AreGiven pages (stored words (leaf_stores pages root leaves words g leaf)) tvm root pool
