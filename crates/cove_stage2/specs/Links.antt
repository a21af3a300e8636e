-- What links the tables on the way to a slot, one after another from the root down, out of a pool.
use Rattle.std.specs.Prelude.{◌≡◌, ◌≢◌, ◌<◌, ◌≤◌, ℕ, List, length}
use Rattle.cove_base.specs.Stores.{AllAllowed, stored}
use Rattle.cove_base.specs.Tables.{Slot, At, IsSlot, IsPool, IsTree, StandsAt, entry_at, next_table, slots_at}
use Rattle.cove_stage2.specs.Changes.{IsOnWay}
use Rattle.cove_stage2.specs.Lacked.{tables_lacked}
use Rattle.cove_stage2.specs.MapStores.{pool_left, way_stores}

-- the words are a tree in which a slot names a table, one that it named before is named still, and every other entry
-- is as it was
pub record LinksTable (pages root leaves : ℕ) (old new : List ℕ) (a : Slot) (page : ℕ) : Type 0 where
  pub tree : IsTree pages root leaves new
  pub named : entry_at pages root new a ≡ next_table page
  pub kept : entry_at pages root old a ≢ 0 → entry_at pages root new a ≡ entry_at pages root old a
  pub others : (b : Slot) → IsSlot b → b ≢ a → entry_at pages root new b ≡ entry_at pages root old b
  pub length : length new ≡ length old

-- the slots on the way to a slot name tables, every table stays where it was, and no other slot changes
pub record LinksWay (pages root : ℕ) (old new : List ℕ) (depth n : ℕ) : Type 0 where
  pub way : (a : Slot) → IsOnWay depth n a → (page : ℕ) × (entry_at pages root new a ≡ next_table page)
  pub kept :
      (a : Slot) → IsSlot a → entry_at pages root old a ≢ 0
      → entry_at pages root new a ≡ entry_at pages root old a
  pub others :
      (a : Slot) → IsSlot a → (IsOnWay depth n a → ⊥)
      → entry_at pages root new a ≡ entry_at pages root old a

-- the tables that the way to a slot lacks may be linked: the pool has them, and their stores are allowed
pub record MayLinkWay (pages root leaves : ℕ) (allows : List ℕ → ℕ → ℕ → Type 0) (words pool : List ℕ) (depth n : ℕ) : Type 0 where
  pub deep : depth ≤ leaves
  pub slot : n < slots_at depth
  pub tree : IsTree pages root leaves words
  pub spare : IsPool pages root words pool
  pub enough : tables_lacked pages root words depth n 1 ≤ length pool
  pub allowed : AllAllowed allows words (way_stores pages root words pool depth n)

-- they were linked, with what is left of the pool, and the slot stands at a place
pub record LinkedWay (pages root leaves : ℕ) (old pool new left : List ℕ) (depth n place : ℕ) : Type 0 where
  pub stores : new ≡ stored old (way_stores pages root old pool depth n)
  pub pool_is : left ≡ pool_left pages root old pool depth n
  pub tree : IsTree pages root leaves new
  pub spare : IsPool pages root new left
  pub way : LinksWay pages root old new depth n
  pub at : StandsAt pages root new (At depth n) place
  pub length : length new ≡ length old
