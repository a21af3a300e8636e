-- What a call that changes one leaf leaves of the tree.
use Rattle.std.specs.Prelude.{◌≡◌, ◌≢◌, ℕ, zero, suc, ◌/◌, ◌-◌, ◌%◌, ◌^◌, ◌<◌, ◌≤◌, ◌⊎◌, List, [], ◌∷◌, length, slice_index, Bool}
use Rattle.cove_base.specs.Places.{table_word}
use Rattle.cove_base.specs.Stores.{fills}
use Rattle.cove_base.specs.TableWords.{blocked}
use Rattle.cove_base.specs.Tables.{Slot, At, IsLinkSlot, slots_at, entry_at, entry_in, leaf_at, next_table, present, IsTree, IsSpare}

-- the words are a tree in which the leaf of one guest page is this one, and every other leaf is as it was
pub record ChangesLeaf (pages root leaves : ℕ) (old new : List ℕ) (g leaf : ℕ) : Type 0 where
  pub tree : IsTree pages root leaves new
  pub here : leaf_at pages root leaves new g ≡ leaf
  pub others : (h : ℕ) → h < slots_at leaves → h ≢ g → leaf_at pages root leaves new h ≡ leaf_at pages root leaves old h
  pub length : length new ≡ length old

-- every slot above the leaves is as it was, and every spare page is spare still
pub record KeepsLinks (pages root leaves : ℕ) (old new : List ℕ) : Type 0 where
  pub links : (a : Slot) → IsLinkSlot leaves a → entry_at pages root new a ≡ entry_at pages root old a
  pub spare : (page : ℕ) → IsSpare pages root old page → IsSpare pages root new page

-- a slot is above the n-th one at a depth, on the way to it from the root
abbrev pub IsOnWay : (depth n : ℕ) → Slot → Type 0
IsOnWay zero n a = ⊥
IsOnWay (suc depth) n a = (a ≡ At depth (n / 512)) ⊎ IsOnWay depth (n / 512) a

-- the slots on the way to a guest page name tables, every table stays where it was, and no other slot changes
pub record NamesWay (pages root leaves : ℕ) (old new : List ℕ) (g : ℕ) : Type 0 where
  pub way : (a : Slot) → IsOnWay leaves g a → (page : ℕ) × (entry_at pages root new a ≡ next_table page)
  pub kept :
      (a : Slot) → IsLinkSlot leaves a → entry_at pages root old a ≢ 0
      → entry_at pages root new a ≡ entry_at pages root old a
  pub others :
      (a : Slot) → IsLinkSlot leaves a → (IsOnWay leaves g a → ⊥)
      → entry_at pages root new a ≡ entry_at pages root old a

-- a leaf is present
abbrev pub IsPresentLeaf : (leaf : ℕ) → Type 0
IsPresentLeaf leaf = (page : ℕ) × (shared : Bool) × (page < 2 ^ 16) × (leaf ≡ present page shared)

-- a leaf is blocked
abbrev pub IsBlockedLeaf : (leaf : ℕ) → Type 0
IsBlockedLeaf leaf =
    (page : ℕ) × (shared : Bool) × (since : ℕ) × (page < 2 ^ 16) × (since < 2 ^ 32)
    × (leaf ≡ blocked (present page shared) since)

-- a blocked leaf as it was before it was blocked
abbrev pub unblocked : (leaf : ℕ) → ℕ
unblocked leaf = leaf % 2 ^ 26 - 0xFF

-- where the word of a slot stands, where the slot above it names a table
abbrev pub slot_place : (pages root : ℕ) (words : List ℕ) → Slot → ℕ
slot_place pages root words (At zero n) = table_word pages root n
slot_place pages root words (At (suc depth) n) =
    table_word pages (entry_in pages root words depth (n / 512) / 1024) (n % 512)

-- the one store of a leaf
abbrev pub leaf_stores : (pages root leaves : ℕ) (words : List ℕ) (g leaf : ℕ) → List (ℕ × ℕ)
leaf_stores pages root leaves words g leaf = (slot_place pages root words (At leaves g), leaf) ∷ []

-- the stores of 0 to the table words of a page
unfoldable pub clear_stores : (pages page : ℕ) → List (ℕ × ℕ)
clear_stores pages page = fills (table_word pages page 0) 512 0

-- each table word of a page is 0, and every word before or behind them is as it was
pub record ClearsPage (pages : ℕ) (old new : List ℕ) (page : ℕ) : Type 0 where
  pub zeros : (i : ℕ) → i < 512 → slice_index new (table_word pages page i) ≡ 0
  pub others :
      (place : ℕ) → (place < table_word pages page 0) ⊎ (table_word pages page 512 ≤ place)
      → slice_index new place ≡ slice_index old place
  pub length : length new ≡ length old
