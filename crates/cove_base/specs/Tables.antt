-- What the table words of a TVM mean: a tree of tables, whose root is four pages that follow each other, and a pool of
-- spare pages. Tables of any depth are read alike; a TVM's mode says at which depth its leaves are.
use Rattle.std.specs.Prelude.{◌≡◌, ◌≢◌, ℕ, zero, suc, ◌+◌, ◌*◌, ◌/◌, ◌%◌, ◌^◌, ◌<◌, ◌≤◌, ◌⊎◌, ◌==◌, Bool, true, false, List, length, slice_index, if◌then◌else◌}
use Rattle.cove_base.specs.Places.{table_word}
use Rattle.cove_base.specs.TableWords.{private_leaf, shared_leaf, blocked}

-- the entry that names the next table
abbrev pub next_table : (page : ℕ) → ℕ
next_table page = 1024 * page + 1

-- an entry names a next table
abbrev pub is_next : (entry : ℕ) → Bool
is_next entry = entry % 1024 == 1

-- the entry at i of the table that an entry names, or 0 where it names none
unfoldable pub below : (pages : ℕ) (words : List ℕ) (entry i : ℕ) → ℕ
below pages words entry i =
    if is_next entry then slice_index words (table_word pages (entry / 1024) i) else 0

-- a slot of the tree: the n-th of all slots with so many tables above their own, of the root with none
pub data Slot : Type 0 where
  At : (depth n : ℕ) → Slot

-- how many slots there are at a depth
abbrev pub slots_at : (depth : ℕ) → ℕ
slots_at zero = 2048
slots_at (suc depth) = 512 * slots_at depth

-- a slot at any depth
abbrev pub IsSlot : Slot → Type 0
IsSlot (At depth n) = n < slots_at depth

-- a slot above the leaves, whose entry may name a table
abbrev pub IsLinkSlot : (leaves : ℕ) → Slot → Type 0
IsLinkSlot leaves (At depth n) = (depth < leaves) × (n < slots_at depth)

-- the entry of the n-th slot at a depth, which is 0 where the way to it ends early
abbrev pub entry_in : (pages root : ℕ) (words : List ℕ) (depth n : ℕ) → ℕ
entry_in pages root words zero n = slice_index words (table_word pages root n)
entry_in pages root words (suc depth) n = below pages words (entry_in pages root words depth (n / 512)) (n % 512)

-- the entry of a slot
abbrev pub entry_at : (pages root : ℕ) (words : List ℕ) → Slot → ℕ
entry_at pages root words (At depth n) = entry_in pages root words depth n

-- the leaf of a guest page, where the leaves are at this depth
abbrev pub leaf_at : (pages root leaves : ℕ) (words : List ℕ) (g : ℕ) → ℕ
leaf_at pages root leaves words g = entry_in pages root words leaves g

-- where the word of a slot stands, by the table that the slot above it names
abbrev pub StandsAt : (pages root : ℕ) (words : List ℕ) → Slot → (place : ℕ) → Type 0
StandsAt pages root words (At zero n) place = place ≡ table_word pages root n
StandsAt pages root words (At (suc depth) n) place =
    (page : ℕ) × (entry_in pages root words depth (n / 512) ≡ next_table page)
    × (place ≡ table_word pages page (n % 512))

-- the present leaf of a page, private or shared
abbrev pub present : (page : ℕ) (shared : Bool) → ℕ
present page false = private_leaf page
present page true = shared_leaf page

-- a leaf within its limits: absent, present, or blocked since a number
pub data IsLeaf (entry : ℕ) : Type 0 where
  IsAbsent : entry ≡ 0 → IsLeaf entry
  IsPresent : (page : ℕ) (shared : Bool) → page < 2 ^ 16 → entry ≡ present page shared → IsLeaf entry
  IsBlocked :
      (page : ℕ) (shared : Bool) (since : ℕ) → page < 2 ^ 16 → since < 2 ^ 32
      → entry ≡ blocked (present page shared) since → IsLeaf entry

-- a leaf names a page, private or shared, present or blocked
pub data Names (page : ℕ) (shared : Bool) (leaf : ℕ) : Type 0 where
  ByPresent : leaf ≡ present page shared → Names page shared leaf
  ByBlocked : (since : ℕ) → leaf ≡ blocked (present page shared) since → Names page shared leaf

-- a page of the board that is none of the root's
abbrev pub IsOutside : (pages root page : ℕ) → Type 0
IsOutside pages root page = (page < pages) × ((page < root) ⊎ (root + 4 ≤ page))

-- an entry above the leaves: none, or a next table
pub data IsLink (pages root entry : ℕ) : Type 0 where
  NoTable : entry ≡ 0 → IsLink pages root entry
  ATable : (page : ℕ) → IsOutside pages root page → entry ≡ next_table page → IsLink pages root entry

-- the words below the root are a tree with its leaves at a depth: what its slots may hold, and no table serves two slots
pub record IsTree (pages root leaves : ℕ) (words : List ℕ) : Type 0 where
  pub fits : root + 4 ≤ pages
  pub size : 513 * pages ≤ length words
  pub links : (a : Slot) → IsLinkSlot leaves a → IsLink pages root (entry_at pages root words a)
  pub leaf : (g : ℕ) → g < slots_at leaves → IsLeaf (leaf_at pages root leaves words g)
  pub apart :
      (a b : Slot) (page : ℕ) → IsSlot a → IsSlot b
      → entry_at pages root words a ≡ next_table page → entry_at pages root words b ≡ next_table page → a ≡ b

-- a page that may become a table: it serves no slot, and its words are 0
pub record IsSpare (pages root : ℕ) (words : List ℕ) (page : ℕ) : Type 0 where
  pub outside : IsOutside pages root page
  pub unnamed : (a : Slot) → IsSlot a → entry_at pages root words a ≢ next_table page
  pub zeros : (i : ℕ) → i < 512 → slice_index words (table_word pages page i) ≡ 0

-- the pages of a pool are spare, and differ
pub record IsPool (pages root : ℕ) (words pool : List ℕ) : Type 0 where
  pub each : (k : ℕ) → k < length pool → IsSpare pages root words (slice_index pool k)
  pub differ :
      (j k : ℕ) → j < length pool → k < length pool → slice_index pool j ≡ slice_index pool k → j ≡ k
