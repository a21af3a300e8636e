-- The stores of a mapping: the tables that its way lacks, the upper ones first, and then the leaf.
use Rattle.std.specs.Prelude.{ℕ, zero, suc, ◌-◌, ◌/◌, List, [], ◌∷◌, ◌++◌, take, length, slice_index}
use Rattle.cove_base.specs.Stores.{stored}
use Rattle.cove_base.specs.Tables.{Slot, At, entry_at, entry_in, next_table}
use Rattle.cove_stage2.specs.Changes.{slot_place}

-- a pool: its pages, and how many it has room for
pub record Pages : Type 0 where
  pub pages : List ℕ
  pub room : ℕ

-- the page that leaves the pool next
abbrev pub next_page : (pool : List ℕ) → ℕ
next_page pool = slice_index pool (length pool - 1)

-- the store that links the next page at a place, where the entry there is 0
abbrev pub link_stores : (entry place : ℕ) (pool : List ℕ) → List (ℕ × ℕ)
link_stores zero place pool = (place, next_table (next_page pool)) ∷ []
link_stores (suc entry) place pool = []

-- what is left of the pool
abbrev pub pool_after : (entry : ℕ) (pool : List ℕ) → List ℕ
pool_after zero pool = take (length pool - 1) pool
pool_after (suc entry) pool = pool

-- what links the table of a slot
abbrev pub slot_stores : (pages root : ℕ) (words : List ℕ) (pool : List ℕ) → Slot → List (ℕ × ℕ)
slot_stores pages root words pool a = link_stores (entry_at pages root words a) (slot_place pages root words a) pool

-- what is left of the pool after the way to a slot was linked
abbrev pub pool_left : (pages root : ℕ) (words pool : List ℕ) (depth n : ℕ) → List ℕ
pool_left pages root words pool zero n = pool
pool_left pages root words pool (suc depth) n =
    pool_after (entry_in pages root words depth (n / 512)) (pool_left pages root words pool depth (n / 512))

-- what links the tables on the way to a slot, from the root down
abbrev pub way_stores : (pages root : ℕ) (words pool : List ℕ) (depth n : ℕ) → List (ℕ × ℕ)
way_stores pages root words pool zero n = []
way_stores pages root words pool (suc depth) n =
    let above = way_stores pages root words pool depth (n / 512) in
    above ++ slot_stores pages root (stored words above) (pool_left pages root words pool depth (n / 512)) (At depth (n / 512))

-- what maps a guest page
abbrev pub map_stores : (pages root leaves : ℕ) (words pool : List ℕ) (g leaf : ℕ) → List (ℕ × ℕ)
map_stores pages root leaves words pool g leaf =
    let way = way_stores pages root words pool leaves g in
    way ++ (slot_place pages root (stored words way) (At leaves g), leaf) ∷ []
