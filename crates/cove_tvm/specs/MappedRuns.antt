-- A run of guest pages of a TVM that are mapped one after another: what it needs of the words, and what is true after some of it.
use Rattle.std.specs.Prelude.{◌≡◌, ◌≢◌, ℕ, zero, suc, ◌+◌, ◌-◌, ◌^◌, ◌<◌, ◌≤◌, ◌⊎◌, Bool, List, Contains, length, slice_index}
use Rattle.cove_base.specs.Places.{all_words, table_word}
use Rattle.cove_base.specs.Stores.{stored}
use Rattle.cove_base.specs.Tables.{Slot, IsLinkSlot, IsPool, IsSlot, entry_at, leaf_at, next_table, present, slots_at}
use Rattle.cove_model.specs.LawfulStores.{IsBehindLeaf, IsTableOf, MakesLawful}
use Rattle.cove_model.specs.TableLaw.{shared_leaves, shared_once}
use Rattle.cove_stage2.specs.Changes.{ChangesLeaf, IsOnWay, NamesWay}
use Rattle.cove_stage2.specs.Lacked.{LacksRest, tables_lacked}
use Rattle.cove_stage2.specs.MapStores.{map_stores, pool_left}
use Rattle.cove_tvm.specs.TvmStands.{AreTables}

-- how often the leaves of n pages from a first one on name a page as shared
abbrev pub shown : (first n : ℕ) (shared : Bool) (page : ℕ) → ℕ
shown first zero shared page = 0
shown first (suc n) shared page = shown first n shared page + shared_once page (present (first + n) shared)

-- n guest pages from g on may be mapped to the pages from p on: none has a leaf yet, each page stands behind its leaf, and the
-- pool has the tables that are missing
pub record MayMap (pages harts : ℕ) (words : List ℕ) (t root leaves : ℕ) (pool : List ℕ) (g p n : ℕ) (shared : Bool) : Type 0 where
  pub size : length words ≡ all_words pages harts
  pub few : pages ≤ 2 ^ 16
  pub tables : AreTables pages harts words t root leaves pool
  pub guests : g + n ≤ slots_at leaves
  pub inside : p + n ≤ pages
  pub absent : (j : ℕ) → j < n → leaf_at pages root leaves words (g + j) ≡ 0
  pub behind : (j : ℕ) → j < n → IsBehindLeaf words t (p + j) shared
  pub enough : tables_lacked pages root words leaves g n ≤ length pool

-- The first i of them are mapped, whatever the words and the pool were: their leaves are there, the slots on their ways name
-- tables, and nothing else changes in the tree; the pool lost the tables that were linked; the words that are none of the
-- TVM's tables stay; and the stores were lawful.
pub record AreMapped (pages harts t root leaves g p n i : ℕ) (shared : Bool) (old pool new left : List ℕ) : Type 0 where
  pub size : length new ≡ length old
  pub tables : AreTables pages harts new t root leaves left
  pub here : (j : ℕ) → j < i → leaf_at pages root leaves new (g + j) ≡ present (p + j) shared
  pub others :
      (h : ℕ) → h < slots_at leaves → (h < g) ⊎ (g + i ≤ h)
      → leaf_at pages root leaves new h ≡ leaf_at pages root leaves old h
  pub kept :
      (a : Slot) → IsLinkSlot leaves a → entry_at pages root old a ≢ 0
      → entry_at pages root new a ≡ entry_at pages root old a
  pub way : (j : ℕ) (a : Slot) → j < i → IsOnWay leaves (g + j) a → entry_at pages root new a ≢ 0
  pub only :
      (a : Slot) → IsLinkSlot leaves a → ((j : ℕ) → j < i → IsOnWay leaves (g + j) a → ⊥)
      → entry_at pages root new a ≡ entry_at pages root old a
  pub found :
      (page : ℕ) → Contains pool page
      → Contains left page ⊎ ((a : Slot) × IsSlot a × (entry_at pages root new a ≡ next_table page))
  pub lost : length left + tables_lacked pages root old leaves g n ≡ length pool + tables_lacked pages root new leaves (g + i) (n - i)
  pub elsewhere :
      (place : ℕ) → ((page k : ℕ) → page < pages → k < 512 → IsTableOf old t page → place ≢ table_word pages page k)
      → slice_index new place ≡ slice_index old place
  pub counted : (page : ℕ) → shared_leaves pages new page ≡ shared_leaves pages old page + shown p i shared page
  pub lawful : (hart : ℕ) (start : List ℕ) → MakesLawful pages harts hart start old new

-- what a mapping says of the words and the pool that it leaves
pub record MapsNext (pages root leaves g p i : ℕ) (shared : Bool) (words pool new left : List ℕ) : Type 0 where
  pub stores : new ≡ stored words (map_stores pages root leaves words pool (g + i) (present (p + i) shared))
  pub leaf : ChangesLeaf pages root leaves words new (g + i) (present (p + i) shared)
  pub way : NamesWay pages root leaves words new (g + i)
  pub pool_is : left ≡ pool_left pages root words pool leaves (g + i)
  pub lost : length left + tables_lacked pages root words leaves (g + i) 1 ≡ length pool
  pub spare : IsPool pages root new left
  pub rest : LacksRest pages root leaves words new (g + i)

-- Before a run is mapped none of it is; each mapping goes on by one; and what a mapping needs is there.
abbrev pub RunBegins : Type 0
RunBegins =
    (pages harts t root leaves g p n : ℕ) (shared : Bool) (words pool : List ℕ)
    → MayMap pages harts words t root leaves pool g p n shared
    → AreMapped pages harts t root leaves g p n 0 shared words pool words pool

abbrev pub RunGoesOn : Type 0
RunGoesOn =
    (pages harts t root leaves g p n i : ℕ) (shared : Bool) (old pool words left new rest : List ℕ)
    → i < n → MayMap pages harts old t root leaves pool g p n shared
    → AreMapped pages harts t root leaves g p n i shared old pool words left
    → MapsNext pages root leaves g p i shared words left new rest
    → AreMapped pages harts t root leaves g p n (i + 1) shared old pool new rest
