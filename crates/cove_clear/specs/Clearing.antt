-- A TVM that is being destroyed: what is left of its tables while they are cleared, and the pages that were gathered.
use Rattle.std.specs.Prelude.{◌≡◌, ℕ, ◌^◌, ◌<◌, ◌≤◌, ◌⊎◌, Bool, true, false, List, length, slice_index, Option, Some, None}
use Rattle.cove_base.specs.PageWords.{given, host}
use Rattle.cove_base.specs.Places.{all_words, epoch_word, page_word, table_word}
use Rattle.cove_base.specs.Tables.{Slot, At, IsSlot, IsTree, Names, StandsAt, entry_at, entry_in, next_table, slots_at}
use Rattle.cove_base.specs.declared.limits.TheConstants.{PAGE_LIMIT}
use Rattle.cove_base.specs.declared.numbers.Page.{Page}
use Rattle.cove_base.specs.declared.numbers.Role.TheVariants.{Table, Data}
use Rattle.cove_model.specs.LawfulStores.{AllowsLawful, AreOwned, IsLeft, IsRoot, IsTableOf, MakesLawful}
use Rattle.cove_model.specs.Orderly.{AreDistinct}
use Rattle.cove_model.specs.Owners.{has}
use Rattle.cove_model.specs.TableLaw.{shared_leaves}

-- No hart is inside the TVM, and what its root leads to is a tree; the tables of every TVM are owned; and no two entries of the
-- TVM name one page of its memory.
pub record IsClearable (pages harts : ℕ) (words : List ℕ) (t root leaves : ℕ) : Type 0 where
  pub few : pages ≤ PAGE_LIMIT
  pub size : length words ≡ all_words pages harts
  pub left : IsLeft pages harts words t
  pub root_is : IsRoot pages words t root
  pub tree : IsTree pages root leaves words
  pub owned : (u r : ℕ) → IsRoot pages words u r → AreOwned pages words u r
  pub once :
      (a b : Slot) (p : ℕ) → IsSlot a → IsSlot b → p < pages
      → Names p false (entry_at pages root words a) → Names p false (entry_at pages root words b) → a ≡ b

-- Each page of the TVM's tables and of its memory is named by an entry, or was gathered, once; a table that was is empty.
pub record AreGathered (pages : ℕ) (words : List ℕ) (t root : ℕ) (pool : List ℕ) : Type 0 where
  pub differ : AreDistinct pool
  pub on_board : (p : ℕ) → has p pool ≡ true → p < pages
  pub own :
      (p : ℕ) → has p pool ≡ true
      → (slice_index words (page_word p) ≡ given t Table) ⊎ (slice_index words (page_word p) ≡ given t Data)
  pub empty :
      (p i : ℕ) → has p pool ≡ true → slice_index words (page_word p) ≡ given t Table → i < 512
      → slice_index words (table_word pages p i) ≡ 0
  pub unlinked : (a : Slot) (p : ℕ) → IsSlot a → entry_at pages root words a ≡ next_table p → has p pool ≡ false
  pub unmapped : (a : Slot) (p : ℕ) → IsSlot a → p < pages → Names p false (entry_at pages root words a) → has p pool ≡ false
  pub tables :
      (p : ℕ) → p < pages → slice_index words (page_word p) ≡ given t Table
      → (has p pool ≡ true) ⊎ ((a : Slot) × IsSlot a × (entry_at pages root words a ≡ next_table p))
  pub memory :
      (p : ℕ) → p < pages → slice_index words (page_word p) ≡ given t Data
      → (has p pool ≡ true) ⊎ ((a : Slot) × IsSlot a × Names p false (entry_at pages root words a))

-- each page of the host's counts the leaves that name it
abbrev pub AreCounted : (pages : ℕ) (words : List ℕ) → Type 0
AreCounted pages words =
    (p maps : ℕ) → p < pages → slice_index words (page_word p) ≡ host maps → maps ≡ shared_leaves pages words p

-- What holds of a TVM that is being destroyed, and of the pages that were gathered, before its tables are cleared and at every
-- step of it.
pub record IsBeingCleared (pages harts : ℕ) (words : List ℕ) (t root leaves : ℕ) (pool : List ℕ) : Type 0 where
  pub clearable : IsClearable pages harts words t root leaves
  pub gathered : AreGathered pages words t root pool
  pub counted : AreCounted pages words

-- Words of the TVM's tables became 0, and the counts of pages of the host's changed; every other word is as it was.
pub record Clears (pages : ℕ) (old new : List ℕ) (t : ℕ) : Type 0 where
  pub size : length new ≡ length old
  pub tables :
      (p i : ℕ) → p < pages → i < 512
      → (slice_index new (table_word pages p i) ≡ slice_index old (table_word pages p i))
      ⊎ (IsTableOf old t p × (slice_index new (table_word pages p i) ≡ 0))
  pub page :
      (p : ℕ) → p < pages
      → (slice_index new (page_word p) ≡ slice_index old (page_word p))
      ⊎ ((before : ℕ) × (after : ℕ) × (slice_index old (page_word p) ≡ host before) × (slice_index new (page_word p) ≡ host after))
  pub behind : (place : ℕ) → epoch_word pages ≤ place → slice_index new place ≡ slice_index old place

-- The words are those of a TVM that is being destroyed, and allow every store that is lawful for a hart.
abbrev pub MayBeCleared : (allows : List ℕ → ℕ → ℕ → Type 0) (pages root leaves : ℕ) (words pool : List ℕ) → Type 0
MayBeCleared allows pages root leaves words pool =
    (harts : ℕ) × (t : ℕ) × (hart : ℕ) × (last : List ℕ)
    × IsBeingCleared pages harts words t root leaves pool × AllowsLawful allows pages harts hart last

-- It is destroyed further, by lawful stores that clear words of its tables and lower counts; `pool` was gathered before, `left` is now.
pub record Goes (pages harts t root leaves : ℕ) (old pool new left : List ℕ) : Type 0 where
  pub leaving : IsBeingCleared pages harts new t root leaves left
  pub clears : Clears pages old new t
  pub lawful : (hart : ℕ) (last : List ℕ) → MakesLawful pages harts hart last old new

-- Whatever TVM of this root was being destroyed goes on to the new words and gathered pages.
abbrev pub Proceeds : (pages root leaves : ℕ) (old pool new left : List ℕ) → Type 0
Proceeds pages root leaves old pool new left =
    (harts t : ℕ) → IsBeingCleared pages harts old t root leaves pool → Goes pages harts t root leaves old pool new left

-- every entry above a depth is as it was
abbrev pub KeepsAbove : (pages root depth : ℕ) (old new : List ℕ) → Type 0
KeepsAbove pages root depth old new =
    (d n : ℕ) → d < depth → n < slots_at d → entry_in pages root new d n ≡ entry_in pages root old d n

-- every word of a page's tables is 0
abbrev pub IsEmptyTable : (pages : ℕ) (words : List ℕ) (page : ℕ) → Type 0
IsEmptyTable pages words page = (i : ℕ) → i < 512 → slice_index words (table_word pages page i) ≡ 0

-- the leaf of a guest page stands at a place
abbrev pub LeafStands : (pages root leaves : ℕ) (words : List ℕ) (place : ℕ) → Type 0
LeafStands pages root leaves words place = (g : ℕ) × (g < slots_at leaves) × StandsAt pages root words (At leaves g) place

-- the entry at a place names a page of the TVM's: a table that is empty, or a page of its memory
abbrev pub NamesOwn : (pages root : ℕ) (words : List ℕ) (place page : ℕ) → Type 0
NamesOwn pages root words place page =
    (a : Slot) × IsSlot a × StandsAt pages root words a place
    × (((entry_at pages root words a ≡ next_table page) × IsEmptyTable pages words page)
    ⊎ ((page < 2 ^ 16) × Names page false (entry_at pages root words a)))

-- the entry at a place names a page of the host's
abbrev pub NamesShared : (pages root : ℕ) (words : List ℕ) (place page : ℕ) → Type 0
NamesShared pages root words place page =
    (a : Slot) × IsSlot a × StandsAt pages root words a place × (page < 2 ^ 16) × Names page true (entry_at pages root words a)

-- the page that a leaf names, and whether it is the host's; no page where it is absent
abbrev pub NamedBy : (leaf : ℕ) → Option (Page × Bool) → Type 0
NamedBy leaf None = leaf ≡ 0
NamedBy leaf (Some named) = (named.0.0 < 2 ^ 16) × Names named.0.0 named.1 leaf
