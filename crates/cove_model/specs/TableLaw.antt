-- What lawful stores leave of the tables of a TVM that a hart is inside, and of what that hart relies on.
use Rattle.std.specs.Prelude.{◌≡◌, ◌≢◌, ℕ, ◌+◌, ◌*◌, ◌/◌, ◌%◌, ◌^◌, ◌<◌, ◌≤◌, ◌⊎◌, ◌==◌, ◌&&◌, ◌||◌, Bool, false, List, [], ◌∷◌, Contains, Some, count_by, drop, length, slice_index, slice_set, take}
use Rattle.cove_base.specs.HartValues.{Holding, Way}
use Rattle.cove_base.specs.Places.{all_words, table_word}
use Rattle.cove_base.specs.Rings.{found}
use Rattle.cove_base.specs.TableWords.{blocked}
use Rattle.cove_base.specs.Tables.{Slot, IsSlot, entry_at, leaf_at, next_table, present, slots_at}
use Rattle.cove_base.specs.declared.limits.TheConstants.{ENTRY_LIMIT, TVM_LIMIT}
use Rattle.cove_base.specs.declared.numbers.Page.{Page}
use Rattle.cove_model.specs.LawfulCounts.{counted}
use Rattle.cove_model.specs.LawfulStores.{AreOwned, HasEntered, IsInside, IsLawful, MakesLawful}
use Rattle.cove_model.specs.WordsStand.{FencesWithin, number_in}

-- no hart inside a TVM entered with a number above the TVM's
abbrev pub EntersWithin : (pages harts : ℕ) (words : List ℕ) → Type 0
EntersWithin pages harts words =
    (tvm hart number : ℕ) → 1 ≤ tvm → tvm ≤ TVM_LIMIT → hart < harts → HasEntered pages harts words tvm hart number
    → number ≤ number_in pages harts words tvm

-- a hart that entered with a number may reach a page by a leaf: it is present, or blocked since no lower number
abbrev pub MayReach : (number page : ℕ) (shared : Bool) (leaf : ℕ) → Type 0
MayReach number page shared leaf =
    (page < 2 ^ 16)
    × ((leaf ≡ present page shared) ⊎ ((since : ℕ) × (number ≤ since) × (leaf ≡ blocked (present page shared) since)))

-- the way of a hart begins at this root, and came by tables that a slot names
pub record IsWayBy (pages root : ℕ) (words : List ℕ) (way : Way) : Type 0 where
  pub root_is : way.root ≡ root
  pub named :
      (page : ℕ) → Contains way.tables page
      → (a : Slot) × IsSlot a × (entry_at pages root words a ≡ next_table page)

-- What a hart inside a TVM relies on, whose tables have their leaves at a depth: its word, tables that are owned, its way, and
-- that each guest page that its rings name has a leaf by which it may reach the page; by a ring of fetches a private one.
pub record IsGuestLive (pages harts : ℕ) (words : List ℕ) (tvm root leaves number : ℕ) (held : Holding) : Type 0 where
  pub low : 1 ≤ tvm
  pub high : tvm ≤ TVM_LIMIT
  pub on_board : held.hart < harts
  pub entered : HasEntered pages harts words tvm held.hart number
  pub owned : AreOwned pages words tvm root
  pub way : (way : Way) → held.way ≡ Some way → IsWayBy pages root words way
  pub fetches :
      (g : ℕ) (page : Page) → found g held.rings.fetches ≡ Some page
      → (g < slots_at leaves) × MayReach number page.0 false (leaf_at pages root leaves words g)
  pub accesses :
      (g : ℕ) (page : Page) → found g held.rings.accesses ≡ Some page
      → (g < slots_at leaves) × ((shared : Bool) × MayReach number page.0 shared (leaf_at pages root leaves words g))

-- A lawful store leaves the entering numbers within those of the TVMs.
abbrev pub StoresKeepEntered : Type 0
StoresKeepEntered =
    (pages harts hart : ℕ) (old words : List ℕ) (place word : ℕ)
    → length words ≡ all_words pages harts → FencesWithin pages harts words ENTRY_LIMIT → EntersWithin pages harts words
    → IsLawful pages harts hart old words place word → EntersWithin pages harts (slice_set words place word)

-- It leaves the tables of a TVM that a hart is inside owned, whoever makes it.
abbrev pub StoresKeepOwned : Type 0
StoresKeepOwned =
    (pages harts hart other : ℕ) (old words : List ℕ) (place word tvm root : ℕ)
    → pages ≤ 2 ^ 16 → length words ≡ all_words pages harts → other < harts → IsInside pages harts words tvm other
    → AreOwned pages words tvm root → IsLawful pages harts hart old words place word
    → AreOwned pages (slice_set words place word) tvm root

-- It leaves what every other hart inside a TVM relies on.
abbrev pub StoresKeepGuests : Type 0
StoresKeepGuests =
    (pages harts hart : ℕ) (old words : List ℕ) (place word tvm root leaves number : ℕ) (other : Holding)
    → pages ≤ 2 ^ 16 → length words ≡ all_words pages harts → EntersWithin pages harts words
    → other.hart ≢ hart → IsLawful pages harts hart old words place word
    → IsGuestLive pages harts words tvm root leaves number other
    → IsGuestLive pages harts (slice_set words place word) tvm root leaves number other

-- An entry of a TVM that a hart is inside, by which a page is mapped, is so after it, or was at the last entry: so what an
-- unused walk found there had its moment.
abbrev pub StoresKeepPresent : Type 0
StoresKeepPresent =
    (pages harts hart other : ℕ) (old words : List ℕ) (place word tvm root page : ℕ) (a : Slot) (shared : Bool)
    → length words ≡ all_words pages harts → other < harts → IsInside pages harts words tvm other
    → AreOwned pages words tvm root → IsLawful pages harts hart old words place word
    → IsSlot a → entry_at pages root words a ≡ present page shared
    → (entry_at pages root (slice_set words place word) a ≡ present page shared)
    ⊎ (entry_at pages root old a ≡ present page shared)

-- A list of lawful stores of one hart leaves what every other hart inside a TVM relies on.
abbrev pub ListsKeepGuests : Type 0
ListsKeepGuests =
    (pages harts hart : ℕ) (old words new : List ℕ) (tvm root leaves number : ℕ) (other : Holding)
    → pages ≤ 2 ^ 16 → length words ≡ all_words pages harts → FencesWithin pages harts words ENTRY_LIMIT
    → EntersWithin pages harts words → other.hart ≢ hart → MakesLawful pages harts hart old words new
    → IsGuestLive pages harts words tvm root leaves number other → IsGuestLive pages harts new tvm root leaves number other

-- So does the store of the count, for an entry of another hart.
abbrev pub CountsKeepGuests : Type 0
CountsKeepGuests =
    (pages harts : ℕ) (words : List ℕ) (tvm root leaves number : ℕ) (other : Holding)
    → IsGuestLive pages harts words tvm root leaves number other
    → IsGuestLive pages harts (counted pages harts words) tvm root leaves number other

-- ---- a TVM that is being destroyed

-- Where a word of a table becomes 0, the tables of a TVM are owned as before, in whatever order that is done.
abbrev pub ZerosKeepOwned : Type 0
ZerosKeepOwned =
    (pages harts : ℕ) (words : List ℕ) (page i tvm root : ℕ)
    → length words ≡ all_words pages harts → page < pages → i < 512
    → AreOwned pages words tvm root → AreOwned pages (slice_set words (table_word pages page i) 0) tvm root

-- ---- the count of shared mappings

-- a table word is a leaf, present or blocked, that names a page as shared
abbrev pub is_shared_leaf : (page word : ℕ) → Bool
is_shared_leaf page word =
    (word % 1024 == 0xD7 || word % 1024 == 0xD7 + 0xFF) && word / 1024 % 2 ^ 16 == page

-- how many table words name a page as shared
abbrev pub shared_leaves : (pages : ℕ) (words : List ℕ) (page : ℕ) → ℕ
shared_leaves pages words page = count_by (is_shared_leaf page) (take (512 * pages) (drop pages words))

-- 1 where a word names the page as shared
abbrev pub shared_once : (page word : ℕ) → ℕ
shared_once page word = count_by (is_shared_leaf page) (word ∷ [])

-- They are at most as many as there are table words. A store of a table word changes their number by what it was and what
-- it becomes, and any other store leaves it.
abbrev pub StoresCountShared : Type 0
StoresCountShared =
    (pages harts : ℕ) (words : List ℕ) (page : ℕ) → length words ≡ all_words pages harts
    → (shared_leaves pages words page ≤ 512 * pages)
    × ((place word : ℕ) → pages ≤ place → place < 513 * pages
    → shared_leaves pages (slice_set words place word) page + shared_once page (slice_index words place)
    ≡ shared_leaves pages words page + shared_once page word)
    × ((place word : ℕ) → (place < pages) ⊎ (513 * pages ≤ place)
    → shared_leaves pages (slice_set words place word) page ≡ shared_leaves pages words page)
