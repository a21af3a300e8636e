-- Which stores to the shared words a hart may make while it is held.
use Rattle.std.specs.Prelude.{◌≡◌, ◌≢◌, ℕ, ◌+◌, ◌*◌, ◌^◌, ◌<◌, ◌≤◌, ◌⊎◌, Bool, true, false, List, slice_index}
use Rattle.cove_base.specs.PageWords.{host, converting, given, released}
use Rattle.cove_base.specs.Places.{page_word, table_word, epoch_word, answered_word, hart_word, tvm_word}
use Rattle.cove_base.specs.Stores.{Leads}
use Rattle.cove_base.specs.TableWords.{blocked}
use Rattle.cove_base.specs.Tables.{Slot, IsSlot, Names, StandsAt, entry_at, next_table, present}
use Rattle.cove_base.specs.declared.limits.TheConstants.{ENTRY_LIMIT, TVM_LIMIT}
use Rattle.cove_base.specs.declared.numbers.Role.{Role}
use Rattle.cove_base.specs.declared.numbers.Role.TheVariants.{Root, Table, Data}
use Rattle.cove_model.specs.WordsStand.{epoch_in, answered_in, number_in, FreeStands}

-- ---- harts inside, by the words

-- a hart is inside a TVM, by its word, and entered with this number
abbrev pub HasEntered : (pages harts : ℕ) (words : List ℕ) (tvm hart number : ℕ) → Type 0
HasEntered pages harts words tvm hart number =
    (number < 2 ^ 32) × (slice_index words (hart_word pages harts hart) ≡ 2 ^ 32 * tvm + number)

-- a hart is inside a TVM, by its word
abbrev pub IsInside : (pages harts : ℕ) (words : List ℕ) (tvm hart : ℕ) → Type 0
IsInside pages harts words tvm hart = (number : ℕ) × HasEntered pages harts words tvm hart number

-- no hart is inside a TVM
abbrev pub IsLeft : (pages harts : ℕ) (words : List ℕ) (tvm : ℕ) → Type 0
IsLeft pages harts words tvm = (hart : ℕ) → hart < harts → IsInside pages harts words tvm hart → ⊥

-- every hart inside a TVM entered with a number above this one
abbrev pub AreInsideAbove : (pages harts : ℕ) (words : List ℕ) (tvm since : ℕ) → Type 0
AreInsideAbove pages harts words tvm since =
    (hart number : ℕ) → hart < harts → HasEntered pages harts words tvm hart number → since < number

-- ---- tables of a TVM, by the words

-- the root of a TVM's tables: the first of four pages that are given to it as one
pub record IsRoot (pages : ℕ) (words : List ℕ) (tvm root : ℕ) : Type 0 where
  pub fits : root + 4 ≤ pages
  pub roots : (i : ℕ) → i < 4 → slice_index words (page_word (root + i)) ≡ given tvm Root
  pub least : (p : ℕ) → p < root → slice_index words (page_word p) ≢ given tvm Root

-- an entry of the TVM, at whatever depth, names the page as a leaf, present or blocked
abbrev pub LeafNames : (pages : ℕ) (words : List ℕ) (tvm page : ℕ) → Type 0
LeafNames pages words tvm page =
    (root : ℕ) × IsRoot pages words tvm root
    × ((a : Slot) × IsSlot a × ((shared : Bool) × Names page shared (entry_at pages root words a)))

-- a page has words of the tables of a TVM: it is given to it as a root or for tables
abbrev pub IsTableOf : (words : List ℕ) (tvm page : ℕ) → Type 0
IsTableOf words tvm page =
    (slice_index words (page_word page) ≡ given tvm Root) ⊎ (slice_index words (page_word page) ≡ given tvm Table)

-- what stands behind a leaf: a page of the TVM's memory, or one of the host's that is mapped
abbrev pub IsBehindLeaf : (words : List ℕ) (tvm page : ℕ) (shared : Bool) → Type 0
IsBehindLeaf words tvm page false = slice_index words (page_word page) ≡ given tvm Data
IsBehindLeaf words tvm page true = (maps : ℕ) × (0 < maps) × (slice_index words (page_word page) ≡ host maps)

-- The tables of a TVM are owned: each page that an entry names as a table is given to the TVM for tables, no two entries name
-- one, and each page that an entry names as a leaf, present or blocked, stands behind it. That holds of entries at any depth.
pub record AreOwned (pages : ℕ) (words : List ℕ) (tvm root : ℕ) : Type 0 where
  pub root_is : IsRoot pages words tvm root
  pub linked :
      (a : Slot) (page : ℕ) → IsSlot a → entry_at pages root words a ≡ next_table page
      → (page < pages) × (slice_index words (page_word page) ≡ given tvm Table)
  pub apart :
      (a b : Slot) (page : ℕ) → IsSlot a → IsSlot b
      → entry_at pages root words a ≡ next_table page → entry_at pages root words b ≡ next_table page → a ≡ b
  pub backed :
      (a : Slot) (page : ℕ) (shared : Bool) → IsSlot a → page < 2 ^ 16 → Names page shared (entry_at pages root words a)
      → (page < pages) × IsBehindLeaf words tvm page shared

-- How a word in the tables of a TVM may change, by what it was, what it becomes and where it stands.
pub data TableChange (pages harts : ℕ) (words : List ℕ) (tvm : ℕ) (old : List ℕ) (place was word : ℕ) : Type 0 where
  -- a table is linked in: a page that is given for tables, that no slot names, and whose words are 0
  Links :
      (page : ℕ) → was ≡ 0 → word ≡ next_table page → page < pages
      → slice_index words (page_word page) ≡ given tvm Table
      → ((root : ℕ) (a : Slot) → IsRoot pages words tvm root → IsSlot a → entry_at pages root words a ≢ next_table page)
      → ((i : ℕ) → i < 512 → slice_index words (table_word pages page i) ≡ 0)
      → TableChange pages harts words tvm old place was word
  -- a guest page is mapped to the page that stands behind it
  Maps :
      (page : ℕ) (shared : Bool) → was ≡ 0 → word ≡ present page shared → page < pages
      → IsBehindLeaf words tvm page shared
      → TableChange pages harts words tvm old place was word
  -- a leaf that was present at the last entry too is blocked, with the TVM's number
  Blocks :
      (page : ℕ) (shared : Bool) (root : ℕ) (a : Slot) → page < 2 ^ 16 → was ≡ present page shared
      → word ≡ blocked was (number_in pages harts words tvm)
      → IsRoot pages words tvm root → IsSlot a → StandsAt pages root words a place
      → entry_at pages root old a ≡ was
      → TableChange pages harts words tvm old place was word
  -- a blocked leaf is present again
  Unblocks :
      (page : ℕ) (shared : Bool) (since : ℕ) → page < 2 ^ 16 → was ≡ blocked (present page shared) since
      → word ≡ present page shared
      → TableChange pages harts words tvm old place was word
  -- a blocked leaf goes, where a fence came after it and every hart inside entered after that
  Unmaps :
      (page : ℕ) (shared : Bool) (since : ℕ) → page < 2 ^ 16 → was ≡ blocked (present page shared) since → word ≡ 0
      → since < number_in pages harts words tvm → AreInsideAbove pages harts words tvm since
      → TableChange pages harts words tvm old place was word
  -- any word changes where no hart is inside
  Rewrites : IsLeft pages harts words tvm → TableChange pages harts words tvm old place was word

-- ---- lawful stores

-- the page word is that of a free page
abbrev pub IsFreeIn : (pages harts : ℕ) (words : List ℕ) (page : ℕ) → Type 0
IsFreeIn pages harts words page =
    FreeStands harts (answered_in pages words) (slice_index words (page_word page))

-- How the word of a page may change, by what it was and what it becomes.
pub data PageChange (pages harts : ℕ) (old words : List ℕ) (page word : ℕ) : Type 0 where
  -- the count of a page of the host's changes; it becomes 0 only where no leaf names the page
  Counts :
      (before after : ℕ) → slice_index words (page_word page) ≡ host before → word ≡ host after
      → (after ≡ 0 → (tvm : ℕ) → LeafNames pages words tvm page → ⊥)
      → PageChange pages harts old words page word
  -- a page of the host's that isn't mapped, and wasn't before, goes into conversion
  Converts :
      slice_index old (page_word page) ≡ host 0 → slice_index words (page_word page) ≡ host 0
      → word ≡ converting (epoch_in pages words)
      → PageChange pages harts old words page word
  -- a free page becomes the host's, or released
  Frees :
      IsFreeIn pages harts words page → (word ≡ host 0) ⊎ (word ≡ released)
      → PageChange pages harts old words page word
  -- a free page is given to a TVM; as a root only where no hart is inside it
  Gives :
      (tvm : ℕ) (role : Role) → 1 ≤ tvm → tvm ≤ TVM_LIMIT
      → IsFreeIn pages harts words page → word ≡ given tvm role
      → (role ≡ Root → IsLeft pages harts words tvm)
      → PageChange pages harts old words page word
  -- a page is taken back from a TVM that no hart is inside
  TakesBack :
      (tvm : ℕ) (role : Role) → slice_index words (page_word page) ≡ given tvm role → word ≡ released
      → IsLeft pages harts words tvm
      → PageChange pages harts old words page word
  -- a page of a TVM's memory is taken back that no leaf of the TVM names
  Removes :
      (tvm : ℕ) → slice_index words (page_word page) ≡ given tvm Data → word ≡ released
      → (LeafNames pages words tvm page → ⊥)
      → PageChange pages harts old words page word

-- How the word of a hart may change, by what it was and what it becomes.
pub data HartChange (pages harts : ℕ) (words : List ℕ) (hart word : ℕ) : Type 0 where
  -- the hart enters a TVM, whose tables are owned, with its number
  Enters :
      (tvm root : ℕ) → 1 ≤ tvm → tvm ≤ TVM_LIMIT
      → slice_index words (hart_word pages harts hart) ≡ 0 → word ≡ 2 ^ 32 * tvm + number_in pages harts words tvm
      → AreOwned pages words tvm root
      → HartChange pages harts words hart word
  -- the hart leaves the TVM that it is inside
  Leaves : (tvm : ℕ) → IsInside pages harts words tvm hart → word ≡ 0 → HartChange pages harts words hart word

-- The stores of a hart that are lawful on these words, where the words were the old ones when the last entry was counted.
pub data IsLawful (pages harts : ℕ) (hart : ℕ) (old words : List ℕ) (place word : ℕ) : Type 0 where
  -- the word of a page changes
  ChangesPage :
      (page : ℕ) → page < pages → place ≡ page_word page → PageChange pages harts old words page word
      → IsLawful pages harts hart old words place word
  -- a word in the tables of a TVM changes
  ChangesTable :
      (tvm page i : ℕ) → page < pages → i < 512 → place ≡ table_word pages page i → IsTableOf words tvm page
      → TableChange pages harts words tvm old place (slice_index words place) word
      → IsLawful pages harts hart old words place word
  -- the hart answers the epoch
  Answers :
      hart < harts → place ≡ answered_word pages hart → word ≡ epoch_in pages words
      → IsLawful pages harts hart old words place word
  -- the epoch rises by one, where every hart has answered it
  Begins :
      place ≡ epoch_word pages → epoch_in pages words < ENTRY_LIMIT → word ≡ epoch_in pages words + 1
      → ((other : ℕ) → other < harts → epoch_in pages words ≤ answered_in pages words other)
      → IsLawful pages harts hart old words place word
  -- the number of a TVM rises by one, where no hart inside entered with a lower one
  FencesTvm :
      (tvm : ℕ) → 1 ≤ tvm → tvm ≤ TVM_LIMIT → place ≡ tvm_word pages harts tvm
      → number_in pages harts words tvm < ENTRY_LIMIT → word ≡ number_in pages harts words tvm + 1
      → ((other number : ℕ) → other < harts → HasEntered pages harts words tvm other number → number_in pages harts words tvm ≤ number)
      → IsLawful pages harts hart old words place word
  -- the word of the hart changes
  ChangesHart :
      hart < harts → place ≡ hart_word pages harts hart → HartChange pages harts words hart word
      → IsLawful pages harts hart old words place word

-- a test allows every store that is lawful for a hart, on whatever words
abbrev pub AllowsLawful : (allows : List ℕ → ℕ → ℕ → Type 0) (pages harts : ℕ) (hart : ℕ) (old : List ℕ) → Type 0
AllowsLawful allows pages harts hart old =
    (words : List ℕ) (place word : ℕ) → IsLawful pages harts hart old words place word → allows words place word

-- stores that are lawful for a hart, one after another, lead from words to words
abbrev pub MakesLawful : (pages harts : ℕ) (hart : ℕ) (old words new : List ℕ) → Type 0
MakesLawful pages harts hart old words new = Leads (IsLawful pages harts hart old) words new
