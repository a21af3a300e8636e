use Rattle.std.specs.Prelude.{◌≡◌, ℕ, ◌^◌, ◌<◌}
use Rattle.cove_base.specs.TableWords.{blocked}
use Rattle.cove_base.specs.Tables.{next_table, present, IsLeaf}
use Rattle.cove_stage2.specs.declared.entries.Leaf.{Leaf}
use Rattle.cove_stage2.specs.declared.entries.Leaf.TheVariants.{Absent, Present, Blocked}
use Rattle.cove_stage2.specs.declared.entries.TableEntry.{TableEntry}
use Rattle.cove_stage2.specs.declared.entries.TableEntry.TheVariants.{Leaf as LeafEntry, Next}

-- the word of a leaf
abbrev pub leaf_word : Leaf → ℕ
leaf_word Absent = 0
leaf_word (Present page shared) = present page.0 shared
leaf_word (Blocked page shared since) = blocked (present page.0 shared) since

-- the numbers of a leaf are within their limits
abbrev pub IsBoundedLeaf : Leaf → Type 0
IsBoundedLeaf Absent = Unit {0}
IsBoundedLeaf (Present page shared) = page.0 < 2 ^ 16
IsBoundedLeaf (Blocked page shared since) = (page.0 < 2 ^ 16) × (since < 2 ^ 32)

-- the word of an entry
abbrev pub entry_word : TableEntry → ℕ
entry_word (LeafEntry leaf) = leaf_word leaf
entry_word (Next page) = next_table page.0

-- the numbers of an entry are within their limits
abbrev pub IsBoundedEntry : TableEntry → Type 0
IsBoundedEntry (LeafEntry leaf) = IsBoundedLeaf leaf
IsBoundedEntry (Next page) = page.0 < 2 ^ 16

-- a word that a table may have: a leaf, or a next table
pub data IsEntryWord (word : ℕ) : Type 0 where
  OfLeaf : IsLeaf word → IsEntryWord word
  OfTable : (page : ℕ) → page < 2 ^ 16 → word ≡ next_table page → IsEntryWord word
