use Rattle.std.proofs.Common.{◌≡◌, ℕ, refl, arith, true, false}
use Rattle.cove_base.specs.Tables.{IsLeaf, IsAbsent, IsPresent, IsBlocked, next_table}
use Rattle.cove_stage2.specs.declared.entries.Leaf.{Leaf}
use Rattle.cove_stage2.specs.declared.entries.Leaf.TheVariants.{Absent, Present, Blocked}
use Rattle.cove_stage2.specs.declared.entries.TableEntry.{TableEntry}
use Rattle.cove_stage2.specs.declared.entries.TableEntry.TheVariants.{Leaf as LeafEntry, Next}
use Rattle.cove_stage2.specs.Entries.{leaf_word, IsBoundedLeaf, entry_word, IsBoundedEntry, IsEntryWord, OfLeaf, OfTable}

-- the word of a leaf within its limits is a leaf
pub is_leaf : (leaf : Leaf) → IsBoundedLeaf leaf → IsLeaf (leaf_word leaf)
is_leaf Absent h = IsAbsent refl
is_leaf (Present page shared) h = IsPresent page.0 shared h refl
is_leaf (Blocked page shared since) h = IsBlocked page.0 shared since h.0 h.1 refl

-- the word of an entry within its limits is the word of one
pub is_entry_word : (entry : TableEntry) → IsBoundedEntry entry → IsEntryWord (entry_word entry)
is_entry_word (LeafEntry leaf) h = OfLeaf (is_leaf leaf h)
is_entry_word (Next page) h = OfTable page.0 h refl

-- a next table is no leaf
pub table_no_leaf : (page word : ℕ) → next_table page ≡ word → IsLeaf word → ⊥
table_no_leaf page word e (IsAbsent is) = omega arith
table_no_leaf page word e (IsPresent q false h is) = omega arith
table_no_leaf page word e (IsPresent q true h is) = omega arith
table_no_leaf page word e (IsBlocked q false since h k is) = omega arith
table_no_leaf page word e (IsBlocked q true since h k is) = omega arith
