-- Words to read of a TVM whose guest pages are mapped, and of one that is destroyed, for worked examples.
use Rattle.std.specs.Prelude.{ℕ, ◌-◌, List, [], ◌∷◌, ◌++◌, replicate}
use Rattle.cove_base.specs.PageWords.{given, host}
use Rattle.cove_base.specs.Places.{all_words}
use Rattle.cove_base.specs.Stores.{stored}
use Rattle.cove_base.specs.TableWords.{private_leaf, shared_leaf}
use Rattle.cove_base.specs.Tables.{next_table}
use Rattle.cove_base.specs.declared.numbers.Role.TheVariants.{Root, Table, Data}

-- a board of eight pages and one hart: pages 0 and 1 are given to TVM 1 for tables, page 2 is of its memory, page 3 is the
-- host's, with a count of 1, and pages 4 to 7 are the root of its tables, of which every word is 0
abbrev pub mappable : List ℕ
mappable = (given 1 Table ∷ given 1 Table ∷ given 1 Data ∷ host 1 ∷ given 1 Root ∷ given 1 Root ∷ given 1 Root ∷ given 1 Root ∷ [])
    ++ replicate (all_words 8 1 - 8) 0

-- the way to guest page 9 is linked: the root names page 1, and page 1 names page 0
abbrev pub nine_linked : List ℕ
nine_linked = stored mappable ((2056, next_table 1) ∷ (520, next_table 0) ∷ [])

-- and guest page 9 is mapped to page 2
abbrev pub nine_mapped : List ℕ
nine_mapped = stored nine_linked ((17, private_leaf 2) ∷ [])

-- a board of three pages and one hart, by its page words and the first table words of pages 0 and 1; all else is 0
abbrev pub three_pages : (first second third leaf other : ℕ) → List ℕ
three_pages first second third leaf other =
    first ∷ second ∷ third ∷ leaf ∷ (replicate 511 0 ++ other ∷ replicate (all_words 3 1 - 516) 0)

-- page 0 is a table of TVM 1, and page 1 one of TVM 2; each has a leaf of page 2, which is the host's
abbrev pub two_sharing : List ℕ
two_sharing = three_pages (given 1 Table) (given 2 Table) (host 2) (shared_leaf 2) (shared_leaf 2)
