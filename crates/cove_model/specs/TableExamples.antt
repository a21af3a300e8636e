-- A board to read on which a TVM has tables, and a hart that is inside.
use Rattle.std.specs.Prelude.{ℕ, ◌-◌, ◌^◌, List, [], ◌∷◌, ◌++◌, replicate, slice_set, Some, None}
use Rattle.cove_base.specs.HartValues.{HartRings, Holding, no_rings}
use Rattle.cove_base.specs.PageWords.{given, host, released}
use Rattle.cove_base.specs.Places.{all_words, hart_word}
use Rattle.cove_base.specs.TableWords.{shared_leaf}
use Rattle.cove_base.specs.declared.modes.Mode.TheVariants.{Sv39x4}
use Rattle.cove_base.specs.declared.numbers.Role.TheVariants.{Root, Data}

-- the words of a board of eight pages and one hart: page 2 is of the memory of TVM 1, page 3 is free, pages 4 to 7 are the
-- root of its tables, of which every word is 0; the others are the host's
abbrev pub rooted : List ℕ
rooted = (host 0 ∷ host 0 ∷ given 1 Data ∷ released ∷ given 1 Root ∷ given 1 Root ∷ given 1 Root ∷ given 1 Root ∷ [])
    ++ replicate (all_words 8 1 - 8) 0

-- the same where the hart is inside TVM 1, and entered with 0
abbrev pub entered_words : List ℕ
entered_words = slice_set rooted (hart_word 8 1 0) (2 ^ 32)

-- what it holds
abbrev pub guest : HartRings → Holding
guest rings = record { hart = 0; rings = rings; walked = None; way = Some (record { root = 4; mode = Sv39x4; tables = [] }) }

-- rings that name guest page 9 for fetches
abbrev pub fetching : HartRings
fetching = record no_rings { fetches = (9, record { 0 = 2 }) ∷ [] }

-- the words of a board of one page, of whose table words the second is a leaf that names page 5 as shared
abbrev pub once_shared : List ℕ
once_shared = host 1 ∷ 0 ∷ shared_leaf 5 ∷ replicate 520 0
