-- Words and guest pages to read.
use Rattle.std.specs.Prelude.{ℕ, zero, suc, ◌*◌, List, [], ◌∷◌, replicate}
use Rattle.cove_base.specs.Places.{all_words}
use Rattle.cove_region.specs.GuestMaps.{GuestMap, pages_from}
use Rattle.cove_region.specs.declared.areas.Area.{Area}

-- the words of a board of eight pages and one hart, at the opening
abbrev pub zero_words : List ℕ
zero_words = replicate (all_words 8 1) 0

-- two regions side by side, of two guest pages each, without a shared page, and with one
abbrev pub unshared : GuestMap
unshared = record { regions = pages_from 16 2 ∷ pages_from 18 2 ∷ []; rows = [] }

abbrev pub shared_17 : GuestMap
shared_17 = record unshared { rows = pages_from 17 1 ∷ [] }

-- so many rows of one guest page each, with one between each two
abbrev pub rows_of_one : (n : ℕ) → List Area
rows_of_one zero = []
rows_of_one (suc n) = pages_from (2 * n) 1 ∷ rows_of_one n

abbrev pub every_other : (n : ℕ) → GuestMap
every_other n = record { regions = []; rows = rows_of_one n }
