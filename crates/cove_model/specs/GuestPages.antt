-- Guest pages: their kinds, and the table pages that they need.
use Rattle.std.specs.Prelude.{ℕ, zero, suc, ◌+◌, ◌-◌, ◌/◌, Bool, ◌==◌, ◌&&◌, ◌||◌, not, nat_le, nat_lt, if◌then◌else◌, List, [], ◌∷◌, ◌++◌, length, map, filter}
use Rattle.std.specs.List.{list_all, list_any, range_with_len}
use Rattle.cove_base.specs.Modes.{leaves_of}
use Rattle.cove_model.specs.Owners.{has}
use Rattle.cove_model.specs.Tvms.{Area, Tvm}

-- the n guest pages from an address on
abbrev pub page_run : (gpa n : ℕ) → List ℕ
page_run gpa n = range_with_len (gpa / 4096) n

-- a guest page is one of the n from an address on
abbrev pub is_among : (gpa n g : ℕ) → Bool
is_among gpa n g = nat_le (gpa / 4096) g && nat_lt g (gpa / 4096 + n)

-- the n guest pages from one on all lie in an area, or one of them does
abbrev pub has_run : (first n : ℕ) → Area → Bool
has_run first n area = nat_le area.first first && nat_le (first + n) (area.first + area.count)

abbrev pub meets_run : (first n : ℕ) → Area → Bool
meets_run first n area = nat_lt area.first (first + n) && nat_lt first (area.first + area.count)

-- a guest page of a region is private or shared
abbrev pub is_shared : Tvm → (g : ℕ) → Bool
is_shared tvm g = has g tvm.shared

abbrev pub is_private : Tvm → (g : ℕ) → Bool
is_private tvm g = list_any (has_run g 1) tvm.regions && not (is_shared tvm g)

-- the n guest pages from an address on lie in one region, and are all of a kind
abbrev pub are_of_one_region : Tvm → (kind : ℕ → Bool) → (gpa n : ℕ) → Bool
are_of_one_region tvm kind gpa n = list_any (has_run (gpa / 4096) n) tvm.regions && list_all kind (page_run gpa n)

-- the shared guest pages after some were shared, and after some were made private again
abbrev pub shared_with : Tvm → (gpa n : ℕ) → List ℕ
shared_with tvm gpa n = tvm.shared ++ page_run gpa n

abbrev pub shared_without : Tvm → (gpa n : ℕ) → List ℕ
shared_without tvm gpa n = filter (λ g. not (is_among gpa n g)) tvm.shared

-- how many rows guest pages form, where a row is as many as follow one another: one begins at each page whose predecessor
-- is none of them
abbrev pub row_count : List ℕ → ℕ
row_count gs = length (filter (λ g. g == 0 || not (has (g - 1) gs)) gs)

-- the leading part of a guest page that one table page of a level serves: levels count from the leaves up, and a part of the
-- first is 512 guest pages long, one of each further level 512 times as long
abbrev pub part_of : (level g : ℕ) → ℕ
part_of zero g = g
part_of (suc level) g = part_of level (g / 512)

-- the numbers of a list that are not in another, each once
abbrev pub new_ones : (old : List ℕ) → List ℕ → List ℕ
new_ones old [] = []
new_ones old (n ∷ ns) = if has n old then new_ones old ns else n ∷ new_ones (n ∷ old) ns

-- the leading parts at a level of the n guest pages from an address on that are not in use
abbrev pub new_parts : Tvm → (gpa n level : ℕ) → List ℕ
new_parts tvm gpa n level = new_ones (tvm.prefixes level) (map (part_of level) (page_run gpa n))

-- a sum over the levels from the first on, as many as there are
abbrev pub over_levels : (count : ℕ → ℕ) (levels : ℕ) → ℕ
over_levels count zero = 0
over_levels count (suc level) = over_levels count level + count (suc level)

-- how many table pages serve leading parts that are in use
abbrev pub tables_in_use : Tvm → ℕ
tables_in_use tvm = over_levels (λ level. length (tvm.prefixes level)) (leaves_of tvm.mode)

-- the table pages of the pool: those that serve nothing yet
abbrev pub pool_size : Tvm → ℕ
pool_size tvm = length tvm.tables - tables_in_use tvm

-- how many table pages are missing for a mapping of the n guest pages from an address on
abbrev pub missing_tables : Tvm → (gpa n : ℕ) → ℕ
missing_tables tvm gpa n = over_levels (λ level. length (new_parts tvm gpa n level)) (leaves_of tvm.mode) - pool_size tvm
