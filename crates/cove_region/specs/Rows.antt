-- Areas as the code keeps them: what it relies on, and how it changes rows.
use Rattle.std.specs.Prelude.{◌≡◌, ℕ, ◌<◌, ◌≤◌, Bool, true, false, ◌==◌, ◌||◌, nat_lt, ◌⊎◌, if◌then◌else◌, List, [], ◌∷◌, ◌++◌, length}
use Rattle.std.specs.List.{list_any, All, AllPairs, remove}
use Rattle.cove_region.specs.declared.areas.Area.{Area}
use Rattle.cove_region.specs.GuestMaps.{covers, has_guest}
use Rattle.cove_base.specs.declared.limits.TheConstants.{REGION_LIMIT, SHARED_RUN_LIMIT}

-- an area has a guest page
abbrev pub HasPages : Area → Type 0
HasPages area = area.first < area.end

-- no guest page is in both areas, or, then, beside one of the other
abbrev pub AreDisjoint : Area → Area → Type 0
AreDisjoint a b = (a.end ≤ b.first) ⊎ (b.end ≤ a.first)

abbrev pub AreApart : Area → Area → Type 0
AreApart a b = (a.end < b.first) ⊎ (b.end < a.first)

-- no guest page is in both areas, and none of the second is beside the first one of the first
abbrev pub AreApartBefore : Area → Area → Type 0
AreApartBefore a b = (a.end ≤ b.first) ⊎ (b.end < a.first)

-- rows of guest pages that are maximal, each once
pub record AreRows (rows : List Area) : Type 0 where
  pub some : All HasPages rows
  pub apart : AllPairs AreApart rows

-- what is kept of regions and rows
pub record AreKept (regions rows : List Area) : Type 0 where
  pub few_regions : length regions ≤ REGION_LIMIT
  pub few_rows : length rows ≤ SHARED_RUN_LIMIT
  pub some : All HasPages regions
  pub disjoint : AllPairs AreDisjoint regions
  pub maximal : AreRows rows
  pub inside : (g : ℕ) → covers rows g ≡ true → covers regions g ≡ true

-- a row ends where some guest pages begin, or begins where they end
abbrev pub ends_at : (place : ℕ) → Area → Bool
ends_at place row = row.end == place

abbrev pub begins_at : (place : ℕ) → Area → Bool
begins_at place row = row.first == place

-- one of the rows has a neighbour of some guest pages
abbrev pub adjoin : List Area → (pages : Area) → Bool
adjoin rows pages = list_any (ends_at pages.first) rows || list_any (begins_at pages.end) rows

-- the row that ends where some guest pages begin was taken out of the rows and joined to them, if there is one
pub record JoinsBefore (old : List Area) (pages : Area) (new : List Area) (joined : Area) : Type 0 where
  pub rows : AreRows new
  pub some : HasPages joined
  pub end : joined.end ≡ pages.end
  pub together : (g : ℕ) → (covers new g || has_guest g joined) ≡ (covers old g || has_guest g pages)
  pub apart : All (AreApartBefore joined) new
  pub none : list_any (ends_at pages.first) old ≡ false → new ≡ old
  pub fewer : list_any (ends_at pages.first) old ≡ true → length new < length old

-- the same of the row that begins where they end; then no row is beside them
pub record JoinsAfter (old : List Area) (pages : Area) (new : List Area) (joined : Area) : Type 0 where
  pub rows : AreRows new
  pub some : HasPages joined
  pub together : (g : ℕ) → (covers new g || has_guest g joined) ≡ (covers old g || has_guest g pages)
  pub apart : All (AreApart joined) new
  pub none : list_any (begins_at pages.end) old ≡ false → new ≡ old
  pub fewer : list_any (begins_at pages.end) old ≡ true → length new < length old

-- rows with one more, unless it is empty
abbrev pub rows_with : List Area → Area → List Area
rows_with rows row = if nat_lt row.first row.end then rows ++ row ∷ [] else rows

-- the parts of a row before and after some of its guest pages
abbrev pub part_before : (row pages : Area) → Area
part_before row pages = record { first = row.first; end = pages.first }

abbrev pub part_after : (row pages : Area) → Area
part_after row pages = record { first = pages.end; end = row.end }

-- rows in which one row, at a place, gave up some of its guest pages
abbrev pub rows_cut : List Area → (place : ℕ) → (row pages : Area) → List Area
rows_cut rows place row pages = rows_with (rows_with (remove rows place) (part_before row pages)) (part_after row pages)
