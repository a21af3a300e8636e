-- The guest pages of a TVM: its regions, which of their pages are shared, and in how many rows.
use Rattle.std.specs.Prelude.{◌≡◌, ℕ, ◌+◌, ◌-◌, ◌<◌, Bool, ◌==◌, ◌&&◌, ◌||◌, not, nat_le, nat_lt, eqb, IsTrue, if◌then◌else◌, List, length}
use Rattle.std.specs.List.{list_any, IsDistinct}
use Rattle.cove_region.specs.declared.areas.Area.{Area}
use Rattle.cove_region.specs.declared.kinds.AreaKind.{AreaKind}
use Rattle.cove_region.specs.declared.kinds.AreaKind.TheVariants.{Outside, Private, Shared}
use Rattle.cove_base.specs.declared.limits.TheConstants.{SHARED_RUN_LIMIT}

-- so many guest pages from one on
abbrev pub pages_from : (first count : ℕ) → Area
pages_from first count = record { first = first; end = first + count }

-- an area has a guest page
abbrev pub has_guest : (g : ℕ) → Area → Bool
has_guest g area = nat_le area.first g && nat_lt g area.end

-- an area has every guest page of another, or has one of them
abbrev pub holds : (pages : Area) → Area → Bool
holds pages area = nat_le area.first pages.first && nat_le pages.end area.end

abbrev pub meets : (pages : Area) → Area → Bool
meets pages area = nat_lt area.first pages.end && nat_lt pages.first area.end

-- one of the areas has a guest page
abbrev pub covers : List Area → (g : ℕ) → Bool
covers areas g = list_any (has_guest g) areas

-- a TVM's guest pages: its regions, in the order in which they came, and the rows of those that are shared, in no order
pub record GuestMap : Type 0 where
  pub regions : List Area
  pub rows : List Area

abbrev pub has_shared : GuestMap → (g : ℕ) → Bool
has_shared guests g = covers guests.rows g

-- what a guest page is
abbrev pub kind_of : GuestMap → (g : ℕ) → AreaKind
kind_of guests g = if has_shared guests g then Shared else (if covers guests.regions g then Private else Outside)

-- guest pages are all of a kind
abbrev pub AreAll : GuestMap → AreaKind → (pages : Area) → Type 0
AreAll guests kind pages = (g : ℕ) → IsTrue (has_guest g pages) → kind_of guests g ≡ kind

-- guest pages are all of a kind, and lie in one region
pub record AreOfOneRegion (guests : GuestMap) (kind : AreaKind) (pages : Area) : Type 0 where
  pub region : IsTrue (list_any (holds pages) guests.regions)
  pub kinds : AreAll guests kind pages

-- every guest page is of the kind that it was, but for some, which are of one kind
abbrev pub AreMade : AreaKind → (pages : Area) → (old new : GuestMap) → Type 0
AreMade kind pages old new = (g : ℕ) → kind_of new g ≡ (if has_guest g pages then kind else kind_of old g)

-- the shared guest pages and some more, or without some
abbrev pub has_shared_with : GuestMap → (pages : Area) → (g : ℕ) → Bool
has_shared_with guests pages g = has_shared guests g || has_guest g pages

abbrev pub has_shared_without : GuestMap → (pages : Area) → (g : ℕ) → Bool
has_shared_without guests pages g = has_shared guests g && not (has_guest g pages)

-- a row of shared guest pages begins at one that comes after none of them
abbrev pub begins : (shared : ℕ → Bool) → (g : ℕ) → Bool
begins shared g = shared g && (g == 0 || not (shared (g - 1)))

-- shared guest pages form n maximal rows: a row begins at n of them
pub record FormRows (shared : ℕ → Bool) (n : ℕ) : Type 0 where
  pub starts : List ℕ
  pub each_once : IsDistinct eqb starts
  pub begin : (g : ℕ) → list_any (eqb g) starts ≡ begins shared g
  pub count : length starts ≡ n

-- shared guest pages form more rows than they may
abbrev pub FormTooManyRows : (shared : ℕ → Bool) → Type 0
FormTooManyRows shared = (n : ℕ) × FormRows shared n × (SHARED_RUN_LIMIT < n)
