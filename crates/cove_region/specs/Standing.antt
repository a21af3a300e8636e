-- Where the guest pages of a TVM stand for those of the model's TVM, and what agrees there.
use Rattle.std.specs.Prelude.{◌≡◌, ◌↔◌, ℕ, ◌/◌, ◌<◌, IsTrue, IsFalse, [], ◌∷◌, ◌++◌, map}
use Rattle.std.specs.List.{list_any, All}
use Rattle.cove_base.specs.declared.limits.TheConstants.{SHARED_RUN_LIMIT}
use Rattle.cove_model.specs.GuestPages as model
use Rattle.cove_model.specs.Orderly.{AreDistinct}
use Rattle.cove_model.specs.Tvms.{Area as ModelArea, Tvm, new_tvm}
use Rattle.cove_region.specs.declared.areas.Area.{Area}
use Rattle.cove_region.specs.declared.kinds.AreaKind.TheVariants.{Outside, Private, Shared}
use Rattle.cove_region.specs.GuestMaps.{AreAll, AreMade, AreOfOneRegion, FormRows, FormTooManyRows, GuestMap, covers, has_shared, has_shared_with, has_shared_without, kind_of, pages_from}
use Rattle.cove_region.specs.Rows.{HasPages}

-- the guest pages of a region of the model, and so many from an address on
abbrev pub area_of : ModelArea → Area
area_of area = pages_from area.first area.count

abbrev pub pages_at : (gpa n : ℕ) → Area
pages_at gpa n = pages_from (gpa / 4096) n

-- the regions are those of the model, in the same order, and none is empty; the same guest pages are shared, each listed
-- once and in a region
pub record StandFor (guests : GuestMap) (tvm : Tvm) : Type 0 where
  pub regions : guests.regions ≡ map area_of tvm.regions
  pub some : All HasPages guests.regions
  pub shared : (g : ℕ) → has_shared guests g ≡ model.is_shared tvm g
  pub each_once : AreDistinct tvm.shared
  pub inside : (g : ℕ) → IsTrue (has_shared guests g) → IsTrue (covers guests.regions g)

-- ---- what a guest page is

abbrev pub PrivateAgrees : Type 0
PrivateAgrees =
    (guests : GuestMap) (tvm : Tvm) → StandFor guests tvm
    → (g : ℕ) → (kind_of guests g ≡ Private) ↔ IsTrue (model.is_private tvm g)

abbrev pub SharedAgrees : Type 0
SharedAgrees =
    (guests : GuestMap) (tvm : Tvm) → StandFor guests tvm
    → (g : ℕ) → (kind_of guests g ≡ Shared) ↔ IsTrue (model.is_shared tvm g)

abbrev pub OutsideAgrees : Type 0
OutsideAgrees =
    (guests : GuestMap) (tvm : Tvm) → StandFor guests tvm
    → (g : ℕ) → (kind_of guests g ≡ Outside) ↔ IsFalse (list_any (model.has_run g 1) tvm.regions)

-- ---- what a call is refused for

-- some guest pages meet a region
abbrev pub OverlapAgrees : Type 0
OverlapAgrees =
    (guests : GuestMap) (tvm : Tvm) → StandFor guests tvm → (first n : ℕ) → 0 < n
    → (AreAll guests Outside (pages_from first n) → ⊥) ↔ IsTrue (list_any (model.meets_run first n) tvm.regions)

-- some guest pages lie in one region, and are all private, or all shared
abbrev pub AllPrivateAgrees : Type 0
AllPrivateAgrees =
    (guests : GuestMap) (tvm : Tvm) → StandFor guests tvm → (gpa n : ℕ)
    → AreOfOneRegion guests Private (pages_at gpa n)
    ↔ IsTrue (model.are_of_one_region tvm (model.is_private tvm) gpa n)

abbrev pub AllSharedAgrees : Type 0
AllSharedAgrees =
    (guests : GuestMap) (tvm : Tvm) → StandFor guests tvm → (gpa n : ℕ)
    → AreOfOneRegion guests Shared (pages_at gpa n)
    ↔ IsTrue (model.are_of_one_region tvm (model.is_shared tvm) gpa n)

-- the shared guest pages form so many rows, and too many with some private ones, or without some
abbrev pub RowsAgree : Type 0
RowsAgree =
    (guests : GuestMap) (tvm : Tvm) → StandFor guests tvm → FormRows (has_shared guests) (model.row_count tvm.shared)

abbrev pub RowsWithAgree : Type 0
RowsWithAgree =
    (guests : GuestMap) (tvm : Tvm) → StandFor guests tvm → (gpa n : ℕ)
    → IsTrue (model.are_of_one_region tvm (model.is_private tvm) gpa n)
    → FormTooManyRows (has_shared_with guests (pages_at gpa n))
    ↔ (SHARED_RUN_LIMIT < model.row_count (model.shared_with tvm gpa n))

abbrev pub RowsWithoutAgree : Type 0
RowsWithoutAgree =
    (guests : GuestMap) (tvm : Tvm) → StandFor guests tvm → (gpa n : ℕ)
    → FormTooManyRows (has_shared_without guests (pages_at gpa n))
    ↔ (SHARED_RUN_LIMIT < model.row_count (model.shared_without tvm gpa n))

-- ---- what a call leaves

-- no region stands for a TVM as it is created
abbrev pub NoneStand : Type 0
NoneStand = (number : ℕ) → StandFor (record { regions = []; rows = [] }) (new_tvm number)

-- after a region was added, and after private guest pages were shared, or shared ones made private
abbrev pub AddedStand : Type 0
AddedStand =
    (old new : GuestMap) (tvm next : Tvm) → StandFor old tvm → (first n : ℕ) → 0 < n
    → IsFalse (list_any (model.meets_run first n) tvm.regions)
    → AreMade Private (pages_from first n) old new
    → new.regions ≡ old.regions ++ pages_from first n ∷ []
    → next.regions ≡ tvm.regions ++ record { first = first; count = n } ∷ []
    → next.shared ≡ tvm.shared → StandFor new next

abbrev pub SharedStand : Type 0
SharedStand =
    (old new : GuestMap) (tvm next : Tvm) → StandFor old tvm → (gpa n : ℕ)
    → IsTrue (model.are_of_one_region tvm (model.is_private tvm) gpa n)
    → AreMade Shared (pages_at gpa n) old new → new.regions ≡ old.regions
    → next.regions ≡ tvm.regions → next.shared ≡ model.shared_with tvm gpa n → StandFor new next

abbrev pub UnsharedStand : Type 0
UnsharedStand =
    (old new : GuestMap) (tvm next : Tvm) → StandFor old tvm → (gpa n : ℕ)
    → AreMade Private (pages_at gpa n) old new → new.regions ≡ old.regions
    → next.regions ≡ tvm.regions → next.shared ≡ model.shared_without tvm gpa n → StandFor new next
