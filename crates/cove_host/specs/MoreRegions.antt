-- What one more region leaves of a TVM.
use Rattle.std.specs.Prelude.{◌≡◌, ◌<◌, ◌++◌, ℕ, [], ◌∷◌, length}
use Rattle.cove_base.specs.declared.limits.TheConstants.{REGION_LIMIT}
use Rattle.cove_region.specs.GuestMaps.{AreAll, AreMade, GuestMap, pages_from}
use Rattle.cove_region.specs.declared.kinds.AreaKind.TheVariants.{Outside, Private}
use Rattle.cove_tvm.specs.declared.machines.Tvm.{Tvm}

-- some guest pages are one more region, and private
pub record HasRegion (first n : ℕ) (old new : GuestMap) : Type 0 where
  pub regions : new.regions ≡ old.regions ++ pages_from first n ∷ []
  pub kinds : AreMade Private (pages_from first n) old new

-- a TVM has one more region, where its guest pages are in none and there is room for it; and all else stays
pub record AddsRegion (first n : ℕ) (old new : Tvm) : Type 0 where
  pub added :
      AreAll old.regions Outside (pages_from first n) → length old.regions.regions < REGION_LIMIT
      → HasRegion first n old.regions new.regions
  pub rest : new ≡ record old { regions = new.regions }
