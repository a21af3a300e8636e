-- A run of guest pages of a live TVM, and the checks of it.
use Rattle.std.specs.Prelude.{ℕ, ◌+◌, ◌/◌, ◌≡◌, ◌<◌, ◌≤◌, Bool, true, false, not, if◌then◌else◌, List, [], ◌∷◌, Some}
use Rattle.cove_base.specs.Modes.{guest_limit}
use Rattle.cove_base.specs.declared.statuses.Status.TheVariants.{InvalidAddress}
use Rattle.cove_model.specs.Checks.{AllPrivate, AllShared, EnoughTables, IsRunnable, Live, Unmapped, WithinMemory}
use Rattle.cove_model.specs.Owners.{Owner, every, is_free, is_host}
use Rattle.cove_model.specs.Refusals.{Aligned, Check, Count, plain}
use Rattle.cove_model.specs.States.{State}
use Rattle.cove_region.specs.declared.kinds.AreaKind.{AreaKind}
use Rattle.cove_region.specs.declared.kinds.AreaKind.TheVariants.{Private, Shared}
use Rattle.cove_tvm.specs.TvmTables.{live_at}
use Rattle.cove_tvm.specs.declared.ground.Ground.{Ground}
use Rattle.cove_tvm.specs.declared.machines.Tvm.{Tvm}

-- a fact of each of the n guest pages from one on
abbrev pub EachGuest : (P : ℕ → Type 0) (first n : ℕ) → Type 0
EachGuest P first n = (g : ℕ) → first ≤ g → g < first + n → P g

-- the n guest pages from a byte address on end within the tables of the live TVM with a number
abbrev pub EndsWithin : Ground → (t gpa n : ℕ) → Type 0
EndsWithin G t gpa n = (tvm : Tvm) → live_at G.tvms t ≡ Some tvm → gpa / 4096 + n ≤ guest_limit tvm.tables.mode

-- the kind of guest pages that are mapped shared, or as private ones
abbrev pub kind_as : (shared : Bool) → AreaKind
kind_as shared = if shared then Shared else Private

-- the owner of pages that guest pages are mapped to: shared ones are the host's, private ones are free before
abbrev pub owned_as : (shared : Bool) → Owner → Bool
owned_as true = is_host
owned_as false = is_free

-- the check that guest pages are of that kind
abbrev pub KindsFit : (shared : Bool) → State → (t gpa n : ℕ) → Check
KindsFit true S t gpa n = AllShared S t gpa n
KindsFit false S t gpa n = AllPrivate S t gpa n

-- the check that the owner of each page passes a test
abbrev pub AllOwned : (test : Owner → Bool) → State → (base n : ℕ) → Check
AllOwned test S base n = plain (not (every test (base / 4096) n S.pages)) InvalidAddress

-- the checks that guest pages may be mapped so
abbrev pub mapping_checks : (shared : Bool) → State → (t gpa n : ℕ) → List Check
mapping_checks shared S t gpa n = KindsFit shared S t gpa n ∷ Unmapped S t gpa n ∷ EnoughTables S t gpa n ∷ []

-- the checks of a call that maps a run of pages of a finalized TVM
abbrev pub run_checks : (test : Owner → Bool) (shared : Bool) → State → (t base n gpa : ℕ) → List Check
run_checks test shared S t base n gpa =
    Live S t ∷ IsRunnable S t ∷ Count n ∷ Aligned base ∷ Aligned gpa ∷ WithinMemory S base n ∷ AllOwned test S base n
    ∷ mapping_checks shared S t gpa n
