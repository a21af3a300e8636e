-- The checks and the outcome of a call that adds a region.
use Rattle.std.proofs.Common.{◌≡◌, ◌↔◌, ◌+◌, ◌/◌, ◌*◌, ◌%◌, ◌<◌, ◌≤◌, ◌∙◌, ℕ, zero, suc, false, List, [], ◌∷◌, ◌++◌, length, Some, Result, Ok, Err, refl, sym, ap, subst, inl, inr, arith, nat_le, leb-false}
use Rattle.std.proofs.lemmas.Bool.{or_cases}
use Rattle.std.proofs.lemmas.Bool.Decides.{nat_tests}
use Rattle.std.proofs.lemmas.List.{length-map}
use Rattle.std.proofs.lemmas.List.Folds.{list_any-append}
use Rattle.std.proofs.lemmas.Option.{none-some}
use Rattle.std.specs.List.{list_any}
use Rattle.std.specs.Prelude.{IsTrue, OnOk, unwrap_or}
use Rattle.cove_base.specs.Modes.{guest_limit}
use Rattle.cove_model.specs.Machine.{Region, REGION_LIMIT, Success, guests_in, IsArea, IsBuilding, Live, NoOverlap, RoomForRegion, meets_run, Rule, rule, Aligned, Check, State, find_tvm, tvm_at}
use Rattle.cove_host.proofs.PassedCalls.{AllPass, passed_call, stands_written}
use Rattle.cove_host.proofs.CheckedLemmas.{each_passes}
use Rattle.cove_host.proofs.LifeTold.{both_live, live_stand}
use Rattle.cove_tvm.specs.Called.{Called}
use Rattle.cove_host.specs.Checked.{all_checked}
use Rattle.cove_host.specs.FoundTvms.{ChangesTvm, IsLiveTvm}
use Rattle.cove_host.specs.MoreRegions.{AddsRegion, HasRegion}
use Rattle.cove_model.specs.Tvms.{Tvm as ModelTvm, new_tvm}
use Rattle.cove_region.proofs.StandingLemmas.{added-stand, meets-stand, outside-free}
use Rattle.cove_region.specs.GuestMaps.{AreAll, AreMade, GuestMap, covers, has_guest, meets as meets_area, pages_from}
use Rattle.cove_region.specs.Standing.{StandFor, area_of}
use Rattle.cove_region.specs.declared.kinds.AreaKind.TheVariants.{Outside, Private}
use Rattle.cove_region.specs.declared.regions.RegionFault.{RegionFault}
use Rattle.cove_region.specs.declared.regions.RegionFault.TheVariants.{Overlap, NotInside, Full}
use Rattle.cove_tvm.proofs.BuiltRegions.{live_stands, region_stands}
use Rattle.cove_tvm.specs.BuiltTvms.{with_region}
use Rattle.cove_tvm.specs.Stands.{Stands}
use Rattle.cove_tvm.specs.TvmTables.{live_at}
use Rattle.cove_tvm.specs.declared.ground.Ground.{Ground}
use Rattle.cove_tvm.specs.declared.machines.Tvm.{Tvm}

-- ---- what the regions of the ground tell

many_told : (guests : GuestMap) (model : ModelTvm) → StandFor guests model → length guests.regions ≡ length model.regions
many_told guests model stands = ap length stands.regions ∙ length-map model.regions area_of

module _ {words : List ℕ} {S : State} {t : ℕ} {tvm : Tvm} (one : IsLiveTvm words S t tvm) where
  pub overlap_told : (first n : ℕ) → list_any (meets_area (pages_from first n)) tvm.regions.regions ≡ list_any (meets_run first n) (tvm_at S t).regions
  overlap_told first n = meets-stand tvm.regions (tvm_at S t) (live_stand one).fields.regions first n

  pub room_told : nat_le REGION_LIMIT (length tvm.regions.regions) ≡ nat_le REGION_LIMIT (length (tvm_at S t).regions)
  room_told = ap (nat_le REGION_LIMIT) (many_told tvm.regions (tvm_at S t) (live_stand one).fields.regions)

-- a region is added where it overlaps none and there is room
pub region_added : (result : Result (Unit {0}) RegionFault) (first n : ℕ) (old new : GuestMap)
    → (result ≡ Err Overlap) ↔ (AreAll old Outside (pages_from first n) → ⊥)
    → (result ≡ Err Full) ↔ (AreAll old Outside (pages_from first n) × (REGION_LIMIT ≤ length old.regions))
    → ((result ≡ Err NotInside) → ⊥) → OnOk result (new.regions ≡ old.regions ++ pages_from first n ∷ [])
    → OnOk result (AreMade Private (pages_from first n) old new)
    → AreAll old Outside (pages_from first n) → length old.regions < REGION_LIMIT → HasRegion first n old new
region_added (Ok u) first n old new overlap full only regions kinds all room = record { regions = regions; kinds = kinds }
region_added (Err Overlap) first n old new overlap full only regions kinds all room = absurd (overlap.0 refl all)
region_added (Err NotInside) first n old new overlap full only regions kinds all room = absurd (only refl)
region_added (Err Full) first n old new overlap full only regions kinds all room = absurd (let many = (full.0 refl).1 in omega arith)

-- ---- the checks

abbrev pub region_checks : State → (t gpa len : ℕ) → List Check
region_checks S t gpa len = Live S t ∷ IsBuilding S t ∷ Aligned gpa ∷ Aligned len ∷ IsArea S t gpa len ∷ NoOverlap S t gpa len ∷ RoomForRegion S t ∷ []

-- an address that is aligned
pub whole : (address : ℕ) → (Aligned address).fails ≡ false → address % 4096 ≡ 0
whole address passed = grind (arith, nat_tests)

pub area_is : (S : State) (t gpa len : ℕ) → (IsArea S t gpa len).fails ≡ false → (0 < len) × (gpa + len ≤ 4096 * guests_in S t)
area_is S t gpa len passed = grind (arith, nat_tests)

-- what is known of a call that all checks let pass
record Passed (words : List ℕ) (G : Ground) (S : State) (t gpa len : ℕ) : Type 0 where
  old : Tvm
  model : ModelTvm
  live : live_at G.tvms t ≡ Some old
  found : find_tvm S t ≡ Some model
  begins : gpa % 4096 ≡ 0
  lasts : len % 4096 ≡ 0
  some : 0 < len
  within : gpa + len ≤ 4096 * guest_limit old.tables.mode
  apart : list_any (meets_run (gpa / 4096) (len / 4096)) model.regions ≡ false
  room : length model.regions < REGION_LIMIT

passed : (words : List ℕ) (G : Ground) (S : State) (t gpa len : ℕ) → Stands words G S → Ok tt ≡ all_checked (region_checks S t gpa len)
    → Passed words G S t gpa len
passed words G S t gpa len stands e =
    let pass = each_passes (region_checks S t gpa len) e in
    let both = both_live words G S t (live_at G.tvms t) (find_tvm S t) (stands.tvm t) (pass 0) in
    let area = area_is S t gpa len (pass 4) in
    record {
      old = both.0;
      model = both.1;
      live = both.2;
      found = both.3;
      begins = whole gpa (pass 2);
      lasts = whole len (pass 3);
      some = area.0;
      within = subst (λ k. gpa + len ≤ 4096 * k) (ap (λ v. guest_limit (unwrap_or v (new_tvm t)).mode) both.3 ∙ ap guest_limit (sym (live_stands words G S t both.0 both.1 stands both.2 both.3).mode)) area.1;
      apart = ap (λ v. list_any (meets_run (gpa / 4096) (len / 4096)) (unwrap_or v (new_tvm t)).regions) (sym both.3) ∙ pass 5;
      room =
          leb-false REGION_LIMIT (length both.1.regions)
          (ap (λ v. nat_le REGION_LIMIT (length (unwrap_or v (new_tvm t)).regions)) (sym both.3) ∙ pass 6);
    }

module _ (words : List ℕ) (G H : Ground) (hart gpa len : ℕ) where
  -- the rule of the call
  abbrev by_rule : (t : ℕ) → State → Rule
  by_rule t S = rule S hart (Region t gpa len)

  abbrev Adds : (t : ℕ) → Type 0
  Adds t = ChangesTvm t (AddsRegion (gpa / 4096) (len / 4096)) G H

  -- the guest pages of the regions stay within the tables
  near : (limit : ℕ) (old new : GuestMap) → gpa + len ≤ 4096 * limit → gpa % 4096 ≡ 0 → len % 4096 ≡ 0 → new.regions ≡ old.regions ++ pages_from (gpa / 4096) (len / 4096) ∷ []
      → ((g : ℕ) → IsTrue (covers old.regions g) → g < limit) → (g : ℕ) → IsTrue (covers new.regions g) → g < limit
  near limit old new within begins lasts grown before g there =
      elim (or_cases (covers old.regions g) (covers (pages_from (gpa / 4096) (len / 4096) ∷ []) g)
      (sym (ap (λ areas. covers areas g) grown ∙ list_any-append (has_guest g) old.regions (pages_from (gpa / 4096) (len / 4096) ∷ [])) ∙ there)) [
        | inl was ↦ before g was
        | inr now ↦ grind (arith, nat_tests)
      ]

  after : (t : ℕ) (S : State) → Stands words G S → Passed words G S t gpa len → Adds t → Stands words H (rule S hart (Region t gpa len)).outcome.state
  after zero S stands one adds = absurd (none-some one.old one.live)
  after (suc k) S stands one adds =
      let done = adds one.old one.live in
      let new = done.0 in
      let begins = one.begins in
      let lasts = one.lasts in
      let some_len = one.some in
      let some : 0 < len / 4096 = omega arith in
      let was = live_stands words G S (suc k) one.old one.model stands one.live one.found in
      let regions = was.fields.regions in
      let outside : AreAll one.old.regions Outside (pages_from (gpa / 4096) (len / 4096)) =
      outside-free one.old.regions one.model regions (gpa / 4096) (len / 4096) one.apart in
      let room : length one.old.regions.regions < REGION_LIMIT =
      subst (λ n. n < REGION_LIMIT) (sym (many_told one.old.regions one.model regions)) one.room in
      let has = done.1.added outside room in
      stands_written G G.memory k done.2 done.1.rest
      (region_stands k words G S hart gpa len one.old one.model new.regions stands one.live one.found
      (added-stand one.old.regions new.regions one.model (with_region gpa len one.model) regions (gpa / 4096) (len / 4096) some one.apart has.kinds has.regions refl refl)
      (near (guest_limit one.old.tables.mode) one.old.regions new.regions one.within one.begins one.lasts has.regions was.fields.near))

  -- an accepted call, by what the code leaves
  pub adds_region : (t : ℕ) → AllPass (by_rule t) words G → Adds t
      → Called hart (by_rule t) words words G H (record { status = Success; value = 0 })
  adds_region t told adds =
      passed_call hart (by_rule t) words G H [] told
      (λ S met stands. after t S stands (passed words G S t gpa len stands (told S stands)) adds)
      (λ S. refl) tt (λ at past. refl)
