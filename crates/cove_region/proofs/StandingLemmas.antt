-- Guest pages that stand for those of the model: their kinds, what a call is refused for, and what it leaves.
use Rattle.std.proofs.Common.{◌≡◌, ◌↔◌, ℕ, ◌/◌, ◌<◌, Bool, true, false, not, ◌&&◌, ◌||◌, inl, inr, List, [], ◌∷◌, ◌++◌, map, refl, sym, ◌∙◌, ap, subst, arith}
use Rattle.std.specs.List.{list_any, All}
use Rattle.std.specs.Prelude.{if◌then◌else◌}
use Rattle.std.proofs.lemmas.Bool.{and_from, and_parts, both_ways, cases_Bool, false_from_ne_true, not-true, or_cases, or_left, or_right}
use Rattle.std.proofs.lemmas.Bool.Decides.{nat_tests}
use Rattle.std.proofs.lemmas.List.{map-append}
use Rattle.cove_model.specs.Machine.{SHARED_RUN_LIMIT, AreDistinct}
use Rattle.cove_model.specs.GuestPages as model
use Rattle.cove_model.specs.Owners as owners
use Rattle.cove_model.specs.Tvms.{Area as ModelArea, Tvm}
use Rattle.cove_region.specs.declared.areas.Area.{Area}
use Rattle.cove_region.specs.declared.kinds.AreaKind.{AreaKind}
use Rattle.cove_region.specs.declared.kinds.AreaKind.TheVariants.{Outside, Private, Shared}
use Rattle.cove_region.specs.GuestMaps.{AreAll, AreMade, AreOfOneRegion, FormRows, FormTooManyRows, GuestMap, covers, has_guest, has_shared, has_shared_with, has_shared_without, holds, kind_of, meets, pages_from}
use Rattle.cove_region.specs.Rows.{HasPages}
use Rattle.cove_region.specs.Standing.{AddedStand, AllPrivateAgrees, AllSharedAgrees, NoneStand, OutsideAgrees, OverlapAgrees, PrivateAgrees, RowsAgree, RowsWithAgree, RowsWithoutAgree, SharedAgrees, SharedStand, StandFor, UnsharedStand, area_of, pages_at}
use Rattle.cove_region.proofs.AreaLemmas.{All-push, has_from, has_means}
use Rattle.cove_region.proofs.KindLemmas.{free_page, held_page, met_page}
use Rattle.cove_region.proofs.ListedLemmas.{all-range, and-turn, distinct-append, distinct-filter, distinct-range, form-listed, has-append, has-filter, has-range, range-all}
use Rattle.cove_region.proofs.RowLemmas.{bool_iff, covers-push, form_once}

-- ---- regions

any-areas : (p : ModelArea → Bool) (q : Area → Bool) → ((a : ModelArea) → q (area_of a) ≡ p a) → (areas : List ModelArea) → list_any q (map area_of areas) ≡ list_any p areas
any-areas p q same [] = refl
any-areas p q same (a ∷ areas) = ap (λ b. b || list_any q (map area_of areas)) (same a) ∙ ap (λ b. p a || b) (any-areas p q same areas)

has-area : (g : ℕ) (a : ModelArea) → has_guest g (area_of a) ≡ model.has_run g 1 a
has-area g a = grind (arith, nat_tests)

covers-stand : (guests : GuestMap) (tvm : Tvm) → StandFor guests tvm → (g : ℕ) → covers guests.regions g ≡ list_any (model.has_run g 1) tvm.regions
covers-stand guests tvm s g = ap (λ areas. covers areas g) s.regions ∙ any-areas (model.has_run g 1) (has_guest g) (has-area g) tvm.regions

pub meets-stand : (guests : GuestMap) (tvm : Tvm) → StandFor guests tvm → (first n : ℕ) → list_any (meets (pages_from first n)) guests.regions ≡ list_any (model.meets_run first n) tvm.regions
meets-stand guests tvm s first n =
    ap (list_any (meets (pages_from first n))) s.regions ∙ any-areas (model.meets_run first n) (meets (pages_from first n)) (λ a. refl) tvm.regions

holds-stand : (guests : GuestMap) (tvm : Tvm) → StandFor guests tvm → (gpa n : ℕ) → list_any (holds (pages_at gpa n)) guests.regions ≡ list_any (model.has_run (gpa / 4096) n) tvm.regions
holds-stand guests tvm s gpa n =
    ap (list_any (holds (pages_at gpa n))) s.regions ∙ any-areas (model.has_run (gpa / 4096) n) (holds (pages_at gpa n)) (λ a. refl) tvm.regions

-- ---- kinds, as two tests: shared, in a region

shared-kind : (s r : Bool) → ((if s then Shared else (if r then Private else Outside)) ≡ Shared) ↔ (s ≡ true)
shared-kind true r = (λ _. refl, λ _. refl)
shared-kind false true = (λ h. absurd (cc), λ h. absurd (both_ways false refl h))
shared-kind false false = (λ h. absurd (cc), λ h. absurd (both_ways false refl h))

private-kind : (s r : Bool) → ((if s then Shared else (if r then Private else Outside)) ≡ Private) ↔ ((r && not s) ≡ true)
private-kind true true = (λ h. absurd (cc), λ h. absurd (both_ways false refl h))
private-kind true false = (λ h. absurd (cc), λ h. absurd (both_ways false refl h))
private-kind false true = (λ _. refl, λ _. refl)
private-kind false false = (λ h. absurd (cc), λ h. absurd (both_ways false refl h))

-- shared pages lie in a region
outside-kind : (s r : Bool) → (s ≡ true → r ≡ true) → ((if s then Shared else (if r then Private else Outside)) ≡ Outside) ↔ (r ≡ false)
outside-kind true true inside = (λ h. absurd (cc), λ h. absurd (both_ways true h refl))
outside-kind true false inside = absurd (both_ways false refl (inside refl))
outside-kind false true inside = (λ h. absurd (cc), λ h. absurd (both_ways true h refl))
outside-kind false false inside = (λ _. refl, λ _. refl)

same-test : {P : Type 0} (a b c : Bool) → a ≡ b → (P ↔ (a ≡ c)) → P ↔ (b ≡ c)
same-test a b c same both = (λ h. sym same ∙ both.0 h, λ h. both.1 (same ∙ h))

pub private-agrees : PrivateAgrees
private-agrees guests tvm s g =
    let parts : (covers guests.regions g && not (has_shared guests g)) ≡ model.is_private tvm g =
    ap (λ b. b && not (has_shared guests g)) (covers-stand guests tvm s g) ∙ ap (λ b. list_any (model.has_run g 1) tvm.regions && not b) (s.shared g) in
    same-test (covers guests.regions g && not (has_shared guests g)) (model.is_private tvm g) true parts (private-kind (has_shared guests g) (covers guests.regions g))

pub shared-agrees : SharedAgrees
shared-agrees guests tvm s g =
    same-test (has_shared guests g) (model.is_shared tvm g) true (s.shared g) (shared-kind (has_shared guests g) (covers guests.regions g))

pub outside-agrees : OutsideAgrees
outside-agrees guests tvm s g =
    same-test (covers guests.regions g) (list_any (model.has_run g 1) tvm.regions) false (covers-stand guests tvm s g)
    (outside-kind (has_shared guests g) (covers guests.regions g) (s.inside g))

-- ---- what a call is refused for

-- guest pages that meet no region are outside
pub outside-free : (guests : GuestMap) (tvm : Tvm) → StandFor guests tvm → (first n : ℕ) → list_any (model.meets_run first n) tvm.regions ≡ false
    → AreAll guests Outside (pages_from first n)
outside-free guests tvm s first n free g here =
    (outside-kind (has_shared guests g) (covers guests.regions g) (s.inside g)).1
    (free_page (pages_from first n) guests.regions g (meets-stand guests tvm s first n ∙ free) here)

pub overlap-agrees : OverlapAgrees
overlap-agrees guests tvm s first n some =
    let pages : Area = pages_from first n in
    let met = meets-stand guests tvm s first n in (
      λ taken. elim (cases_Bool (list_any (meets pages) guests.regions)) [
        | inl meet ↦ sym met ∙ meet
        | inr free ↦ absurd (taken (outside-free guests tvm s first n (sym met ∙ free)))
      ],
      λ meet all.
          let page = met_page pages guests.regions (omega (arith, some)) s.some (met ∙ meet) in
          let g = page.0 in
          both_ways (covers guests.regions g) ((outside-kind (has_shared guests g) (covers guests.regions g) (s.inside g)).0 (all g page.1)) page.2,
    )

all-agree : (guests : GuestMap) (tvm : Tvm) (kind : AreaKind) (test : ℕ → Bool) → StandFor guests tvm → ((g : ℕ) → (kind_of guests g ≡ kind) ↔ (test g ≡ true))
    → (gpa n : ℕ) → AreOfOneRegion guests kind (pages_at gpa n) ↔ (model.are_of_one_region tvm test gpa n ≡ true)
all-agree guests tvm kind test s same gpa n =
    let held = holds-stand guests tvm s gpa n in (
      λ all. and_from (list_any (model.has_run (gpa / 4096) n) tvm.regions) _ (sym held ∙ all.region)
          (all-range test (gpa / 4096) n (λ g low high. (same g).0 (all.kinds g (has_from g (pages_at gpa n) low high)))),
      λ e.
          let parts = and_parts (list_any (model.has_run (gpa / 4096) n) tvm.regions) _ e in
          record {
            region = held ∙ parts.0;
            kinds = λ g here. let m = has_means g (pages_at gpa n) here in (same g).1 (range-all test (gpa / 4096) n parts.1 g m.0 m.1);
          },
    )

pub all-private-agrees : AllPrivateAgrees
all-private-agrees guests tvm s gpa n = all-agree guests tvm Private (model.is_private tvm) s (private-agrees guests tvm s) gpa n

pub all-shared-agrees : AllSharedAgrees
all-shared-agrees guests tvm s gpa n = all-agree guests tvm Shared (model.is_shared tvm) s (shared-agrees guests tvm s) gpa n

pub rows-agree : RowsAgree
rows-agree guests tvm s = form-listed (has_shared guests) tvm.shared s.each_once s.shared

too-many : (shared : ℕ → Bool) (n : ℕ) → FormRows shared n → FormTooManyRows shared ↔ (SHARED_RUN_LIMIT < n)
too-many shared n form = (
  λ many. let same = form_once shared n many.0 form many.1 in let more = many.2 in omega arith,
  λ more. (n, form, more),
)

-- the guest pages that are shared then
has-with : (guests : GuestMap) (tvm : Tvm) → StandFor guests tvm → (gpa n g : ℕ) → has_shared_with guests (pages_at gpa n) g ≡ owners.has g (model.shared_with tvm gpa n)
has-with guests tvm s gpa n g =
    ap (λ b. b || has_guest g (pages_at gpa n)) (s.shared g) ∙ ap (λ b. owners.has g tvm.shared || b) (sym (has-range (gpa / 4096) n g))
    ∙ sym (has-append g tvm.shared (model.page_run gpa n))

has-without : (guests : GuestMap) (tvm : Tvm) → StandFor guests tvm → (gpa n g : ℕ) → has_shared_without guests (pages_at gpa n) g ≡ owners.has g (model.shared_without tvm gpa n)
has-without guests tvm s gpa n g =
    ap (λ b. b && not (has_guest g (pages_at gpa n))) (s.shared g) ∙ sym (has-filter (λ k. not (model.is_among gpa n k)) g tvm.shared)

distinct-with : (tvm : Tvm) → AreDistinct tvm.shared → (gpa n : ℕ) → model.are_of_one_region tvm (model.is_private tvm) gpa n ≡ true → AreDistinct (model.shared_with tvm gpa n)
distinct-with tvm once gpa n all =
    let parts = and_parts (list_any (model.has_run (gpa / 4096) n) tvm.regions) _ all in
    distinct-append tvm.shared (model.page_run gpa n) once (distinct-range (gpa / 4096) n) (λ k there.
    let m = has_means k (pages_at gpa n) (sym (has-range (gpa / 4096) n k) ∙ there) in
    let private = and_parts (list_any (model.has_run k 1) tvm.regions) _ (range-all (model.is_private tvm) (gpa / 4096) n parts.1 k m.0 m.1) in
    not-true (owners.has k tvm.shared) private.1)

distinct-without : (tvm : Tvm) → AreDistinct tvm.shared → (gpa n : ℕ) → AreDistinct (model.shared_without tvm gpa n)
distinct-without tvm once gpa n = distinct-filter (λ g. not (model.is_among gpa n g)) tvm.shared once

pub rows-with-agree : RowsWithAgree
rows-with-agree guests tvm s gpa n all =
    too-many (has_shared_with guests (pages_at gpa n)) (model.row_count (model.shared_with tvm gpa n))
    (form-listed (has_shared_with guests (pages_at gpa n)) (model.shared_with tvm gpa n) (distinct-with tvm s.each_once gpa n all) (has-with guests tvm s gpa n))

pub rows-without-agree : RowsWithoutAgree
rows-without-agree guests tvm s gpa n =
    too-many (has_shared_without guests (pages_at gpa n)) (model.row_count (model.shared_without tvm gpa n))
    (form-listed (has_shared_without guests (pages_at gpa n)) (model.shared_without tvm gpa n) (distinct-without tvm s.each_once gpa n) (has-without guests tvm s gpa n))

-- ---- what a call leaves

pub none-stand : NoneStand
none-stand number = record {
  regions = refl;
  some = λ k d below. absurd (omega arith);
  shared = λ g. refl;
  each_once = tt;
  inside = λ g h. absurd (both_ways false refl h);
}

-- which pages are shared, by the kinds that were made
made-shared : (pages : Area) (old new : GuestMap) → AreMade Shared pages old new → (g : ℕ) → has_shared new g ≡ has_shared_with old pages g
made-shared pages old new made g = go (has_guest g pages) (made g)
  where
    now : (kind_of new g ≡ Shared) ↔ (has_shared new g ≡ true)
    now = shared-kind (has_shared new g) (covers new.regions g)

    was : (kind_of old g ≡ Shared) ↔ (has_shared old g ≡ true)
    was = shared-kind (has_shared old g) (covers old.regions g)

    go : (b : Bool) → kind_of new g ≡ (if b then Shared else kind_of old g) → has_shared new g ≡ (has_shared old g || b)
    go true e = now.0 e ∙ sym (or_right (has_shared old g) true refl)
    go false e = bool_iff (has_shared new g) (has_shared old g || false)
        (λ h. or_left (has_shared old g) false (was.0 (sym e ∙ now.1 h)))
        (λ h. elim (or_cases (has_shared old g) false h) [ inl there ↦ now.0 (e ∙ was.1 there) | inr never ↦ absurd (both_ways false refl never) ])

made-private : (pages : Area) (old new : GuestMap) → AreMade Private pages old new → (g : ℕ) → has_shared new g ≡ has_shared_without old pages g
made-private pages old new made g = go (has_guest g pages) (made g)
  where
    now : (kind_of new g ≡ Shared) ↔ (has_shared new g ≡ true)
    now = shared-kind (has_shared new g) (covers new.regions g)

    was : (kind_of old g ≡ Shared) ↔ (has_shared old g ≡ true)
    was = shared-kind (has_shared old g) (covers old.regions g)

    go : (b : Bool) → kind_of new g ≡ (if b then Private else kind_of old g) → has_shared new g ≡ (has_shared old g && not b)
    go true e = bool_iff (has_shared new g) (has_shared old g && false)
        (λ h. absurd (let both : Shared ≡ Private = sym (now.1 h) ∙ e in cc))
        (λ h. absurd (both_ways false refl (and_parts (has_shared old g) false h).1))
    go false e = bool_iff (has_shared new g) (has_shared old g && true)
        (λ h. and_from (has_shared old g) true (was.0 (sym e ∙ now.1 h)) refl)
        (λ h. now.0 (e ∙ was.1 (and_parts (has_shared old g) true h).0))

pub added-stand : AddedStand
added-stand old new tvm next s first n some free made regions grown same = record {
  regions = regions ∙ ap (λ areas. areas ++ pages ∷ []) s.regions ∙ sym (map-append area_of tvm.regions _) ∙ ap (map area_of) (sym grown);
  some = subst (All HasPages) (sym regions) (All-push HasPages old.regions pages s.some (omega (arith, some)));
  shared = λ g. kept g ∙ s.shared g ∙ ap (owners.has g) (sym same);
  each_once = subst AreDistinct (sym same) s.each_once;
  inside = λ g h. ap (λ areas. covers areas g) regions ∙ covers-push old.regions pages g ∙ or_left (covers old.regions g) (has_guest g pages) (s.inside g (sym (kept g) ∙ h));
}
  where
    pages : Area
    pages = pages_from first n

    -- none of the pages was shared
    without : (b : Bool) (g : ℕ) → has_guest g pages ≡ b → (has_shared old g && not b) ≡ has_shared old g
    without true g here = and-turn (has_shared old g) false ∙ sym (false_from_ne_true (has_shared old g) (λ h.
        both_ways (covers old.regions g) (free_page pages old.regions g (meets-stand old tvm s first n ∙ free) here) (s.inside g h)))
    without false g here = and-turn (has_shared old g) true

    kept : (g : ℕ) → has_shared new g ≡ has_shared old g
    kept g = made-private pages old new made g ∙ without (has_guest g pages) g refl

pub shared-stand : SharedStand
shared-stand old new tvm next s gpa n all made regions kept more = record {
  regions = regions ∙ s.regions ∙ ap (map area_of) (sym kept);
  some = subst (All HasPages) (sym regions) s.some;
  shared = λ g. made-shared pages old new made g ∙ has-with old tvm s gpa n g ∙ ap (owners.has g) (sym more);
  each_once = subst AreDistinct (sym more) (distinct-with tvm s.each_once gpa n all);
  inside = λ g h. ap (λ areas. covers areas g) regions ∙ elim (or_cases (has_shared old g) (has_guest g pages) (sym (made-shared pages old new made g) ∙ h)) [
    | inl there ↦ s.inside g there
    | inr here ↦ held_page pages old.regions g ((all-private-agrees old tvm s gpa n).1 all).region here
  ];
}
  where
    pages : Area
    pages = pages_at gpa n

pub unshared-stand : UnsharedStand
unshared-stand old new tvm next s gpa n made regions kept less = record {
  regions = regions ∙ s.regions ∙ ap (map area_of) (sym kept);
  some = subst (All HasPages) (sym regions) s.some;
  shared = λ g. made-private pages old new made g ∙ has-without old tvm s gpa n g ∙ ap (owners.has g) (sym less);
  each_once = subst AreDistinct (sym less) (distinct-without tvm s.each_once gpa n);
  inside = λ g h. ap (λ areas. covers areas g) regions ∙ s.inside g (and_parts (has_shared old g) _ (sym (made-private pages old new made g) ∙ h)).0;
}
  where
    pages : Area
    pages = pages_at gpa n
