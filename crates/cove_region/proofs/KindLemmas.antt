-- The kinds of guest pages: what a call finds of them, and what it leaves.
use Rattle.std.proofs.Common.{◌≡◌, ℕ, ◌<◌, ◌≤◌, Bool, true, false, not, ◌&&◌, ◌||◌, inl, inr, List, [], ◌∷◌, ◌++◌, length, get_or, refl, sym, ◌∙◌, subst, arith}
use Rattle.std.specs.List.{list_any, All}
use Rattle.std.specs.Prelude.{if◌then◌else◌}
use Rattle.std.proofs.lemmas.Bool.{both_ways, cases_lt, false_from_ne_true, or_left, or_parts}
use Rattle.std.proofs.lemmas.Bool.Decides.{nat_tests}
use Rattle.std.proofs.lemmas.List.{length-append}
use Rattle.std.proofs.lemmas.List.Folds.{list_any_at}
use Rattle.std.proofs.lemmas.List.Quantifiers.{all_pairs_push}
use Rattle.cove_base.specs.declared.limits.TheConstants.{REGION_LIMIT, SHARED_RUN_LIMIT}
use Rattle.cove_region.specs.declared.areas.Area.{Area}
use Rattle.cove_region.specs.declared.kinds.AreaKind.{AreaKind}
use Rattle.cove_region.specs.declared.kinds.AreaKind.TheVariants.{Outside, Private, Shared}
use Rattle.cove_region.specs.GuestMaps.{AreAll, AreMade, AreOfOneRegion, FormTooManyRows, covers, has_guest, has_shared_with, has_shared_without, holds, meets}
use Rattle.cove_region.specs.Rows.{AreApart, AreDisjoint, AreKept, AreRows, HasPages, adjoin, begins_at, ends_at, rows_cut}
use Rattle.cove_region.proofs.AreaLemmas.{All-push, all_fail, has_from, has_means, holds_means, meets_means, some_place}
use Rattle.cove_region.proofs.RowLemmas.{covers-push, few_enough, form_rows, form_same, free_rows, joins_none_after, joins_none_before, rows_apart, rows_push}
use Rattle.cove_region.proofs.CutLemmas.{covers-cut, cut_full, cut_rows}

-- ---- pages of areas that are free of them, hold them, or have one of them

apart_page : (g : ℕ) (p a : Area) → AreDisjoint p a → has_guest g p ≡ true → has_guest g a ≡ true → ⊥
apart_page g p a (inl le) h h' = let m = has_means g p h in let m' = has_means g a h' in omega (arith, m.0, m.1, m'.0, m'.1)
apart_page g p a (inr le) h h' = let m = has_means g p h in let m' = has_means g a h' in omega (arith, m.0, m.1, m'.0, m'.1)

pub free_page : (pages : Area) (areas : List Area) (g : ℕ) → list_any (meets pages) areas ≡ false → has_guest g pages ≡ true → covers areas g ≡ false
free_page pages areas g free here =
    let d : Area = record { first = 0; end = 0 } in
    false_from_ne_true (covers areas g) (λ there.
    let found = some_place (has_guest g) areas there in
    apart_page g pages (get_or areas found.0 d) (free_rows pages areas free found.0 d found.1) here (found.2 d))

held_by : (pages a : Area) (g : ℕ) → holds pages a ≡ true → has_guest g pages ≡ true → has_guest g a ≡ true
held_by pages a g held here = let b = holds_means pages a held in let m = has_means g pages here in has_from g a (omega (arith, b.0, m.0)) (omega (arith, b.1, m.1))

pub held_page : (pages : Area) (areas : List Area) (g : ℕ) → list_any (holds pages) areas ≡ true → has_guest g pages ≡ true → covers areas g ≡ true
held_page pages areas g held here =
    let d : Area = record { first = 0; end = 0 } in
    let found = some_place (holds pages) areas held in
    list_any_at (has_guest g) areas found.0 d found.1 (held_by pages (get_or areas found.0 d) g (found.2 d) here)

shared_page : (p a : Area) → HasPages p → HasPages a → meets p a ≡ true → (g : ℕ) × (has_guest g p ≡ true) × (has_guest g a ≡ true)
shared_page p a some some' met =
    let m = meets_means p a met in
    elim (cases_lt p.first a.first) [
      | inl lt ↦ (a.first, has_from a.first p (omega arith) (omega (arith, m.0)), has_from a.first a (omega arith) (omega (arith, some')))
      | inr le ↦ (p.first, has_from p.first p (omega arith) (omega (arith, some)), has_from p.first a (omega arith) (omega (arith, m.1)))
    ]

pub met_page : (pages : Area) (areas : List Area) → HasPages pages → All HasPages areas → list_any (meets pages) areas ≡ true
    → (g : ℕ) × (has_guest g pages ≡ true) × (covers areas g ≡ true)
met_page pages areas some all met =
    let d : Area = record { first = 0; end = 0 } in
    let found = some_place (meets pages) areas met in
    let page = shared_page pages (get_or areas found.0 d) some (all found.0 d found.1) (found.2 d) in
    (page.0, page.1, list_any_at (has_guest page.0) areas found.0 d found.1 page.2)

-- ---- kinds as two tests: in a row, in a region

kind : (s r : Bool) → AreaKind
kind s r = if s then Shared else (if r then Private else Outside)

is_outside : (s r : Bool) → s ≡ false → r ≡ false → kind s r ≡ Outside
unfolding kind
is_outside true r p q = absurd (both_ways true p refl)
is_outside false true p q = absurd (both_ways true q refl)
is_outside false false p q = refl

is_private : (s r : Bool) → s ≡ false → r ≡ true → kind s r ≡ Private
unfolding kind
is_private true r p q = absurd (both_ways true p refl)
is_private false true p q = refl
is_private false false p q = absurd (both_ways false refl q)

is_shared : (s r : Bool) → s ≡ true → kind s r ≡ Shared
unfolding kind
is_shared true r p = refl
is_shared false r p = absurd (both_ways false refl p)

not_outside : (s r : Bool) → r ≡ true → kind s r ≡ Outside → ⊥
unfolding kind
not_outside true r q h = cc
not_outside false true q h = cc
not_outside false false q h = absurd (both_ways false refl q)

shared_means : (s r : Bool) → kind s r ≡ Shared → s ≡ true
unfolding kind
shared_means true r h = refl
shared_means false true h = absurd (cc)
shared_means false false h = absurd (cc)

private_means : (s r : Bool) → kind s r ≡ Private → s ≡ false
unfolding kind
private_means true r h = absurd (cc)
private_means false r h = refl

kinds_added : (h s r r' : Bool) → r' ≡ (r || h) → (h ≡ true → s ≡ false) → kind s r' ≡ (if h then Private else kind s r)
unfolding kind
kinds_added true true r r' e free = absurd (both_ways true (free refl) refl)
kinds_added true false true true e free = refl
kinds_added true false true false e free = absurd (both_ways false refl e)
kinds_added true false false true e free = refl
kinds_added true false false false e free = absurd (both_ways false refl e)
kinds_added false s true true e free = refl
kinds_added false s true false e free = absurd (both_ways false refl e)
kinds_added false s false true e free = absurd (both_ways true e refl)
kinds_added false s false false e free = refl

kinds_shared : (h s r s' : Bool) → s' ≡ (s || h) → kind s' r ≡ (if h then Shared else kind s r)
unfolding kind
kinds_shared true true r true e = refl
kinds_shared true false r true e = refl
kinds_shared true true r false e = absurd (both_ways false refl e)
kinds_shared true false r false e = absurd (both_ways false refl e)
kinds_shared false true r true e = refl
kinds_shared false true r false e = absurd (both_ways false refl e)
kinds_shared false false r true e = absurd (both_ways true e refl)
kinds_shared false false r false e = refl

kinds_unshared : (h s r s' : Bool) → s' ≡ (s && not h) → (h ≡ true → r ≡ true) → kind s' r ≡ (if h then Private else kind s r)
unfolding kind
kinds_unshared true true true false e in_region = refl
kinds_unshared true false true false e in_region = refl
kinds_unshared true true false false e in_region = absurd (both_ways false refl (in_region refl))
kinds_unshared true false false false e in_region = absurd (both_ways false refl (in_region refl))
kinds_unshared true true r true e in_region = absurd (both_ways true e refl)
kinds_unshared true false r true e in_region = absurd (both_ways true e refl)
kinds_unshared false true r true e in_region = refl
kinds_unshared false true r false e in_region = absurd (both_ways false refl e)
kinds_unshared false false r true e in_region = absurd (both_ways true e refl)
kinds_unshared false false r false e in_region = refl

-- ---- add

-- a page outside of the regions is in no row
no_row : (regions rows : List Area) (g : ℕ) → AreKept regions rows → covers regions g ≡ false → covers rows g ≡ false
no_row regions rows g kept out = false_from_ne_true (covers rows g) (λ there. both_ways (covers regions g) out (kept.inside g there))

pub add_free : (regions rows : List Area) (pages : Area) → AreKept regions rows → list_any (meets pages) regions ≡ false
    → AreAll (record { regions = regions; rows = rows }) Outside pages
unfolding kind
add_free regions rows pages kept free g here =
    let out = free_page pages regions g free here in
    is_outside (covers rows g) (covers regions g) (no_row regions rows g kept out) out

pub add_taken : (regions rows : List Area) (pages : Area) → AreKept regions rows → HasPages pages → list_any (meets pages) regions ≡ true
    → AreAll (record { regions = regions; rows = rows }) Outside pages → ⊥
unfolding kind
add_taken regions rows pages kept some met all =
    let page = met_page pages regions some kept.some met in
    not_outside (covers rows page.0) (covers regions page.0) page.2 (all page.0 page.1)

pub add_made : (regions rows : List Area) (pages : Area) → AreKept regions rows → list_any (meets pages) regions ≡ false
    → AreMade Private pages (record { regions = regions; rows = rows }) (record { regions = regions ++ pages ∷ []; rows = rows })
unfolding kind
add_made regions rows pages kept free g =
    kinds_added (has_guest g pages) (covers rows g) (covers regions g) (covers (regions ++ pages ∷ []) g) (covers-push regions pages g)
    (λ here. no_row regions rows g kept (free_page pages regions g free here))

pub add_kept : (regions rows : List Area) (pages : Area) → AreKept regions rows → HasPages pages → list_any (meets pages) regions ≡ false
    → length regions < REGION_LIMIT → AreKept (regions ++ pages ∷ []) rows
add_kept regions rows pages kept some free room = record {
  few_regions = let n = length-append regions (pages ∷ []) in omega arith;
  few_rows = kept.few_rows;
  some = All-push HasPages regions pages kept.some some;
  disjoint = all_pairs_push AreDisjoint regions pages kept.disjoint (λ k d below. flip_disjoint pages (get_or regions k d) (free_rows pages regions free k d below));
  maximal = kept.maximal;
  inside = λ g here. covers-push regions pages g ∙ or_left (covers regions g) (has_guest g pages) (kept.inside g here);
}
  where
    flip_disjoint : (a b : Area) → AreDisjoint a b → AreDisjoint b a
    flip_disjoint a b (inl le) = inr le
    flip_disjoint a b (inr le) = inl le

-- ---- share

pub share_inside : (regions rows : List Area) (pages : Area) → list_any (holds pages) regions ≡ true → list_any (meets pages) rows ≡ false
    → AreOfOneRegion (record { regions = regions; rows = rows }) Private pages
unfolding kind
share_inside regions rows pages held free = record {
  region = held;
  kinds = λ g here. is_private (covers rows g) (covers regions g) (free_page pages rows g free here) (held_page pages regions g held here);
}

pub share_taken : (regions rows : List Area) (pages : Area) → AreKept regions rows → HasPages pages → list_any (meets pages) rows ≡ true
    → AreOfOneRegion (record { regions = regions; rows = rows }) Private pages → ⊥
unfolding kind
share_taken regions rows pages kept some met all =
    let page = met_page pages rows some kept.maximal.some met in
    both_ways (covers rows page.0) (private_means (covers rows page.0) (covers regions page.0) (all.kinds page.0 page.1)) page.2

pub share_made : (regions rows new : List Area) (pages : Area) → ((g : ℕ) → covers new g ≡ (covers rows g || has_guest g pages))
    → AreMade Shared pages (record { regions = regions; rows = rows }) (record { regions = regions; rows = new })
unfolding kind
share_made regions rows new pages joined g = kinds_shared (has_guest g pages) (covers rows g) (covers regions g) (covers new g) (joined g)

pub share_kept : (regions rows new : List Area) (pages : Area) → AreKept regions rows → list_any (holds pages) regions ≡ true → AreRows new
    → length new ≤ SHARED_RUN_LIMIT → ((g : ℕ) → covers new g ≡ (covers rows g || has_guest g pages)) → AreKept regions new
share_kept regions rows new pages kept held lawful few joined = record {
  few_regions = kept.few_regions;
  few_rows = few;
  some = kept.some;
  disjoint = kept.disjoint;
  maximal = lawful;
  inside = λ g here. within g (covers rows g) (has_guest g pages) refl refl (sym (joined g) ∙ here);
}
  where
    within : (g : ℕ) (s h : Bool) → covers rows g ≡ s → has_guest g pages ≡ h → (s || h) ≡ true → covers regions g ≡ true
    within g true h row page either = kept.inside g row
    within g false true row page either = held_page pages regions g held page
    within g false false row page either = absurd (both_ways false refl either)

pub share_full : (regions rows : List Area) (pages : Area) → AreKept regions rows → HasPages pages → list_any (meets pages) rows ≡ false
    → adjoin rows pages ≡ false → length rows ≡ SHARED_RUN_LIMIT → FormTooManyRows (has_shared_with (record { regions = regions; rows = rows }) pages)
share_full regions rows pages kept some free alone full =
    let parts = or_parts (list_any (ends_at pages.first) rows) (list_any (begins_at pages.end) rows) alone in
    let before = joins_none_before rows pages kept.maximal some free parts.0 in
    let after = joins_none_after rows pages kept.maximal some before.apart parts.1 in
    let lawful : AreRows (rows ++ pages ∷ []) = rows_push rows pages kept.maximal some after.apart in (
      length (rows ++ pages ∷ []),
      form_same (covers (rows ++ pages ∷ [])) (has_shared_with (record { regions = regions; rows = rows }) pages) _ (covers-push rows pages) (form_rows (rows ++ pages ∷ []) lawful),
      (let n = length-append rows (pages ∷ []) in omega arith),
    )

pub share_few : (regions rows new : List Area) (pages : Area) → AreRows new → length new ≤ SHARED_RUN_LIMIT
    → ((g : ℕ) → covers new g ≡ (covers rows g || has_guest g pages)) → FormTooManyRows (has_shared_with (record { regions = regions; rows = rows }) pages) → ⊥
share_few regions rows new pages lawful few joined =
    few_enough (has_shared_with (record { regions = regions; rows = rows }) pages) (length new)
    (form_same (covers new) (has_shared_with (record { regions = regions; rows = rows }) pages) (length new) joined (form_rows new lawful)) few

-- ---- unshare

pub unshare_inside : (regions rows : List Area) (place : ℕ) (d pages : Area) → list_any (holds pages) regions ≡ true → place < length rows
    → holds pages (get_or rows place d) ≡ true → AreOfOneRegion (record { regions = regions; rows = rows }) Shared pages
unfolding kind
unshare_inside regions rows place d pages held within here = record {
  region = held;
  kinds = λ g page. is_shared (covers rows g) (covers regions g) (list_any_at (has_guest g) rows place d within (held_by pages (get_or rows place d) g here page));
}

not_held : (p a : Area) → holds p a ≡ false → has_guest p.first a ≡ true → a.end < p.end
not_held p a none first = let m = has_means p.first a first in grind (arith, nat_tests)

past_end : (a b : Area) → AreApart a b → has_guest a.end b ≡ true → HasPages a → ⊥
past_end a b (inl lt) h some = let m = has_means a.end b h in omega (arith, m.0, m.1, some)
past_end a b (inr lt) h some = let m = has_means a.end b h in omega (arith, m.0, m.1, some)

-- shared pages in a row lie in one of the rows
pub unshare_outside : (regions rows : List Area) (pages : Area) → AreKept regions rows → HasPages pages → list_any (holds pages) rows ≡ false
    → AreOfOneRegion (record { regions = regions; rows = rows }) Shared pages → ⊥
unfolding kind
unshare_outside regions rows pages kept some none all =
    let d : Area = record { first = 0; end = 0 } in
    let first = shared_means (covers rows pages.first) (covers regions pages.first) (all.kinds pages.first (has_from pages.first pages (omega arith) some)) in
    let one = some_place (has_guest pages.first) rows first in
    let a : Area = get_or rows one.0 d in
    let m = has_means pages.first a (one.2 d) in
    let short : a.end < pages.end = not_held pages a (all_fail (holds pages) rows none one.0 d one.1) (one.2 d) in
    let next = shared_means (covers rows a.end) (covers regions a.end) (all.kinds a.end (has_from a.end pages (omega (arith, m.1)) short)) in
    let two = some_place (has_guest a.end) rows next in
    elim (rows_apart rows one.0 two.0 d kept.maximal.apart one.1 two.1) [
      | inl same ↦ let end = has_means a.end a (subst (λ i. has_guest a.end (get_or rows i d) ≡ true) (sym same) (two.2 d)) in omega (arith, end.1)
      | inr apart ↦ past_end a (get_or rows two.0 d) apart (two.2 d) (kept.maximal.some one.0 d one.1)
    ]

pub unshare_made : (regions rows new : List Area) (pages : Area) → list_any (holds pages) regions ≡ true
    → ((g : ℕ) → covers new g ≡ (covers rows g && not (has_guest g pages)))
    → AreMade Private pages (record { regions = regions; rows = rows }) (record { regions = regions; rows = new })
unfolding kind
unshare_made regions rows new pages held cut g =
    kinds_unshared (has_guest g pages) (covers rows g) (covers regions g) (covers new g) (cut g) (held_page pages regions g held)

pub unshare_kept : (regions rows new : List Area) (pages : Area) → AreKept regions rows → AreRows new → length new ≤ SHARED_RUN_LIMIT
    → ((g : ℕ) → covers new g ≡ (covers rows g && not (has_guest g pages))) → AreKept regions new
unshare_kept regions rows new pages kept lawful few cut = record {
  few_regions = kept.few_regions;
  few_rows = few;
  some = kept.some;
  disjoint = kept.disjoint;
  maximal = lawful;
  inside = λ g here. kept.inside g (was (covers rows g) (has_guest g pages) (sym (cut g) ∙ here));
}
  where
    was : (s h : Bool) → (s && not h) ≡ true → s ≡ true
    was true h both = refl
    was false h both = absurd (both_ways false refl both)

pub unshare_full : (regions rows : List Area) (place : ℕ) (d pages : Area) → AreKept regions rows → HasPages pages → place < length rows
    → holds pages (get_or rows place d) ≡ true → length rows ≡ SHARED_RUN_LIMIT → (get_or rows place d).first < pages.first → pages.end < (get_or rows place d).end
    → FormTooManyRows (has_shared_without (record { regions = regions; rows = rows }) pages)
unshare_full regions rows place d pages kept some within held full before after =
    let row : Area = get_or rows place d in
    let n = cut_full rows place row pages within before after in (
      length (rows_cut rows place row pages),
      form_same (covers (rows_cut rows place row pages)) (has_shared_without (record { regions = regions; rows = rows }) pages) _
          (covers-cut rows place d pages kept.maximal within held some) (form_rows (rows_cut rows place row pages) (cut_rows rows place d pages kept.maximal within held some)),
      omega arith,
    )

pub unshare_few : (regions rows new : List Area) (pages : Area) → AreRows new → length new ≤ SHARED_RUN_LIMIT
    → ((g : ℕ) → covers new g ≡ (covers rows g && not (has_guest g pages))) → FormTooManyRows (has_shared_without (record { regions = regions; rows = rows }) pages) → ⊥
unshare_few regions rows new pages lawful few cut =
    few_enough (has_shared_without (record { regions = regions; rows = rows }) pages) (length new)
    (form_same (covers new) (has_shared_without (record { regions = regions; rows = rows }) pages) (length new) cut (form_rows new lawful)) few
