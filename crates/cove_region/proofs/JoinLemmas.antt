-- What the joining of pages to rows comes to, from the place that a search found.
use Rattle.std.proofs.Common.{◌≡◌, ℕ, ◌<◌, ◌≤◌, true, false, ◌⊎◌, inl, inr, List, [], ◌∷◌, ◌++◌, length, get_or, sym, ap, subst, arith, Some}
use Rattle.std.specs.List.{list_any, All, position, remove}
use Rattle.std.proofs.lemmas.Bool.{both_ways, cases_Bool, eqb-true, or_cases}
use Rattle.std.proofs.lemmas.List.Quantifiers.{position-Some}
use Rattle.cove_base.specs.declared.limits.TheConstants.{SHARED_RUN_LIMIT}
use Rattle.cove_region.specs.declared.areas.Area.{Area}
use Rattle.cove_region.specs.GuestMaps.{GuestMap, meets}
use Rattle.cove_region.specs.Rows.{AreApartBefore, AreRows, HasPages, JoinsAfter, JoinsBefore, adjoin, begins_at, ends_at}
use Rattle.cove_region.proofs.RowLemmas.{joins_after, joins_before, rows_push}

pub joins_before_at : (rows new : List Area) (pages row : Area) (place : ℕ) → AreRows rows → HasPages pages → list_any (meets pages) rows ≡ false
    → position (ends_at pages.first) rows ≡ Some place → new ≡ remove rows place → row ≡ get_or rows place row
    → JoinsBefore rows pages new (record { first = row.first; end = pages.end })
joins_before_at rows new pages row place lawful some free found left taken =
    let hit = position-Some (ends_at pages.first) rows place row found in
    subst (λ xs. JoinsBefore rows pages xs (record { first = row.first; end = pages.end })) (sym left)
    (subst (λ (a : Area). JoinsBefore rows pages (remove rows place) (record { first = a.first; end = pages.end })) (sym taken)
    (joins_before rows pages place row lawful some free hit.0 (eqb-true _ _ hit.1)))

pub joins_after_at : (rows new : List Area) (pages row : Area) (place : ℕ) → AreRows rows → HasPages pages → All (AreApartBefore pages) rows
    → position (begins_at pages.end) rows ≡ Some place → new ≡ remove rows place → row ≡ get_or rows place row
    → JoinsAfter rows pages new (record { first = pages.first; end = row.end })
joins_after_at rows new pages row place lawful some before found left taken =
    let hit = position-Some (begins_at pages.end) rows place row found in
    subst (λ xs. JoinsAfter rows pages xs (record { first = pages.first; end = row.end })) (sym left)
    (subst (λ (a : Area). JoinsAfter rows pages (remove rows place) (record { first = pages.first; end = a.end })) (sym taken)
    (joins_after rows pages place row lawful some before hit.0 (eqb-true _ _ hit.1)))

no_longer_before : (old mid : List Area) (pages longer : Area) → JoinsBefore old pages mid longer → length mid ≤ length old
no_longer_before old mid pages longer b =
    elim (cases_Bool (list_any (ends_at pages.first) old)) [
      | inl there ↦ let less = b.fewer there in omega arith
      | inr none ↦ let same = ap length (b.none none) in omega arith
    ]

no_longer_after : (old new : List Area) (pages joined : Area) → JoinsAfter old pages new joined → length new ≤ length old
no_longer_after old new pages joined a =
    elim (cases_Bool (list_any (begins_at pages.end) old)) [
      | inl there ↦ let less = a.fewer there in omega arith
      | inr none ↦ let same = ap length (a.none none) in omega arith
    ]

-- there is room for the row in which the pages end up
pub join_room : (old mid new : List Area) (pages longer joined : Area) → JoinsBefore old pages mid longer → JoinsAfter mid longer new joined
    → length old ≤ SHARED_RUN_LIMIT → (length old < SHARED_RUN_LIMIT) ⊎ (adjoin old pages ≡ true) → length new < SHARED_RUN_LIMIT
join_room old mid new pages longer joined b a few (inl lt) =
    let first = no_longer_before old mid pages longer b in let second = no_longer_after mid new longer joined a in omega arith
join_room old mid new pages longer joined b a few (inr beside) =
    elim (cases_Bool (list_any (ends_at pages.first) old)) [
      | inl there ↦ let first = b.fewer there in let second = no_longer_after mid new longer joined a in omega arith
      | inr none ↦ elim (or_cases (list_any (ends_at pages.first) old) (list_any (begins_at pages.end) old) beside) [
        | inl there ↦ absurd (both_ways (list_any (ends_at pages.first) old) none there)
        | inr there ↦
            let same = b.none none in
            let still : list_any (begins_at pages.end) mid ≡ true = subst (λ xs. list_any (begins_at pages.end) xs ≡ true) (sym same) there in
            let second = a.fewer (subst (λ n. list_any (begins_at n) mid ≡ true) (sym b.end) still) in
            let lengths = ap length same in omega arith
      ]
    ]

pub join_lawful : (mid new : List Area) (longer joined : Area) → JoinsAfter mid longer new joined → AreRows (new ++ joined ∷ [])
join_lawful mid new longer joined a = rows_push new joined a.rows a.some a.apart

-- a fact about a map and pages, at what they are equal to
pub carried : (P : GuestMap → Area → Type 0) (m m' : GuestMap) (p p' : Area) → m ≡ m' → p ≡ p' → P m p → P m' p'
carried P m m' p p' e e' h = subst (λ x. P x p') e (subst (P m) e' h)
