-- Rows out of which pages are cut: the row that has them leaves its parts before and after.
use Rattle.std.proofs.Common.{◌≡◌, ℕ, ◌+◌, ◌<◌, ◌≤◌, Bool, true, false, not, ◌&&◌, ◌||◌, inl, inr, List, [], ◌∷◌, ◌++◌, length, get_or, refl, sym, ◌∙◌, ap, subst, arith}
use Rattle.std.specs.List.{All, remove}
use Rattle.std.specs.Prelude.{if◌then◌else◌}
use Rattle.std.proofs.lemmas.Bool.{cases_Bool, cases_lt, false_from_ne_true, le-ltb, lt-ltb}
use Rattle.std.proofs.lemmas.Bool.Decides.{nat_tests}
use Rattle.std.proofs.lemmas.List.{length-append}
use Rattle.std.proofs.lemmas.List.Edits.{length-remove}
use Rattle.cove_region.specs.declared.areas.Area.{Area}
use Rattle.cove_region.specs.GuestMaps.{covers, has_guest, holds}
use Rattle.cove_region.specs.Rows.{AreApart, AreRows, HasPages, part_after, part_before, rows_cut, rows_with}
use Rattle.cove_region.proofs.AreaLemmas.{All-push, All-removed, has_means, has_none, holds_means, list_any-remove, some_place}
use Rattle.cove_region.proofs.RowLemmas.{covers-push, flip_apart, rows_push, rows_without}

-- ---- a row that is put in unless it is empty

with_some : (rows : List Area) (p : Area) → HasPages p → rows_with rows p ≡ rows ++ p ∷ []
with_some rows p some = ap (λ b. if b then rows ++ p ∷ [] else rows) (lt-ltb p.first p.end some)

with_none : (rows : List Area) (p : Area) → p.end ≤ p.first → rows_with rows p ≡ rows
with_none rows p none = ap (λ b. if b then rows ++ p ∷ [] else rows) (le-ltb p.first p.end none)

rows_with_lawful : (rows : List Area) (p : Area) → AreRows rows → (HasPages p → All (AreApart p) rows) → AreRows (rows_with rows p)
rows_with_lawful rows p lawful apart =
    elim (cases_lt p.first p.end) [
      | inl some ↦ subst AreRows (sym (with_some rows p some)) (rows_push rows p lawful some (apart some))
      | inr none ↦ subst AreRows (sym (with_none rows p none)) lawful
    ]

All-with : (P : Area → Type 0) (rows : List Area) (p : Area) → All P rows → (HasPages p → P p) → All P (rows_with rows p)
All-with P rows p all here =
    elim (cases_lt p.first p.end) [
      | inl some ↦ subst (All P) (sym (with_some rows p some)) (All-push P rows p all (here some))
      | inr none ↦ subst (All P) (sym (with_none rows p none)) all
    ]

or_none : (a : Bool) → a ≡ (a || false)
or_none true = refl
or_none false = refl

empty_has : (g : ℕ) (p : Area) → p.end ≤ p.first → has_guest g p ≡ false
empty_has g p none = elim (cases_lt g p.first) [ inl lt ↦ has_none g p (inl lt) | inr le ↦ has_none g p (inr (omega arith)) ]

covers-with : (rows : List Area) (p : Area) (g : ℕ) → covers (rows_with rows p) g ≡ (covers rows g || has_guest g p)
covers-with rows p g =
    elim (cases_lt p.first p.end) [
      | inl some ↦ ap (λ xs. covers xs g) (with_some rows p some) ∙ covers-push rows p g
      | inr none ↦ ap (λ xs. covers xs g) (with_none rows p none) ∙ or_none (covers rows g) ∙ ap (λ b. covers rows g || b) (sym (empty_has g p none))
    ]

length-with_some : (rows : List Area) (p : Area) → HasPages p → length (rows_with rows p) ≡ length rows + 1
length-with_some rows p some = ap length (with_some rows p some) ∙ length-append rows (p ∷ [])

length-with_none : (rows : List Area) (p : Area) → p.end ≤ p.first → length (rows_with rows p) ≡ length rows
length-with_none rows p none = ap length (with_none rows p none)

length-with : (rows : List Area) (p : Area) → length (rows_with rows p) ≤ length rows + 1
length-with rows p =
    elim (cases_lt p.first p.end) [
      | inl some ↦ let n = length-with_some rows p some in omega arith
      | inr none ↦ let n = length-with_none rows p none in omega arith
    ]

-- ---- pages that are cut out of a row

apart_part : (row p x : Area) → AreApart row x → row.first ≤ p.first → p.end ≤ row.end → AreApart p x
apart_part row p x (inl lt) low high = inl (omega arith)
apart_part row p x (inr lt) low high = inr (omega arith)

pub cut_rows : (rows : List Area) (place : ℕ) (d pages : Area) → AreRows rows → place < length rows → holds pages (get_or rows place d) ≡ true
    → HasPages pages → AreRows (rows_cut rows place (get_or rows place d) pages)
cut_rows rows place d pages lawful within held some =
    let row : Area = get_or rows place d in
    let bounds = holds_means pages row held in
    let low : row.first ≤ pages.first = bounds.0 in
    let high : pages.end ≤ row.end = bounds.1 in
    let apart : All (AreApart row) (remove rows place) = All-removed AreApart flip_apart rows place d within lawful.apart in
    rows_with_lawful (rows_with (remove rows place) (part_before row pages)) (part_after row pages)
    (rows_with_lawful (remove rows place) (part_before row pages) (rows_without rows place within lawful)
    (λ before k e below. apart_part row (part_before row pages) (get_or (remove rows place) k e) (apart k e below) (omega arith) (omega (arith, low, high, some))))
    (λ after. All-with (AreApart (part_after row pages)) (remove rows place) (part_before row pages)
    (λ k e below. apart_part row (part_after row pages) (get_or (remove rows place) k e) (apart k e below) (omega (arith, low, high, some)) (omega arith))
    (λ before. inr (omega (arith, some))))

both_have : (g : ℕ) (a b : Area) → AreApart a b → has_guest g a ≡ true → has_guest g b ≡ true → ⊥
both_have g a b (inl lt) h h' = let m = has_means g a h in let m' = has_means g b h' in omega (arith, m.0, m.1, m'.0, m'.1)
both_have g a b (inr lt) h h' = let m = has_means g a h in let m' = has_means g b h' in omega (arith, m.0, m.1, m'.0, m'.1)

-- a page of the row that is taken out is in no other
rest_free : (rows : List Area) (place : ℕ) (d : Area) (g : ℕ) → AreRows rows → place < length rows → has_guest g (get_or rows place d) ≡ true
    → covers (remove rows place) g ≡ false
rest_free rows place d g lawful within here =
    false_from_ne_true (covers (remove rows place) g) (λ there.
    let other = some_place (has_guest g) (remove rows place) there in
    both_have g (get_or rows place d) (get_or (remove rows place) other.0 d)
    (All-removed AreApart flip_apart rows place d within lawful.apart other.0 d other.1) here (other.2 d))

part_has : (g : ℕ) (row pages : Area) → row.first ≤ pages.first → pages.end ≤ row.end → pages.first < pages.end → has_guest g pages ≡ true
    → (has_guest g row ≡ true) × (has_guest g (part_before row pages) ≡ false) × (has_guest g (part_after row pages) ≡ false)
part_has g row pages low high some here = (grind (arith, nat_tests), grind (arith, nat_tests), grind (arith, nat_tests))

part_has_not : (g : ℕ) (row pages : Area) → row.first ≤ pages.first → pages.end ≤ row.end → pages.first < pages.end → has_guest g pages ≡ false
    → has_guest g row ≡ (has_guest g (part_before row pages) || has_guest g (part_after row pages))
part_has_not g row pages low high some here = grind (arith, nat_tests)

cut_in : (a b c h w : Bool) → h ≡ true → a ≡ false → b ≡ false → c ≡ false → ((a || b) || c) ≡ (w && not h)
cut_in a b c h w here none before after = grind arith

cut_out : (a b c h w r : Bool) → h ≡ false → r ≡ (b || c) → w ≡ (r || a) → ((a || b) || c) ≡ (w && not h)
cut_out a b c h w r out row whole = grind arith

pub covers-cut : (rows : List Area) (place : ℕ) (d pages : Area) → AreRows rows → place < length rows → holds pages (get_or rows place d) ≡ true
    → HasPages pages → (g : ℕ) → covers (rows_cut rows place (get_or rows place d) pages) g ≡ (covers rows g && not (has_guest g pages))
covers-cut rows place d pages lawful within held some g =
    let row : Area = get_or rows place d in
    let bounds = holds_means pages row held in
    let rest = remove rows place in
    covers-with (rows_with rest (part_before row pages)) (part_after row pages) g
    ∙ ap (λ b. b || has_guest g (part_after row pages)) (covers-with rest (part_before row pages) g)
    ∙ elim (cases_Bool (has_guest g pages)) [
      | inl here ↦
          let m = part_has g row pages bounds.0 bounds.1 some here in
          cut_in (covers rest g) (has_guest g (part_before row pages)) (has_guest g (part_after row pages)) (has_guest g pages) (covers rows g) here
          (rest_free rows place d g lawful within m.0) m.1 m.2
      | inr out ↦
          cut_out (covers rest g) (has_guest g (part_before row pages)) (has_guest g (part_after row pages)) (has_guest g pages) (covers rows g) (has_guest g row) out
          (part_has_not g row pages bounds.0 bounds.1 some out) (list_any-remove (has_guest g) rows place d within)
    ]

-- ---- how many rows are left

pub cut_full : (rows : List Area) (place : ℕ) (row pages : Area) → place < length rows → row.first < pages.first → pages.end < row.end
    → length (rows_cut rows place row pages) ≡ length rows + 1
cut_full rows place row pages within before after =
    let removed = length-remove rows place within in
    let first = length-with_some (remove rows place) (part_before row pages) before in
    let second = length-with_some (rows_with (remove rows place) (part_before row pages)) (part_after row pages) after in
    omega arith

pub cut_room : (rows : List Area) (place : ℕ) (row pages : Area) (limit : ℕ) → place < length rows → length rows ≤ limit
    → (length rows ≡ limit → row.first < pages.first → pages.end < row.end → ⊥) → length (rows_cut rows place row pages) ≤ limit
cut_room rows place row pages limit within few room =
    let removed = length-remove rows place within in
    let first = length-with (remove rows place) (part_before row pages) in
    let second = length-with (rows_with (remove rows place) (part_before row pages)) (part_after row pages) in
    elim (cases_lt (length rows) limit) [
      | inl lt ↦ omega arith
      | inr le ↦ elim (cases_lt row.first pages.first) [
        | inr none ↦ let empty = length-with_none (remove rows place) (part_before row pages) none in omega arith
        | inl before ↦ elim (cases_lt pages.end row.end) [
          | inr none ↦ let empty = length-with_none (rows_with (remove rows place) (part_before row pages)) (part_after row pages) none in omega arith
          | inl after ↦ absurd (room (omega arith) before after)
        ]
      ]
    ]
