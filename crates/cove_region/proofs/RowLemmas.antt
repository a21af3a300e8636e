-- Rows: how many there are, and what stays of them where pages are joined to them or cut out.
use Rattle.std.proofs.Common.{◌≡◌, ◌≢◌, ℕ, ◌-◌, ◌<◌, ◌≤◌, Bool, true, false, not, ◌&&◌, ◌||◌, ◌==◌, eqb, ◌⊎◌, inl, inr, List, [], ◌∷◌, ◌++◌, length, get_or, map, refl, sym, ◌∙◌, ap, subst, arith, None}
use Rattle.std.specs.List.{list_any, All, AllPairs, position, position_or_len, remove}
use Rattle.std.proofs.lemmas.Bool.{and_from, and_parts, both_ways, cases_Bool, cases_eq, cases_order, eq-eqb, eqb-false, eqb-true, false_from_ne_true, not-true, not_from_false, ne_eqb, or_cases, or_left, or_right}
use Rattle.std.proofs.lemmas.Bool.Decides.{nat_tests}
use Rattle.std.proofs.lemmas.Cmp.{nat_eq_equiv}
use Rattle.std.proofs.lemmas.List.{get_or-map, length-map}
use Rattle.std.proofs.lemmas.List.Edits.{length-remove}
use Rattle.std.proofs.lemmas.List.Folds.{list_any-append, list_any_at}
use Rattle.std.proofs.lemmas.List.Quantifiers.{all_pairs_push, all_pairs_remove}
use Rattle.std.proofs.lemmas.Map.Keys.{IsDistinct-from_apart}
use Rattle.std.proofs.lemmas.Map.Made.{length-from_same_keys}
use Rattle.cove_base.specs.declared.limits.TheConstants.{SHARED_RUN_LIMIT}
use Rattle.cove_region.specs.declared.areas.Area.{Area}
use Rattle.cove_region.specs.GuestMaps.{FormRows, FormTooManyRows, begins, covers, has_guest, meets}
use Rattle.cove_region.specs.Rows.{AreApart, AreApartBefore, AreDisjoint, AreRows, HasPages, JoinsAfter, JoinsBefore, begins_at, ends_at}
use Rattle.cove_region.proofs.AreaLemmas.{All-push, All-remove, All-removed, all_fail, has_from, has_means, list_any-remove, meets_not, some_place}

-- ---- how many rows there are

pub bool_iff : (a b : Bool) → (a ≡ true → b ≡ true) → (b ≡ true → a ≡ true) → a ≡ b
bool_iff true b f g = sym (f refl)
bool_iff false b f g = sym (false_from_ne_true b (λ h. both_ways false refl (g h)))

list_any-map : (p : ℕ → Bool) (h : Area → ℕ) (xs : List Area) → list_any p (map h xs) ≡ list_any (λ x. p (h x)) xs
list_any-map p h [] = refl
list_any-map p h (x ∷ xs) = ap (λ b. p (h x) || b) (list_any-map p h xs)

pub flip_apart : (a b : Area) → AreApart a b → AreApart b a
flip_apart a b (inl lt) = inr lt
flip_apart a b (inr lt) = inl lt

pub rows_apart : (rows : List Area) (i j : ℕ) (d : Area) → AllPairs AreApart rows → i < length rows → j < length rows
    → (i ≡ j) ⊎ AreApart (get_or rows i d) (get_or rows j d)
rows_apart rows i j d pairs below below' =
    elim (cases_order i j) [
      | inl same ↦ inl same
      | inr apart ↦ elim apart [ inl lt ↦ inr (pairs i j d lt below') | inr lt ↦ inr (flip_apart _ _ (pairs j i d lt below)) ]
    ]

apart_firsts : (a b : Area) → HasPages a → HasPages b → AreApart a b → a.first ≢ b.first
apart_firsts a b some some' (inl lt) same = omega arith
apart_firsts a b some some' (inr lt) same = omega arith

-- a page that comes after a row's page is its first, if it begins a row
begins_first : (g : ℕ) (a b : Area) → g ≡ a.first → g ≢ 0 → HasPages a → HasPages b → AreApart a b → has_guest (g - 1) b ≡ true → ⊥
begins_first g a b first some pages pages' (inl lt) before = let m = has_means (g - 1) b before in omega (arith, m.0, m.1)
begins_first g a b first some pages pages' (inr lt) before = let m = has_means (g - 1) b before in omega (arith, m.0, m.1)

begins_from : (rows : List Area) → AreRows rows → (g : ℕ) → list_any (λ r. eqb g r.first) rows ≡ true → begins (covers rows) g ≡ true
begins_from rows lawful g found =
    let d : Area = record { first = 0; end = 0 } in
    let place = some_place (λ r. eqb g r.first) rows found in
    let k = place.0 in
    let first : g ≡ (get_or rows k d).first = eqb-true g _ (place.2 d) in
    let some : HasPages (get_or rows k d) = lawful.some k d place.1 in
    let here : covers rows g ≡ true = list_any_at (has_guest g) rows k d place.1 (has_from g (get_or rows k d) (omega (arith, first)) (omega (arith, first, some))) in
    and_from (covers rows g) (g == 0 || not (covers rows (g - 1))) here (elim (cases_eq g 0) [
      | inl zero_page ↦ or_left (g == 0) (not (covers rows (g - 1))) (eq-eqb g 0 zero_page)
      | inr later ↦ or_right (g == 0) (not (covers rows (g - 1))) (not_from_false (covers rows (g - 1)) (false_from_ne_true (covers rows (g - 1)) (λ before.
          let other = some_place (has_guest (g - 1)) rows before in
          let j = other.0 in
          let pages = lawful.some j d other.1 in
          elim (rows_apart rows k j d lawful.apart place.1 other.1) [
            | inl same ↦ let m = has_means (g - 1) (get_or rows k d) (subst (λ i. has_guest (g - 1) (get_or rows i d) ≡ true) (sym same) (other.2 d)) in omega (arith, m.0, first, later)
            | inr apart ↦ begins_first g (get_or rows k d) (get_or rows j d) first later some pages apart (other.2 d)
          ])))
    ])

begins_to : (rows : List Area) → (g : ℕ) → begins (covers rows) g ≡ true → list_any (λ r. eqb g r.first) rows ≡ true
begins_to rows g begun =
    let d : Area = record { first = 0; end = 0 } in
    let parts = and_parts (covers rows g) (g == 0 || not (covers rows (g - 1))) begun in
    let place = some_place (has_guest g) rows parts.0 in
    let k = place.0 in
    let m = has_means g (get_or rows k d) (place.2 d) in
    elim (cases_eq g (get_or rows k d).first) [
      | inl first ↦ list_any_at (λ r. eqb g r.first) rows k d place.1 (eq-eqb g _ first)
      | inr later ↦
          let before : covers rows (g - 1) ≡ true = list_any_at (has_guest (g - 1)) rows k d place.1 (has_from (g - 1) (get_or rows k d) (omega (arith, m.0, later)) (omega (arith, m.1))) in
          elim (or_cases (g == 0) (not (covers rows (g - 1))) parts.1) [
            | inl zero_page ↦ let z = eqb-true g 0 zero_page in absurd (later (omega (arith, m.0, z)))
            | inr free ↦ absurd (both_ways (covers rows (g - 1)) (not-true (covers rows (g - 1)) free) before)
          ]
    ]

-- rows are as many as the places where a row of their pages begins
pub form_rows : (rows : List Area) → AreRows rows → FormRows (covers rows) (length rows)
form_rows rows lawful = record {
  starts = map (λ (r : Area). r.first) rows;
  each_once = IsDistinct-from_apart eqb (map (λ (r : Area). r.first) rows) (λ i j e before below.
      let d : Area = record { first = e; end = e } in
      let n = length-map rows (λ (r : Area). r.first) in
      let within : i < length rows = omega arith in
      let within' : j < length rows = omega arith in
      let first = get_or-map (λ (r : Area). r.first) rows i d e within in
      let first' = get_or-map (λ (r : Area). r.first) rows j d e within' in
      let apart = apart_firsts (get_or rows i d) (get_or rows j d) (lawful.some i d within) (lawful.some j d within') (lawful.apart i j d before within') in
      ne_eqb _ _ (λ same. apart (sym first ∙ same ∙ first')));
  begin = λ g. list_any-map (eqb g) (λ (r : Area). r.first) rows ∙ bool_iff _ _ (begins_from rows lawful g) (begins_to rows g);
  count = length-map rows (λ (r : Area). r.first);
}

pub form_same : (f f' : ℕ → Bool) (n : ℕ) → ((g : ℕ) → f g ≡ f' g) → FormRows f n → FormRows f' n
form_same f f' n same h = record {
  starts = h.starts;
  each_once = h.each_once;
  begin = λ g. h.begin g ∙ ap (λ b. b && (g == 0 || not (f (g - 1)))) (same g) ∙ ap (λ b. f' g && (g == 0 || not b)) (same (g - 1));
  count = h.count;
}

-- pages form one number of rows
pub form_once : (f : ℕ → Bool) (n m : ℕ) → FormRows f n → FormRows f m → n ≡ m
form_once f n m a b =
    sym a.count ∙ length-from_same_keys nat_eq_equiv a.starts b.starts a.each_once b.each_once (λ q. a.begin q ∙ sym (b.begin q)) ∙ b.count

pub few_enough : (f : ℕ → Bool) (n : ℕ) → FormRows f n → n ≤ SHARED_RUN_LIMIT → FormTooManyRows f → ⊥
few_enough f n here few many = let same = form_once f n many.0 here many.1 in let more = many.2 in omega arith

-- ---- the first that passes a test

pub position_below : (p : Area → Bool) (xs : List Area) → list_any p xs ≡ true → position_or_len p xs < length xs
position_below p [] h = absurd (both_ways false refl h)
position_below p (x ∷ xs) h =
    elim (cases_Bool (p x)) [
      | inl passes ↦ grind arith
      | inr fails ↦ let rest : list_any p xs ≡ true = (rw fails at h) in let less = position_below p xs rest in grind arith
    ]

pub position_none : (p : Area → Bool) (xs : List Area) → position p xs ≡ None → list_any p xs ≡ false
position_none p xs h = false_from_ne_true (list_any p xs) (λ some. let less = position_below p xs some in grind (arith, nat_tests))

-- ---- pages that are joined to rows

has_joined : (g : ℕ) (a p : Area) → HasPages a → HasPages p → a.end ≡ p.first → has_guest g (record { first = a.first; end = p.end }) ≡ (has_guest g a || has_guest g p)
has_joined g a p some some' meet = grind (arith, nat_tests)

or_shift : (a b c : Bool) → (c || (a || b)) ≡ ((a || c) || b)
or_shift true b true = refl
or_shift true b false = refl
or_shift false b true = refl
or_shift false b false = refl

or_turn : (a b c : Bool) → (c || (b || a)) ≡ ((a || c) || b)
or_turn true true true = refl
or_turn true true false = refl
or_turn true false true = refl
or_turn true false false = refl
or_turn false true true = refl
or_turn false true false = refl
or_turn false false true = refl
or_turn false false false = refl

pub free_rows : (pages : Area) (rows : List Area) → list_any (meets pages) rows ≡ false → All (AreDisjoint pages) rows
free_rows pages rows free k d below = meets_not pages (get_or rows k d) (all_fail (meets pages) rows free k d below)

apart_before_joined : (a p x : Area) → AreApart a x → AreDisjoint p x → HasPages a → HasPages p → HasPages x → a.end ≡ p.first
    → AreApartBefore (record { first = a.first; end = p.end }) x
apart_before_joined a p x (inr lt) disjoint some some' some'' meet = inr lt
apart_before_joined a p x (inl lt) (inl le) some some' some'' meet = inl le
apart_before_joined a p x (inl lt) (inr le) some some' some'' meet = absurd (omega arith)

apart_before_alone : (p x : Area) → AreDisjoint p x → x.end ≢ p.first → AreApartBefore p x
apart_before_alone p x (inl le) differ = inl le
apart_before_alone p x (inr le) differ = inr (omega arith)

apart_joined : (a p x : Area) → AreApart a x → AreApartBefore p x → HasPages a → HasPages p → HasPages x → a.first ≡ p.end
    → AreApart (record { first = p.first; end = a.end }) x
apart_joined a p x (inl lt) (inl le) some some' some'' meet = inl lt
apart_joined a p x (inr lt) (inl le) some some' some'' meet = absurd (omega arith)
apart_joined a p x apart (inr lt) some some' some'' meet = inr lt

apart_alone : (p x : Area) → AreApartBefore p x → x.first ≢ p.end → AreApart p x
apart_alone p x (inl le) differ = inl (omega arith)
apart_alone p x (inr lt) differ = inr lt

pub rows_without : (rows : List Area) (place : ℕ) → place < length rows → AreRows rows → AreRows (remove rows place)
rows_without rows place within lawful = record {
  some = All-remove HasPages rows place within lawful.some;
  apart = all_pairs_remove AreApart rows place within lawful.apart;
}

pub joins_before : (rows : List Area) (pages : Area) (place : ℕ) (d : Area) → AreRows rows → HasPages pages → list_any (meets pages) rows ≡ false
    → place < length rows → (get_or rows place d).end ≡ pages.first
    → JoinsBefore rows pages (remove rows place) (record { first = (get_or rows place d).first; end = pages.end })
joins_before rows pages place d lawful some free within meet =
    let row : Area = get_or rows place d in
    let pages_of_row : HasPages row = lawful.some place d within in
    let removed = length-remove rows place within in
    record {
      rows = rows_without rows place within lawful;
      some = omega (arith, pages_of_row, meet, some);
      end = refl;
      together = λ g.
          ap (λ b. covers (remove rows place) g || b) (has_joined g row pages pages_of_row some meet)
          ∙ or_shift (has_guest g row) (has_guest g pages) (covers (remove rows place) g)
          ∙ ap (λ b. b || has_guest g pages) (sym (list_any-remove (has_guest g) rows place d within));
      apart = λ k e below. apart_before_joined row pages (get_or (remove rows place) k e)
          (All-removed AreApart flip_apart rows place d within lawful.apart k e below)
          (All-remove (AreDisjoint pages) rows place within (free_rows pages rows free) k e below)
          pages_of_row some (All-remove HasPages rows place within lawful.some k e below) meet;
      none = λ alone. absurd (both_ways (list_any (ends_at pages.first) rows) alone (list_any_at (ends_at pages.first) rows place d within (eq-eqb _ _ meet)));
      fewer = λ _. omega arith;
    }

pub joins_none_before : (rows : List Area) (pages : Area) → AreRows rows → HasPages pages → list_any (meets pages) rows ≡ false
    → list_any (ends_at pages.first) rows ≡ false → JoinsBefore rows pages rows pages
joins_none_before rows pages lawful some free alone = record {
  rows = lawful;
  some = some;
  end = refl;
  together = λ g. refl;
  apart = λ k e below. apart_before_alone pages (get_or rows k e) (free_rows pages rows free k e below)
      (eqb-false _ _ (all_fail (ends_at pages.first) rows alone k e below));
  none = λ _. refl;
  fewer = λ there. absurd (both_ways (list_any (ends_at pages.first) rows) alone there);
}

pub joins_after : (rows : List Area) (pages : Area) (place : ℕ) (d : Area) → AreRows rows → HasPages pages → All (AreApartBefore pages) rows
    → place < length rows → (get_or rows place d).first ≡ pages.end
    → JoinsAfter rows pages (remove rows place) (record { first = pages.first; end = (get_or rows place d).end })
joins_after rows pages place d lawful some before within meet =
    let row : Area = get_or rows place d in
    let pages_of_row : HasPages row = lawful.some place d within in
    let removed = length-remove rows place within in
    record {
      rows = rows_without rows place within lawful;
      some = omega (arith, pages_of_row, meet, some);
      together = λ g.
          ap (λ b. covers (remove rows place) g || b) (has_joined g pages row some pages_of_row (sym meet))
          ∙ or_turn (has_guest g row) (has_guest g pages) (covers (remove rows place) g)
          ∙ ap (λ b. b || has_guest g pages) (sym (list_any-remove (has_guest g) rows place d within));
      apart = λ k e below. apart_joined row pages (get_or (remove rows place) k e)
          (All-removed AreApart flip_apart rows place d within lawful.apart k e below)
          (All-remove (AreApartBefore pages) rows place within before k e below)
          pages_of_row some (All-remove HasPages rows place within lawful.some k e below) meet;
      none = λ alone. absurd (both_ways (list_any (begins_at pages.end) rows) alone (list_any_at (begins_at pages.end) rows place d within (eq-eqb _ _ meet)));
      fewer = λ _. omega arith;
    }

pub joins_none_after : (rows : List Area) (pages : Area) → AreRows rows → HasPages pages → All (AreApartBefore pages) rows
    → list_any (begins_at pages.end) rows ≡ false → JoinsAfter rows pages rows pages
joins_none_after rows pages lawful some before alone = record {
  rows = lawful;
  some = some;
  together = λ g. refl;
  apart = λ k e below. apart_alone pages (get_or rows k e) (before k e below)
      (eqb-false _ _ (all_fail (begins_at pages.end) rows alone k e below));
  none = λ _. refl;
  fewer = λ there. absurd (both_ways (list_any (begins_at pages.end) rows) alone there);
}

pub rows_push : (rows : List Area) (p : Area) → AreRows rows → HasPages p → All (AreApart p) rows → AreRows (rows ++ p ∷ [])
rows_push rows p lawful some apart = record {
  some = All-push HasPages rows p lawful.some some;
  apart = all_pairs_push AreApart rows p lawful.apart (λ k d below. flip_apart p (get_or rows k d) (apart k d below));
}

or_end : (a b : Bool) → (a || (b || false)) ≡ (a || b)
or_end true b = refl
or_end false true = refl
or_end false false = refl

pub covers-push : (rows : List Area) (p : Area) (g : ℕ) → covers (rows ++ p ∷ []) g ≡ (covers rows g || has_guest g p)
covers-push rows p g = list_any-append (has_guest g) rows (p ∷ []) ∙ or_end (covers rows g) (has_guest g p)
