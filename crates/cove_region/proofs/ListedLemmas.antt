-- Guest pages in a list, as the model keeps those that are shared: which there are, that each is there once, and how many rows they form.
use Rattle.std.proofs.Common.{◌≡◌, ℕ, zero, suc, ◌+◌, ◌-◌, ◌<◌, ◌≤◌, Bool, true, false, not, ◌&&◌, ◌||◌, ◌==◌, eqb, inl, inr, List, [], ◌∷◌, ◌++◌, cond, filter, refl, sym, ◌∙◌, ap, subst, arith}
use Rattle.std.specs.List.{list_all, list_any, AllByRecursion, IsDistinct, range_with_len}
use Rattle.std.proofs.lemmas.Bool.{and_from, and_parts, both_ways, cases_lt, eq-eqb, eqb-true, false_from_ne_true, or_cases, or_left, or_parts, or_right}
use Rattle.std.proofs.lemmas.List.Folds.{list_any-append}
use Rattle.std.proofs.lemmas.Map.Views.{any-filter_same}
use Rattle.cove_model.specs.Machine.{row_count, AreDistinct}
use Rattle.cove_model.specs.Owners as owners
use Rattle.cove_region.specs.GuestMaps.{FormRows, has_guest, pages_from}
use Rattle.cove_region.proofs.AreaLemmas.{has_from, has_means}
use Rattle.cove_region.proofs.RowLemmas.{bool_iff}

eqb-flip : (a b : ℕ) → eqb a b ≡ eqb b a
eqb-flip a b = bool_iff (eqb a b) (eqb b a) (λ e. eq-eqb b a (sym (eqb-true a b e))) (λ e. eq-eqb a b (sym (eqb-true b a e)))

has-any : (g : ℕ) (gs : List ℕ) → owners.has g gs ≡ list_any (eqb g) gs
has-any g [] = refl
has-any g (n ∷ gs) = ap (λ b. b || owners.has g gs) (eqb-flip n g) ∙ ap (λ b. eqb g n || b) (has-any g gs)

pub and-turn : (a b : Bool) → (a && b) ≡ (b && a)
and-turn true true = refl
and-turn true false = refl
and-turn false true = refl
and-turn false false = refl

-- ---- pages of a range

pub range-all : (p : ℕ → Bool) (a n : ℕ) → list_all p (range_with_len a n) ≡ true → (g : ℕ) → a ≤ g → g < a + n → p g ≡ true
range-all p a zero all g low high = absurd (omega arith)
range-all p a (suc n) all g low high =
    let parts = and_parts (p a) (list_all p (range_with_len (a + 1) n)) all in
    elim (cases_lt a g) [
      | inl lt ↦ range-all p (a + 1) n parts.1 g (omega arith) (omega arith)
      | inr le ↦ let here : a ≡ g = omega arith in subst (λ k. p k ≡ true) here parts.0
    ]

pub all-range : (p : ℕ → Bool) (a n : ℕ) → ((g : ℕ) → a ≤ g → g < a + n → p g ≡ true) → list_all p (range_with_len a n) ≡ true
all-range p a zero each = refl
all-range p a (suc n) each =
    and_from (p a) (list_all p (range_with_len (a + 1) n)) (each a (omega arith) (omega arith))
    (all-range p (a + 1) n (λ g low high. each g (omega arith) (omega arith)))

range-bounds : (a n g : ℕ) → owners.has g (range_with_len a n) ≡ true → (a ≤ g) × (g < a + n)
range-bounds a zero g there = absurd (both_ways false refl there)
range-bounds a (suc n) g there =
    elim (or_cases (eqb a g) (owners.has g (range_with_len (a + 1) n)) there) [
      | inl here ↦ let e = eqb-true a g here in (omega arith, omega arith)
      | inr later ↦ let r = range-bounds (a + 1) n g later in let low = r.0 in let high = r.1 in (omega arith, omega arith)
    ]

range-holds : (a n g : ℕ) → a ≤ g → g < a + n → owners.has g (range_with_len a n) ≡ true
range-holds a zero g low high = absurd (omega arith)
range-holds a (suc n) g low high =
    elim (cases_lt a g) [
      | inl lt ↦ or_right (eqb a g) (owners.has g (range_with_len (a + 1) n)) (range-holds (a + 1) n g (omega arith) (omega arith))
      | inr le ↦ or_left (eqb a g) (owners.has g (range_with_len (a + 1) n)) (eq-eqb a g (omega arith))
    ]

pub has-range : (a n g : ℕ) → owners.has g (range_with_len a n) ≡ has_guest g (pages_from a n)
has-range a n g =
    bool_iff (owners.has g (range_with_len a n)) (has_guest g (pages_from a n))
    (λ there. let r = range-bounds a n g there in has_from g (pages_from a n) r.0 r.1)
    (λ there. let m = has_means g (pages_from a n) there in range-holds a n g m.0 m.1)

pub has-append : (g : ℕ) (gs hs : List ℕ) → owners.has g (gs ++ hs) ≡ (owners.has g gs || owners.has g hs)
has-append g gs hs = list_any-append (λ m. m == g) gs hs

pub has-filter : (p : ℕ → Bool) (g : ℕ) (gs : List ℕ) → owners.has g (filter p gs) ≡ (owners.has g gs && p g)
has-filter p g gs = any-filter_same (λ m. m == g) p (p g) (λ k e. ap p (eqb-true k g e)) gs ∙ and-turn (p g) (owners.has g gs)

-- ---- each once

pub distinct-append : (gs hs : List ℕ) → AreDistinct gs → AreDistinct hs → ((k : ℕ) → owners.has k hs ≡ true → owners.has k gs ≡ false) → AreDistinct (gs ++ hs)
distinct-append [] hs a b apart = b
distinct-append (g ∷ gs) hs a b apart = (
  has-append g gs hs ∙ false_from_ne_true (owners.has g gs || owners.has g hs) (λ e. elim (or_cases (owners.has g gs) (owners.has g hs) e) [
    | inl old ↦ both_ways (owners.has g gs) a.0 old
    | inr new ↦ both_ways (owners.has g (g ∷ gs)) (apart g new) (or_left (eqb g g) (owners.has g gs) (eq-eqb g g refl))
  ]),
  distinct-append gs hs a.1 b (λ k there. (or_parts (eqb g k) (owners.has k gs) (apart k there)).1),
)

pub distinct-filter : (p : ℕ → Bool) (gs : List ℕ) → AreDistinct gs → AreDistinct (filter p gs)
distinct-filter p [] a = tt
distinct-filter p (g ∷ gs) a = go (p g) (distinct-filter p gs a.1)
  where
    none : (b : Bool) → owners.has g gs ≡ false → (owners.has g gs && b) ≡ false
    none b e = ap (λ c. c && b) e

    go : (b : Bool) → AreDistinct (filter p gs) → AreDistinct (cond b (g ∷ filter p gs) (filter p gs))
    go true rest = (has-filter p g gs ∙ none (p g) a.0, rest)
    go false rest = rest

pub distinct-range : (a n : ℕ) → AreDistinct (range_with_len a n)
distinct-range a zero = tt
distinct-range a (suc n) = (
  false_from_ne_true (owners.has a (range_with_len (a + 1) n)) (λ there. let low = (range-bounds (a + 1) n a there).0 in omega arith),
  distinct-range (a + 1) n,
)

apart-from : (g : ℕ) (gs : List ℕ) → owners.has g gs ≡ false → AllByRecursion (λ k. eqb g k ≡ false) gs
apart-from g [] none = tt
apart-from g (n ∷ gs) none =
    let parts = or_parts (eqb n g) (owners.has g gs) none in
    (eqb-flip g n ∙ parts.0, apart-from g gs parts.1)

keys-distinct : (gs : List ℕ) → AreDistinct gs → IsDistinct eqb gs
unfolding IsDistinct
keys-distinct [] a = tt
keys-distinct (g ∷ gs) a = (apart-from g gs a.0, keys-distinct gs a.1)

-- ---- rows

-- guest pages in a list form as many rows as the model counts
pub form-listed : (f : ℕ → Bool) (gs : List ℕ) → AreDistinct gs → ((g : ℕ) → f g ≡ owners.has g gs) → FormRows f (row_count gs)
form-listed f gs once same =
    let begun : ℕ → Bool = λ g. g == 0 || not (owners.has (g - 1) gs) in
    record {
      starts = filter begun gs;
      each_once = keys-distinct (filter begun gs) (distinct-filter begun gs once);
      begin = λ g.
          any-filter_same (eqb g) begun (begun g) (λ k e. ap begun (sym (eqb-true g k e))) gs
          ∙ and-turn (begun g) (list_any (eqb g) gs)
          ∙ ap (λ b. b && begun g) (sym (has-any g gs) ∙ sym (same g))
          ∙ ap (λ b. f g && (g == 0 || not b)) (sym (same (g - 1)));
      count = refl;
    }
