-- Lists of areas: what one that is taken out, put in or met says of the others.
use Rattle.std.proofs.Common.{◌≡◌, ℕ, ◌+◌, ◌-◌, ◌<◌, ◌≤◌, Bool, true, false, ◌||◌, ◌⊎◌, inl, inr, List, [], ◌∷◌, ◌++◌, length, get_or, take, drop, refl, sym, ◌∙◌, ap, subst, arith, suc}
use Rattle.std.specs.List.{list_any, All, AllPairs, remove}
use Rattle.std.proofs.lemmas.Bool.{both_ways, cases_lt, false_from_ne_true}
use Rattle.std.proofs.lemmas.Bool.Decides.{nat_tests}
use Rattle.std.proofs.lemmas.List.{get_or_default, get_or_append_left, get_or-append_right, take-append-drop, length-append}
use Rattle.std.proofs.lemmas.List.Edits.{get_or-remove_below, get_or-remove_above, length-remove}
use Rattle.std.proofs.lemmas.List.Folds.{Any-from_list_any, list_any-append, list_any_at}
use Rattle.std.proofs.Math.Seq.{drop-cons}
use Rattle.cove_region.specs.declared.areas.Area.{Area}
use Rattle.cove_region.specs.GuestMaps.{has_guest, holds, meets}
use Rattle.cove_region.specs.Rows.{AreDisjoint}

-- ---- tests

pub has_means : (g : ℕ) (a : Area) → has_guest g a ≡ true → (a.first ≤ g) × (g < a.end)
has_means g a h = grind (arith, nat_tests)

pub has_from : (g : ℕ) (a : Area) → a.first ≤ g → g < a.end → has_guest g a ≡ true
has_from g a l h = grind (arith, nat_tests)

pub has_not : (g : ℕ) (a : Area) → has_guest g a ≡ false → (g < a.first) ⊎ (a.end ≤ g)
has_not g a h = grind (arith, nat_tests)

pub has_none : (g : ℕ) (a : Area) → (g < a.first) ⊎ (a.end ≤ g) → has_guest g a ≡ false
has_none g a h = grind (arith, nat_tests)

pub holds_means : (p a : Area) → holds p a ≡ true → (a.first ≤ p.first) × (p.end ≤ a.end)
holds_means p a h = grind (arith, nat_tests)

pub meets_means : (p a : Area) → meets p a ≡ true → (a.first < p.end) × (p.first < a.end)
meets_means p a h = grind (arith, nat_tests)

pub meets_not : (p a : Area) → meets p a ≡ false → AreDisjoint p a
meets_not p a h = grind (arith, nat_tests)

-- ---- one of a list

pub all_fail : {X : Type 0} (p : X → Bool) (xs : List X) → list_any p xs ≡ false → All (λ x. p x ≡ false) xs
all_fail p xs none k d below =
    false_from_ne_true (p (get_or xs k d)) (λ yes. both_ways (list_any p xs) none (list_any_at p xs k d below yes))

-- the place of one that passes
pub some_place : (p : Area → Bool) (xs : List Area) → list_any p xs ≡ true → (k : ℕ) × (k < length xs) × ((d : Area) → p (get_or xs k d) ≡ true)
some_place p xs passes =
    let found = Any-from_list_any p xs passes in
    let k = found.0 in
    (k, found.2, λ d. subst (λ x. p x ≡ true) (sym (get_or_default xs k d found.1 found.2 ∙ found.3)) found.4)

-- ---- put in

pub All-push : {X : Type 0} (P : X → Type 0) (xs : List X) (x : X) → All P xs → P x → All P (xs ++ x ∷ [])
All-push P xs x h px k d below =
    elim (cases_lt k (length xs)) [
      | inl lt ↦ subst P (sym (get_or_append_left xs (x ∷ []) d k lt)) (h k d lt)
      | inr le ↦
          let n : length (xs ++ x ∷ []) ≡ length xs + 1 = length-append xs (x ∷ []) in
          let last : k ≡ length xs = omega arith in
          let zero_less : k - length xs ≡ 0 = omega arith in
          subst P (sym (get_or-append_right xs (x ∷ []) (length xs) k d refl le ∙ ap (λ i. get_or (x ∷ []) i d) zero_less)) px
    ]

-- ---- taken out

pub All-remove : {X : Type 0} (P : X → Type 0) (xs : List X) (i : ℕ) → i < length xs → All P xs → All P (remove xs i)
All-remove P xs i within h k d below =
    let n = length-remove xs i within in
    elim (cases_lt k i) [
      | inl lt ↦ subst P (sym (get_or-remove_below xs i d k lt within)) (h k d (omega arith))
      | inr le ↦ subst P (sym (get_or-remove_above xs i d k le within)) (h (k + 1) d (omega arith))
    ]

-- the others stand in the relation to the one that was taken out
pub All-removed : {X : Type 0} (R : X → X → Type 0) (flip : (x y : X) → R x y → R y x) (xs : List X) (i : ℕ) (e : X) → i < length xs → AllPairs R xs
    → All (R (get_or xs i e)) (remove xs i)
All-removed R flip xs i e within pairs k d below =
    let n = length-remove xs i within in
    let same = get_or_default xs i d e within in
    subst (λ x. R x (get_or (remove xs i) k d)) same (elim (cases_lt k i) [
      | inl lt ↦ subst (R (get_or xs i d)) (sym (get_or-remove_below xs i d k lt within)) (flip _ _ (pairs k i d lt within))
      | inr le ↦ subst (R (get_or xs i d)) (sym (get_or-remove_above xs i d k le within)) (pairs i (k + 1) d (omega arith) (omega arith))
    ])

or_swap : (a b c : Bool) → (a || (b || c)) ≡ (b || (a || c))
or_swap true true c = refl
or_swap true false c = refl
or_swap false b c = refl

-- a list passes where the one that is taken out does, or the others do
pub list_any-remove : {X : Type 0} (p : X → Bool) (xs : List X) (i : ℕ) (d : X) → i < length xs → list_any p xs ≡ (p (get_or xs i d) || list_any p (remove xs i))
list_any-remove p xs i d within =
    let whole : list_any p xs ≡ (list_any p (take i xs) || list_any p (drop i xs)) = ap (list_any p) (sym (take-append-drop i xs)) ∙ list_any-append p (take i xs) (drop i xs) in
    let rest : list_any p (drop i xs) ≡ (p (get_or xs i d) || list_any p (drop (suc i) xs)) = ap (list_any p) (drop-cons xs i d within) in
    let left = list_any-append p (take i xs) (drop (suc i) xs) in
    whole ∙ ap (λ b. list_any p (take i xs) || b) rest ∙ or_swap (list_any p (take i xs)) (p (get_or xs i d)) (list_any p (drop (suc i) xs)) ∙ ap (λ b. p (get_or xs i d) || b) (sym left)
