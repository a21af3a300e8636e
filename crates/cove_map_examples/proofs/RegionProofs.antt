-- What the examples of regions show.
use Rattle.std.proofs.Common.{◌≡◌, ℕ, zero, suc, ◌*◌, ◌≤◌, ◌||◌, Bool, true, false, [], ◌∷◌, length, refl, ap, subst, inl, inr, arith}
use Rattle.std.proofs.lemmas.List.Elements.{All-cons, All-nil}
use Rattle.std.proofs.lemmas.List.Kept.{AllPairs-cons}
use Rattle.std.specs.List.{All, AllPairs}
use Rattle.std.specs.Prelude.{IsTrue, if◌then◌else◌}
use Rattle.cove_map_examples.specs.Examples.{rows_of_one, shared_17, unshared}
use Rattle.cove_region.proofs.AreaLemmas.{has_means}
use Rattle.cove_region.proofs.RowLemmas.{few_enough, form_once, form_rows}
use Rattle.cove_region.specs.GuestMaps.{AreMade, FormRows, FormTooManyRows, covers, has_guest, kind_of, pages_from}
use Rattle.cove_region.specs.Rows.{AreApart, AreDisjoint, AreRows, HasPages}
use Rattle.cove_region.specs.declared.kinds.AreaKind.TheVariants.{Outside, Private, Shared}

pub not_disjoint : AreDisjoint (pages_from 16 2) (pages_from 17 2) → ⊥
not_disjoint (inl e) = absurd (omega arith)
not_disjoint (inr e) = absurd (omega arith)

-- ---- kinds

pub all_of_one : (g : ℕ) → IsTrue (has_guest g (pages_from 17 1)) → kind_of shared_17 g ≡ Shared
all_of_one g there =
    let means = has_means g (pages_from 17 1) there in
    let is : g ≡ 17 = omega (arith, means.0, means.1) in
    ap (kind_of shared_17) is

pub made_shared : AreMade Shared (pages_from 17 1) unshared shared_17
made_shared g = go (has_guest g (pages_from 17 1)) (covers unshared.regions g)
  where
    go : (here inside : Bool) → (if (here || false) then Shared else (if inside then Private else Outside)) ≡ (if here then Shared else (if inside then Private else Outside))
    go true inside = refl
    go false inside = refl

-- ---- rows

all_some : (n : ℕ) → All HasPages (rows_of_one n)
all_some zero = All-nil HasPages
all_some (suc n) = All-cons HasPages (pages_from (2 * n) 1) (rows_of_one n) (omega arith) (all_some n)

apart_after : (n m : ℕ) → n ≤ m → All (AreApart (pages_from (2 * m) 1)) (rows_of_one n)
apart_after zero m low = All-nil (AreApart (pages_from (2 * m) 1))
apart_after (suc n) m low =
    All-cons (AreApart (pages_from (2 * m) 1)) (pages_from (2 * n) 1) (rows_of_one n) (inr (omega arith)) (apart_after n m (omega arith))

all_apart : (n : ℕ) → AllPairs AreApart (rows_of_one n)
all_apart zero = λ i j d before below. absurd (omega arith)
all_apart (suc n) = AllPairs-cons AreApart (pages_from (2 * n) 1) (rows_of_one n) (apart_after n n (omega arith)) (all_apart n)

pub form : (n : ℕ) → FormRows (covers (rows_of_one n)) n
form n = subst (FormRows (covers (rows_of_one n))) (count n) (form_rows (rows_of_one n) (record { some = all_some n; apart = all_apart n }))
  where
    count : (n : ℕ) → length (rows_of_one n) ≡ n
    count zero = refl
    count (suc n) = ap suc (count n)

one_row : AreRows (pages_from 17 1 ∷ [])
one_row = record {
  some = All-cons HasPages (pages_from 17 1) [] (omega arith) (All-nil HasPages);
  apart = λ i j d before below. absurd (omega arith);
}

pub one : FormRows (covers shared_17.rows) 1
one = form_rows (pages_from 17 1 ∷ []) one_row

pub not_none : FormRows (covers shared_17.rows) 0 → ⊥
not_none rows = let same = form_once (covers shared_17.rows) 1 0 one rows in absurd (omega arith)

pub too_many : FormTooManyRows (covers (rows_of_one 17))
too_many = (17, form 17, omega arith)

pub few : FormTooManyRows (covers (rows_of_one 16)) → ⊥
few = few_enough (covers (rows_of_one 16)) 16 (form 16) (omega arith)
