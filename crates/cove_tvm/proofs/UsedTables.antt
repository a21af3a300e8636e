-- The leading parts of guest pages that are in use after a run was mapped.
use Rattle.std.proofs.Common.{◌≡◌, ◌≢◌, ℕ, zero, suc, ◌+◌, ◌<◌, ◌||◌, ◌∙◌, Bool, true, false, cond, eqb, eqb-true, eq-eqb, map, List, [], ◌∷◌, ◌++◌, length, length-append, refl, sym, ap, subst, inl, inr, arith}
use Rattle.std.proofs.lemmas.Bool.{false≢true, or_cases, or_left, or_right}
use Rattle.std.proofs.lemmas.List.Folds.{list_any-append}
use Rattle.std.specs.List.{range_with_len}
use Rattle.cove_model.specs.Machine.{new_ones, new_parts, over_levels, has}
use Rattle.cove_model.specs.Tvms.{Tvm as ModelTvm}

-- ---- numbers that are new

swapped : (a b x : Bool) → (a || (b || x)) ≡ ((b || a) || x)
swapped true true x = refl
swapped true false x = refl
swapped false true x = refl
swapped false false x = refl

absorbed : (n k : ℕ) (old : List ℕ) (x : Bool) → has n old ≡ true → (has k old || x) ≡ (has k old || (eqb n k || x))
absorbed n k old x there = go (eqb n k) refl
  where
    go : (b : Bool) → eqb n k ≡ b → (has k old || x) ≡ (has k old || (b || x))
    go true e =
        let here : has k old ≡ true = subst (λ m. has m old ≡ true) (eqb-true n k e) there in
        ap (λ c. c || x) here ∙ sym (ap (λ c. c || (true || x)) here)
    go false e = refl

new_has : (k : ℕ) (ns old : List ℕ) → (has k old || has k (new_ones old ns)) ≡ (has k old || has k ns)
new_has k [] old = refl
new_has k (n ∷ ns) old = go (has n old) refl (new_has k ns old) (new_has k ns (n ∷ old))
  where
    go : (b : Bool) → has n old ≡ b → (has k old || has k (new_ones old ns)) ≡ (has k old || has k ns)
        → (has k (n ∷ old) || has k (new_ones (n ∷ old) ns)) ≡ (has k (n ∷ old) || has k ns)
        → (has k old || has k (cond b (new_ones old ns) (n ∷ new_ones (n ∷ old) ns))) ≡ (has k old || (eqb n k || has k ns))
    go true there same more = same ∙ absorbed n k old (has k ns) there
    go false absent same more =
        swapped (has k old) (eqb n k) (has k (new_ones (n ∷ old) ns)) ∙ more ∙ sym (swapped (has k old) (eqb n k) (has k ns))

-- a number is in a list with the new ones of another where it is in one of the two
pub has_either : (k : ℕ) (old ns : List ℕ) → has k (old ++ new_ones old ns) ≡ (has k old || has k ns)
has_either k old ns = list_any-append (λ m. eqb m k) old (new_ones old ns) ∙ new_has k ns old

-- the leading parts that are in use after a run was mapped are those that were, and its new ones
pub used_more : (tvm : ModelTvm) (gpa n levels : ℕ) → over_levels (λ level. length (tvm.prefixes level ++ new_parts tvm gpa n level)) levels
    ≡ over_levels (λ level. length (tvm.prefixes level)) levels + over_levels (λ level. length (new_parts tvm gpa n level)) levels
used_more tvm gpa n zero = refl
used_more tvm gpa n (suc levels) =
    let rest = used_more tvm gpa n levels in
    let last = length-append (tvm.prefixes (suc levels)) (new_parts tvm gpa n (suc levels)) in
    omega (arith, rest, last)

-- ---- the numbers of a run

pub run_has : (f : ℕ → ℕ) (k a n : ℕ) → has k (map f (range_with_len a n)) ≡ true → (j : ℕ) × (j < n) × (f (a + j) ≡ k)
run_has f k a zero e = absurd (false≢true e)
run_has f k a (suc n) e = elim (or_cases (eqb (f a) k) (has k (map f (range_with_len (a + 1) n))) e) [
  | inl here ↦ (0, omega arith, ap f (omega arith) ∙ eqb-true (f a) k here)
  | inr later ↦
      let more = run_has f k (a + 1) n later in
      let low = more.1 in
      (suc more.0, omega arith, ap f (omega arith) ∙ more.2)
]

has_run : (f : ℕ → ℕ) (k a n j : ℕ) → j < n → f (a + j) ≡ k → has k (map f (range_with_len a n)) ≡ true
has_run f k a zero j low e = absurd (omega arith)
has_run f k a (suc n) zero low e =
    or_left (eqb (f a) k) (has k (map f (range_with_len (a + 1) n))) (eq-eqb (f a) k (ap f (omega arith) ∙ e))
has_run f k a (suc n) (suc j) low e =
    or_right (eqb (f a) k) (has k (map f (range_with_len (a + 1) n))) (has_run f k (a + 1) n j (omega arith) (ap f (omega arith) ∙ e))

-- a number of a run
pub in_run : (a n j h : ℕ) → j < n → h ≡ a + j → has h (range_with_len a n) ≡ true
in_run a zero j h low is = absurd (omega arith)
in_run a (suc n) zero h low is = or_left (eqb a h) (has h (range_with_len (a + 1) n)) (eq-eqb a h (omega arith))
in_run a (suc n) (suc j) h low is = or_right (eqb a h) (has h (range_with_len (a + 1) n)) (in_run (a + 1) n j h (omega arith) (omega arith))

pub run_lacks : (f : ℕ → ℕ) (k a n : ℕ) → has k (map f (range_with_len a n)) ≡ false → (j : ℕ) → j < n → f (a + j) ≢ k
run_lacks f k a n e j low same = false≢true (sym e ∙ has_run f k a n j low same)
