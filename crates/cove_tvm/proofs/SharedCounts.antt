-- How often pages of the host's are mapped after a run of guest pages was mapped to them.
use Rattle.std.proofs.Common.{◌≡◌, ◌≢◌, ℕ, zero, suc, ◌+◌, ◌<◌, ◌≤◌, ◌==◌, ◌||◌, ◌^◌, ◌⊎◌, ◌∙◌, Bool, true, false, cond, eqb, eqb-true, eq-eqb, List, [], ◌∷◌, ◌++◌, count_by, filter_map, map, Some, refl, sym, ap, subst, inl, inr, arith}
use Rattle.std.proofs.lemmas.Bool.{cases_eq, cases_lt, ne_eqb, false≢true}
use Rattle.std.proofs.lemmas.List.Sums.{sum_by-append, sum_by-cons}
use Rattle.std.proofs.lemmas.Option.{none-some}
use Rattle.std.specs.Prelude.{flat_map}
use Rattle.cove_model.specs.Machine.{alter, at, shared_mappings, AreDistinct, has, shown_page}
use Rattle.cove_model.specs.Tvms.{Mapping, Tvm as ModelTvm}
use Rattle.cove_stage2.proofs.MapPlaces.{private_unshared, shared_other, shared_same}
use Rattle.cove_tvm.specs.MappedRuns.{shown}

-- 1 where a test holds
abbrev pub one_if : Bool → ℕ
one_if b = cond b 1 0

-- 1 for a page of a run, and 0 for another
abbrev one_in : (p n q : ℕ) → ℕ
one_in p zero q = 0
one_in p (suc n) q = one_if (eqb p q) + one_in (p + 1) n q

in_none : (p n q : ℕ) → (q < p) ⊎ (p + n ≤ q) → one_in p n q ≡ 0
in_none p zero q out = refl
in_none p (suc n) q out =
    let off : p ≢ q = elim out [ inl under ↦ omega (arith, under) | inr over ↦ omega (arith, over) ] in
    let here : one_if (eqb p q) ≡ 0 = ap one_if (ne_eqb p q off) in
    let rest = in_none (p + 1) n q (elim out [ inl under ↦ inl (omega (arith, under)) | inr over ↦ inr (omega (arith, over)) ]) in
    omega (arith, here, rest)

in_here : (p n q : ℕ) → p ≤ q → q < p + n → one_in p n q ≡ 1
in_here p zero q low high = absurd (omega arith)
in_here p (suc n) q low high = elim (cases_eq p q) [
  | inl is ↦
      let here : one_if (eqb p q) ≡ 1 = ap one_if (eq-eqb p q is) in
      let rest = in_none (p + 1) n q (inl (omega (arith, is))) in
      omega (arith, here, rest)
  | inr off ↦
      let here : one_if (eqb p q) ≡ 0 = ap one_if (ne_eqb p q off) in
      let rest = in_here (p + 1) n q (omega (arith, off, low)) (omega (arith, high)) in
      omega (arith, here, rest)
]

-- by the leaves
shown_out : (p n q : ℕ) → p + n ≤ 2 ^ 16 → (q < p) ⊎ (p + n ≤ q) → shown p n true q ≡ 0
shown_out p zero q small out = refl
shown_out p (suc n) q small out =
    let off : p + n ≢ q = elim out [ inl under ↦ omega (arith, under) | inr over ↦ omega (arith, over) ] in
    let before = shown_out p n q (omega (arith, small)) (elim out [ inl under ↦ inl under | inr over ↦ inr (omega (arith, over)) ]) in
    let here = shared_other q (p + n) (omega (arith, small)) off in
    omega (arith, before, here)

pub shown_in : (p n q : ℕ) → p + n ≤ 2 ^ 16 → p ≤ q → q < p + n → shown p n true q ≡ 1
shown_in p zero q small low high = absurd (omega arith)
shown_in p (suc n) q small low high = elim (cases_eq q (p + n)) [
  | inl last ↦
      let before = shown_out p n q (omega (arith, small)) (inr (omega (arith, last))) in
      let here = shared_same q (p + n) (omega (arith, small)) (sym last) in
      omega (arith, before, here)
  | inr off ↦
      let before = shown_in p n q (omega (arith, small)) low (omega (arith, high, off)) in
      let here = shared_other q (p + n) (omega (arith, small)) (λ e. off (sym e)) in
      omega (arith, before, here)
]

pub shown_is : (p n q : ℕ) → p + n ≤ 2 ^ 16 → shown p n true q ≡ one_in p n q
shown_is p n q small = elim (cases_lt q p) [
  | inl under ↦ shown_out p n q small (inl under) ∙ sym (in_none p n q (inl under))
  | inr low ↦ elim (cases_lt q (p + n)) [
    | inl high ↦ shown_in p n q small low high ∙ sym (in_here p n q low high)
    | inr over ↦ shown_out p n q small (inr over) ∙ sym (in_none p n q (inr over))
  ]
]

-- private leaves name no page as shared, and shared ones none outside of their run
pub shown_private : (p n q : ℕ) → shown p n false q ≡ 0
shown_private p zero q = refl
shown_private p (suc n) q = let before = shown_private p n q in let here = private_unshared q (p + n) in omega (arith, before, here)

pub shown_outside : (shared : Bool) (p n q : ℕ) → p + n ≤ 2 ^ 16 → (q < p) ⊎ (p + n ≤ q) → shown p n shared q ≡ 0
shown_outside false p n q small out = shown_private p n q
shown_outside true p n q small out = shown_out p n q small out

-- ---- by the state

abbrev pub shares : List Mapping → List ℕ
shares mappings = filter_map (λ mapping. shown_page mapping.backing) mappings

abbrev pub times : (q : ℕ) → List ℕ → ℕ
times q ps = count_by (λ p. p == q) ps

pub run_shares : (g p n q : ℕ) → times q (shares (shared_mappings g p n)) ≡ one_in p n q
run_shares g p zero q = refl
run_shares g p (suc n) q =
    let first = sum_by-cons (λ r. cond (r == q) 1 0) p (shares (shared_mappings (g + 1) (p + 1) n)) in
    let rest = run_shares (g + 1) (p + 1) n q in
    omega (arith, first, rest)

none_altered : (t : ℕ) (how : ModelTvm → ModelTvm) (xs : List ModelTvm) → has t (map (λ tvm. tvm.number) xs) ≡ false → alter (λ tvm. tvm.number) t how xs ≡ xs
none_altered t how [] none = refl
none_altered t how (x ∷ xs) none = go (eqb x.number t) none (none_altered t how xs)
  where
    go : (b : Bool) → (b || has t (map (λ (tvm : ModelTvm). tvm.number) xs)) ≡ false
        → (has t (map (λ (tvm : ModelTvm). tvm.number) xs) ≡ false → alter (λ tvm. tvm.number) t how xs ≡ xs)
        → cond b (how x) x ∷ alter (λ tvm. tvm.number) t how xs ≡ x ∷ xs
    go true e rest = absurd (false≢true (sym e))
    go false e rest = ap (λ ys. x ∷ ys) (rest e)

-- one TVM maps more
pub total_altered : (q t : ℕ) (how : ModelTvm → ModelTvm) (more : List Mapping) → ((v : ModelTvm) → times q (shares (how v).mappings) ≡ times q (shares v.mappings) + times q (shares more))
    → (xs : List ModelTvm) (v : ModelTvm) → AreDistinct (map (λ tvm. tvm.number) xs) → at (λ tvm. tvm.number) t xs ≡ Some v
    → times q (flat_map (λ tvm. shares tvm.mappings) (alter (λ tvm. tvm.number) t how xs)) ≡ times q (flat_map (λ tvm. shares tvm.mappings) xs) + times q (shares more)
total_altered q t how more grows [] v distinct found = absurd (none-some v found)
total_altered q t how more grows (x ∷ xs) v distinct found =
    go (eqb x.number t) refl found (total_altered q t how more grows xs v distinct.1)
  where
    rest : List ℕ
    rest = flat_map (λ (tvm : ModelTvm). shares tvm.mappings) (alter (λ tvm. tvm.number) t how xs)

    go : (b : Bool) → eqb x.number t ≡ b → cond b (Some x) (at (λ tvm. tvm.number) t xs) ≡ Some v
        → (at (λ tvm. tvm.number) t xs ≡ Some v
        → times q (flat_map (λ (tvm : ModelTvm). shares tvm.mappings) (alter (λ tvm. tvm.number) t how xs)) ≡ times q (flat_map (λ (tvm : ModelTvm). shares tvm.mappings) xs) + times q (shares more))
        → times q (shares (cond b (how x) x).mappings ++ flat_map (λ (tvm : ModelTvm). shares tvm.mappings) (alter (λ tvm. tvm.number) t how xs))
        ≡ times q (shares x.mappings ++ flat_map (λ (tvm : ModelTvm). shares tvm.mappings) xs) + times q (shares more)
    go true is e ih =
        let none : has t (map (λ (tvm : ModelTvm). tvm.number) xs) ≡ false =
        subst (λ m. has m (map (λ (tvm : ModelTvm). tvm.number) xs) ≡ false) (eqb-true x.number t is) distinct.0 in
        let same = ap (λ ys. times q (shares (how x).mappings ++ flat_map (λ (tvm : ModelTvm). shares tvm.mappings) ys)) (none_altered t how xs none) in
        let new = sum_by-append (λ p. cond (p == q) 1 0) (shares (how x).mappings) (flat_map (λ (tvm : ModelTvm). shares tvm.mappings) xs) in
        let old = sum_by-append (λ p. cond (p == q) 1 0) (shares x.mappings) (flat_map (λ (tvm : ModelTvm). shares tvm.mappings) xs) in
        let here = grows x in
        omega (arith, same, new, old, here)
    go false is e ih =
        let new = sum_by-append (λ p. cond (p == q) 1 0) (shares x.mappings) (flat_map (λ (tvm : ModelTvm). shares tvm.mappings) (alter (λ tvm. tvm.number) t how xs)) in
        let old = sum_by-append (λ p. cond (p == q) 1 0) (shares x.mappings) (flat_map (λ (tvm : ModelTvm). shares tvm.mappings) xs) in
        let before = ih e in
        omega (arith, new, old, before)
