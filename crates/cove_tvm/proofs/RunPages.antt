-- Pages outside of a run of pages that change, and pages that are a TVM's tables.
use Rattle.std.proofs.Common.{◌≡◌, ℕ, zero, suc, ◌+◌, ◌<◌, ◌≤◌, ◌⊎◌, ◌∙◌, true, List, [], ◌∷◌, ◌++◌, drop, map, take, refl, sym, ap, subst, inl, inr, arith}
use Rattle.std.specs.List.{enumerate_from}
use Rattle.cove_model.specs.Machine.{given, role_number, Root, Table, AsRoot, AsState, AsTable, AsVcpu, AsData, Given, Owner, Purpose, page_at, change_each, PageStands, is_table, role_of}
use Rattle.cove_model.proofs.LeafWords.{given_role}
use Rattle.cove_tvm.proofs.GivenPages.{given_owner}

front : (how : ℕ → Owner → Owner) (k n : ℕ) (pages : List Owner) → List Owner
front how k n pages = map (λ item. how item.0 item.1) (enumerate_from k (take n pages)) ++ drop n pages

front_outside : (how : ℕ → Owner → Owner) (k n : ℕ) (pages : List Owner) (i : ℕ) → n ≤ i → page_at (front how k n pages) i ≡ page_at pages i
unfolding front
front_outside how k zero pages i past = refl
front_outside how k (suc n) [] i past = refl
front_outside how k (suc n) (x ∷ xs) zero past = absurd (omega arith)
front_outside how k (suc n) (x ∷ xs) (suc i) past = front_outside how (k + 1) n xs i (omega arith)

-- a page before the run, or behind it, stays
pub each_outside : (how : ℕ → Owner → Owner) (first n : ℕ) (pages : List Owner) (p : ℕ) → (p < first) ⊎ (first + n ≤ p)
    → page_at (change_each how first n pages) p ≡ page_at pages p
unfolding front
each_outside how zero n pages p out = front_outside how 0 n pages p (elim out [ inl under ↦ absurd (omega (arith, under)) | inr over ↦ omega (arith, over) ])
each_outside how (suc a) zero [] p out = refl
each_outside how (suc a) (suc n) [] p out = refl
each_outside how (suc a) n (x ∷ xs) zero out = refl
each_outside how (suc a) n (x ∷ xs) (suc p) out =
    each_outside how a n xs p (elim out [ inl under ↦ inl (omega (arith, under)) | inr over ↦ inr (omega (arith, over)) ])

-- a page that a TVM has as a root or a table is one
purpose_table : (t : ℕ) (purpose : Purpose) → (role_number (role_of purpose) ≡ 0) ⊎ (role_number (role_of purpose) ≡ 2) → is_table (Given t purpose) ≡ true
purpose_table t AsRoot one = refl
purpose_table t AsTable one = refl
purpose_table t AsState (inl e) = absurd (omega (arith, e))
purpose_table t AsState (inr e) = absurd (omega (arith, e))
purpose_table t AsVcpu (inl e) = absurd (omega (arith, e))
purpose_table t AsVcpu (inr e) = absurd (omega (arith, e))
purpose_table t (AsData g) (inl e) = absurd (omega (arith, e))
purpose_table t (AsData g) (inr e) = absurd (omega (arith, e))

pub table_owner : (harts epoch : ℕ) (answered : ℕ → ℕ) (maps word t : ℕ) (o : Owner) → PageStands harts epoch answered maps word o
    → (word ≡ given t Root) ⊎ (word ≡ given t Table) → is_table o ≡ true
table_owner harts epoch answered maps word t o stands (inl is) =
    let owner = given_owner harts epoch answered maps word t Root o stands is in
    let again : PageStands harts epoch answered maps word (Given t owner.0) = subst (PageStands harts epoch answered maps word) owner.1 stands in
    ap is_table owner.1 ∙ purpose_table t owner.0 (inl (given_role t t (role_of owner.0) Root (sym again.2 ∙ is)))
table_owner harts epoch answered maps word t o stands (inr is) =
    let owner = given_owner harts epoch answered maps word t Table o stands is in
    let again : PageStands harts epoch answered maps word (Given t owner.0) = subst (PageStands harts epoch answered maps word) owner.1 stands in
    ap is_table owner.1 ∙ purpose_table t owner.0 (inr (given_role t t (role_of owner.0) Table (sym again.2 ∙ is)))
