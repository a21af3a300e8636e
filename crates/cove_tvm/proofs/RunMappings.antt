-- The mappings of a run of guest pages, each by its guest page.
use Rattle.std.proofs.Common.{true, ◌≡◌, ◌≢◌, ℕ, zero, suc, ◌+◌, ◌<◌, ◌≤◌, ◌==◌, ◌⊎◌, ◌∙◌, Bool, false, cond, eq-eqb, List, [], ◌∷◌, ◌++◌, find, get_or, length, Option, Some, None, refl, sym, ap, subst, inl, inr, arith}
use Rattle.std.proofs.lemmas.Bool.{ne_eqb}
use Rattle.std.proofs.lemmas.List.Folds.{find-append}
use Rattle.std.specs.Option.{option_or}
use Rattle.cove_base.specs.Tables.{present}
use Rattle.cove_model.specs.Machine.{at, own_mappings, page_under, shared_mappings, Backing, HostPage, OwnPage, Mapping, Present}
use Rattle.cove_tvm.specs.LeafStands.{leaf_of}

-- new mappings of n guest pages from g on, present, each to the page behind it
pub record NamesRun (g p n : ℕ) (shared : Bool) (backing : ℕ → Backing) (ms : List Mapping) : Type 0 where
  pub here : (j : ℕ) → j < n → at (λ mapping. mapping.guest) (g + j) ms ≡ Some (record { guest = g + j; backing = backing j; standing = Present })
  pub none : (h : ℕ) → (h < g) ⊎ (g + n ≤ h) → at (λ mapping. mapping.guest) h ms ≡ None
  pub leaf : (j : ℕ) → j < n → leaf_of (backing j) ≡ present (p + j) shared
  pub under : (j : ℕ) → j < n → page_under (backing j) ≡ p + j

-- what is found in one list after another
pub found_after : (h : ℕ) (old ms : List Mapping) → at (λ mapping. mapping.guest) h old ≡ None
    → at (λ mapping. mapping.guest) h (old ++ ms) ≡ at (λ mapping. mapping.guest) h ms
found_after h old ms none =
    find-append (λ (m : Mapping). m.guest == h) old ms ∙ ap (λ o. option_or o (find (λ (m : Mapping). m.guest == h) ms)) none

pub found_as_before : (h : ℕ) (old ms : List Mapping) → at (λ mapping. mapping.guest) h ms ≡ None
    → at (λ mapping. mapping.guest) h (old ++ ms) ≡ at (λ mapping. mapping.guest) h old
found_as_before h old ms none =
    find-append (λ (m : Mapping). m.guest == h) old ms ∙ ap (option_or (find (λ (m : Mapping). m.guest == h) old)) none
    ∙ tidy (find (λ (m : Mapping). m.guest == h) old)
  where
    tidy : (o : Option Mapping) → option_or o None ≡ o
    tidy None = refl
    tidy (Some m) = refl

-- ---- pages of the TVM's own

own_at : (contents : List (List ℕ)) (g p j h q : ℕ) → j < length contents → h ≡ g + j → q ≡ p + j
    → at (λ mapping. mapping.guest) h (own_mappings g p contents) ≡ Some (record { guest = h; backing = OwnPage q (get_or contents j []); standing = Present })
own_at [] g p j h q low guest page = absurd (omega arith)
own_at (words ∷ rest) g p zero h q low guest page =
    let same : g ≡ h = omega arith in
    let behind : p ≡ q = omega arith in
    subst (λ k. at (λ mapping. mapping.guest) k (own_mappings g p (words ∷ rest)) ≡ Some (record { guest = k; backing = OwnPage q words; standing = Present })) same
    (subst (λ r. at (λ mapping. mapping.guest) g (own_mappings g p (words ∷ rest)) ≡ Some (record { guest = g; backing = OwnPage r words; standing = Present })) behind
    (ap (λ b. cond b (Some (record { guest = g; backing = OwnPage p words; standing = Present })) (at (λ mapping. mapping.guest) g (own_mappings (g + 1) (p + 1) rest)))
    (eq-eqb g g refl)))
own_at (words ∷ rest) g p (suc j) h q low guest page =
    ap (λ b. cond b (Some (record { guest = g; backing = OwnPage p words; standing = Present })) (at (λ mapping. mapping.guest) h (own_mappings (g + 1) (p + 1) rest)))
    (ne_eqb g h (omega arith))
    ∙ own_at rest (g + 1) (p + 1) j h q (omega arith) (omega arith) (omega arith)

own_none : (contents : List (List ℕ)) (g p h : ℕ) → (h < g) ⊎ (g + length contents ≤ h) → at (λ mapping. mapping.guest) h (own_mappings g p contents) ≡ None
own_none [] g p h out = refl
own_none (words ∷ rest) g p h out =
    let off : g ≢ h = elim out [ inl under ↦ omega (arith, under) | inr over ↦ omega (arith, over) ] in
    ap (λ b. cond b (Some (record { guest = g; backing = OwnPage p words; standing = Present })) (at (λ mapping. mapping.guest) h (own_mappings (g + 1) (p + 1) rest)))
    (ne_eqb g h off)
    ∙ own_none rest (g + 1) (p + 1) h (elim out [ inl under ↦ inl (omega (arith, under)) | inr over ↦ inr (omega (arith, over)) ])

pub own_run : (contents : List (List ℕ)) (g p n : ℕ) → length contents ≡ n
    → NamesRun g p n false (λ j. OwnPage (p + j) (get_or contents j [])) (own_mappings g p contents)
own_run contents g p n long = record {
  here = λ j low. own_at contents g p j (g + j) (p + j) (omega arith) refl refl;
  none = λ h out. own_none contents g p h (subst (λ m. (h < g) ⊎ (g + m ≤ h)) (sym long) out);
  leaf = λ j low. refl;
  under = λ j low. refl;
}

-- ---- pages of the host's

shared_at : (n g p j h q : ℕ) → j < n → h ≡ g + j → q ≡ p + j
    → at (λ mapping. mapping.guest) h (shared_mappings g p n) ≡ Some (record { guest = h; backing = HostPage q; standing = Present })
shared_at zero g p j h q low guest page = absurd (omega arith)
shared_at (suc n) g p zero h q low guest page =
    let same : g ≡ h = omega arith in
    let behind : p ≡ q = omega arith in
    subst (λ k. at (λ mapping. mapping.guest) k (shared_mappings g p (suc n)) ≡ Some (record { guest = k; backing = HostPage q; standing = Present })) same
    (subst (λ r. at (λ mapping. mapping.guest) g (shared_mappings g p (suc n)) ≡ Some (record { guest = g; backing = HostPage r; standing = Present })) behind
    (ap (λ b. cond b (Some (record { guest = g; backing = HostPage p; standing = Present })) (at (λ mapping. mapping.guest) g (shared_mappings (g + 1) (p + 1) n)))
    (eq-eqb g g refl)))
shared_at (suc n) g p (suc j) h q low guest page =
    ap (λ b. cond b (Some (record { guest = g; backing = HostPage p; standing = Present })) (at (λ mapping. mapping.guest) h (shared_mappings (g + 1) (p + 1) n)))
    (ne_eqb g h (omega arith))
    ∙ shared_at n (g + 1) (p + 1) j h q (omega arith) (omega arith) (omega arith)

shared_none : (n g p h : ℕ) → (h < g) ⊎ (g + n ≤ h) → at (λ mapping. mapping.guest) h (shared_mappings g p n) ≡ None
shared_none zero g p h out = refl
shared_none (suc n) g p h out =
    let off : g ≢ h = elim out [ inl under ↦ omega (arith, under) | inr over ↦ omega (arith, over) ] in
    ap (λ b. cond b (Some (record { guest = g; backing = HostPage p; standing = Present })) (at (λ mapping. mapping.guest) h (shared_mappings (g + 1) (p + 1) n)))
    (ne_eqb g h off)
    ∙ shared_none n (g + 1) (p + 1) h (elim out [ inl under ↦ inl (omega (arith, under)) | inr over ↦ inr (omega (arith, over)) ])

pub shared_run : (n g p : ℕ) → NamesRun g p n true (λ j. HostPage (p + j)) (shared_mappings g p n)
shared_run n g p = record {
  here = λ j low. shared_at n g p j (g + j) (p + j) low refl refl;
  none = λ h out. shared_none n g p h out;
  leaf = λ j low. refl;
  under = λ j low. refl;
}
