-- How the count of leaves that name a page as shared moves with a store.
use Rattle.std.proofs.Common.{◌≡◌, ℕ, zero, suc, ◌+◌, ◌*◌, ◌<◌, ◌≤◌, Bool, cond, List, [], ◌∷◌, count_by, drop, get_or, length, set, take, refl, sym, ◌∙◌, ap, inl, inr, ◌⊎◌, arith}
use Rattle.std.proofs.lemmas.List.Sums.{count_by-le-length, sum_by-cons}
use Rattle.cove_model.specs.TableLaw.{StoresCountShared, is_shared_leaf}

abbrev flag : Bool → ℕ
flag b = cond b 1 0

-- the count of a list by its first item
counts_first : (test : ℕ → Bool) (x : ℕ) (xs : List ℕ) → count_by test (x ∷ xs) ≡ flag (test x) + count_by test xs
counts_first test x xs = sum_by-cons (λ y. cond (test y) 1 0) x xs

takes_few : (n : ℕ) (xs : List ℕ) → length (take n xs) ≤ n
takes_few zero xs = omega arith
takes_few (suc n) [] = omega arith
takes_few (suc n) (x ∷ xs) = let few = takes_few n xs in omega arith

-- a window counts no more than its width
counts_few : (test : ℕ → Bool) (n : ℕ) (xs : List ℕ) → count_by test (take n xs) ≤ n
counts_few test n xs = let few = count_by-le-length test (take n xs) in let short = takes_few n xs in omega arith

-- a store in the window changes its count by what the word was and what it becomes
counts_inside : (test : ℕ → Bool) (d n : ℕ) (xs : List ℕ) (k w : ℕ) → k < length xs → d ≤ k → k < d + n
    → count_by test (take n (drop d (set xs k w))) + count_by test (get_or xs k 0 ∷ []) ≡ count_by test (take n (drop d xs)) + count_by test (w ∷ [])
counts_inside test d n [] k w inside low high = absurd (omega arith)
counts_inside test zero zero (x ∷ xs) k w inside low high = absurd (omega arith)
counts_inside test zero (suc n) (x ∷ xs) zero w inside low high =
    let old = counts_first test x (take n xs) in
    let new = counts_first test w (take n xs) in
    let was = counts_first test x [] in
    let is = counts_first test w [] in
    omega arith
counts_inside test zero (suc n) (x ∷ xs) (suc k) w inside low high =
    let rest = counts_inside test zero n xs k w (omega arith) (omega arith) (omega arith) in
    let old = counts_first test x (take n xs) in
    let new = counts_first test x (take n (set xs k w)) in
    omega arith
counts_inside test (suc d) n (x ∷ xs) zero w inside low high = absurd (omega arith)
counts_inside test (suc d) n (x ∷ xs) (suc k) w inside low high = counts_inside test d n xs k w (omega arith) (omega arith) (omega arith)

-- a store outside of it leaves it
counts_outside : (test : ℕ → Bool) (d n : ℕ) (xs : List ℕ) (k w : ℕ) → (k < d) ⊎ (d + n ≤ k)
    → count_by test (take n (drop d (set xs k w))) ≡ count_by test (take n (drop d xs))
counts_outside test d n [] k w off = refl
counts_outside test zero zero (x ∷ xs) k w off = refl
counts_outside test zero (suc n) (x ∷ xs) zero w (inl low) = absurd (omega arith)
counts_outside test zero (suc n) (x ∷ xs) zero w (inr high) = absurd (omega arith)
counts_outside test zero (suc n) (x ∷ xs) (suc k) w (inl low) = absurd (omega arith)
counts_outside test zero (suc n) (x ∷ xs) (suc k) w (inr high) =
    counts_first test x (take n (set xs k w)) ∙ ap (λ m. flag (test x) + m) (counts_outside test zero n xs k w (inr (omega arith)))
    ∙ sym (counts_first test x (take n xs))
counts_outside test (suc d) n (x ∷ xs) zero w off = refl
counts_outside test (suc d) n (x ∷ xs) (suc k) w (inl low) = counts_outside test d n xs k w (inl (omega arith))
counts_outside test (suc d) n (x ∷ xs) (suc k) w (inr high) = counts_outside test d n xs k w (inr (omega arith))

pub stores_count_shared : StoresCountShared
stores_count_shared pages harts words page size = (
  counts_few (is_shared_leaf page) (512 * pages) (drop pages words),
  λ place word low high. counts_inside (is_shared_leaf page) pages (512 * pages) words place word (omega arith) low (omega arith),
  λ place word off. counts_outside (is_shared_leaf page) pages (512 * pages) words place word (elim off [ inl low ↦ inl low | inr high ↦ inr (omega arith) ]),
)
