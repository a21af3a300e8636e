-- Runs of pages that are changed each by its place.
use Rattle.std.proofs.Common.{◌≡◌, ℕ, zero, suc, ◌+◌, ◌<◌, List, [], ◌∷◌, ◌++◌, length, map, take, drop, refl, sym, ap, ◌∙◌, inl, inr, ◌⊎◌, arith}
use Rattle.std.specs.List.{enumerate_from}
use Rattle.cove_model.specs.Machine.{Owner, page_at, change_each}

-- a run at the front of the pages, of which the first has a place
front_each : (how : ℕ → Owner → Owner) (k n : ℕ) (pages : List Owner) → List Owner
front_each how k n pages = map (λ item. how item.0 item.1) (enumerate_from k (take n pages)) ++ drop n pages

front_inside : (how : ℕ → Owner → Owner) (k n : ℕ) (pages : List Owner) (i : ℕ) → i < n → i < length pages
    → page_at (front_each how k n pages) i ≡ how (k + i) (page_at pages i)
unfolding front_each
front_inside how k zero pages i below within = absurd (omega arith)
front_inside how k (suc n) [] i below within = absurd (omega arith)
front_inside how k (suc n) (x ∷ xs) zero below within = ap (λ j. how j x) (omega arith)
front_inside how k (suc n) (x ∷ xs) (suc i) below within =
    front_inside how (k + 1) n xs i (omega arith) (omega arith) ∙ ap (λ j. how j (page_at xs i)) (omega arith)

front_cases : (how : ℕ → Owner → Owner) (k n : ℕ) (pages : List Owner) (p : ℕ)
    → (page_at (front_each how k n pages) p ≡ page_at pages p) ⊎ ((i : ℕ) × (page_at (front_each how k n pages) p ≡ how i (page_at pages p)))
unfolding front_each
front_cases how k zero pages p = inl refl
front_cases how k (suc n) [] p = inl refl
front_cases how k (suc n) (x ∷ xs) zero = inr (k, refl)
front_cases how k (suc n) (x ∷ xs) (suc p) = front_cases how (k + 1) n xs p

-- each page is as before, or changed by a place
pub each_cases : (how : ℕ → Owner → Owner) (first n : ℕ) (pages : List Owner) (p : ℕ)
    → (page_at (change_each how first n pages) p ≡ page_at pages p) ⊎ ((i : ℕ) × (page_at (change_each how first n pages) p ≡ how i (page_at pages p)))
unfolding front_each
each_cases how zero n pages p = front_cases how 0 n pages p
each_cases how (suc a) zero [] p = inl refl
each_cases how (suc a) (suc n) [] p = inl refl
each_cases how (suc a) n (x ∷ xs) zero = inl refl
each_cases how (suc a) n (x ∷ xs) (suc p) = each_cases how a n xs p

-- a page of the run is changed by its place
pub each_inside : (how : ℕ → Owner → Owner) (first n : ℕ) (pages : List Owner) (i : ℕ) → i < n → first + i < length pages
    → page_at (change_each how first n pages) (first + i) ≡ how i (page_at pages (first + i))
unfolding front_each
each_inside how zero n pages i below within = go (0 + i) (omega arith)
  where
    go : (j : ℕ) → j ≡ i → page_at (change_each how 0 n pages) j ≡ how i (page_at pages j)
    go j e = front_inside how 0 n pages j (omega arith) (omega arith) ∙ ap (λ k. how k (page_at pages j)) (omega arith)
each_inside how (suc a) n [] i below within = absurd (omega arith)
each_inside how (suc a) n (x ∷ xs) i below within = go (suc a + i) (omega arith) (λ q. each_inside how a n xs i below q)
  where
    go : (j : ℕ) → j ≡ suc (a + i) → (a + i < length xs → page_at (change_each how a n xs) (a + i) ≡ how i (page_at xs (a + i)))
        → page_at (change_each how (suc a) n (x ∷ xs)) j ≡ how i (page_at (x ∷ xs) j)
    go zero e more = absurd (omega arith)
    go (suc j) e more =
        let same : j ≡ a + i = omega arith in
        ap (λ k. page_at (change_each how a n xs) k) same ∙ more (omega arith) ∙ ap (λ k. how i (page_at xs k)) (sym same)

front_length : (how : ℕ → Owner → Owner) (k n : ℕ) (pages : List Owner) → length (front_each how k n pages) ≡ length pages
unfolding front_each
front_length how k zero pages = refl
front_length how k (suc n) [] = refl
front_length how k (suc n) (x ∷ xs) = ap suc (front_length how (k + 1) n xs)

pub length_change_each : (how : ℕ → Owner → Owner) (first n : ℕ) (pages : List Owner) → length (change_each how first n pages) ≡ length pages
unfolding front_each
length_change_each how zero n pages = front_length how 0 n pages
length_change_each how (suc a) zero [] = refl
length_change_each how (suc a) (suc n) [] = refl
length_change_each how (suc a) n (x ∷ xs) = ap suc (length_change_each how a n xs)
