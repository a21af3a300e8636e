-- Lists in which no number comes twice.
use Rattle.std.proofs.Common.{◌≡◌, ℕ, zero, suc, ◌+◌, ◌<◌, ◌≤◌, Bool, true, false, cond, eqb, eqb-true, eq-eqb, not, ◌||◌, true≢false, map, filter, length, List, [], ◌∷◌, ◌++◌, Some, None, is_none, refl, sym, ap, ◌∙◌, inl, inr, ◌⊎◌, ⊎_elim, arith}
use Rattle.std.specs.List.{list_any, range_with_len}
use Rattle.std.proofs.lemmas.Bool.{cases_Bool, or_cases, or_left, or_right}
use Rattle.std.proofs.lemmas.Option.{none-some}
use Rattle.cove_model.proofs.Members.{false-true, has_append}
use Rattle.cove_model.specs.Machine.{has, remembered, alter, at, dropped, own_mappings, restand, restood, shared_mappings, AreDistinct, Mapping, Standing}

-- a number is not there, or it is
not_there : (n : ℕ) (ns : List ℕ) → (has n ns ≡ true → ⊥) → has n ns ≡ false
not_there n ns apart = ⊎_elim (λ e. absurd (apart e)) (λ e. e) (cases_Bool (has n ns))

there_not : (n : ℕ) (ns : List ℕ) → has n ns ≡ false → has n ns ≡ true → ⊥
there_not n ns e q = true≢false (sym q ∙ e)

pub distinct_append : (xs ys : List ℕ) → AreDistinct xs → AreDistinct ys → ((k : ℕ) → has k ys ≡ true → has k xs ≡ false) → AreDistinct (xs ++ ys)
distinct_append [] ys a b apart = b
distinct_append (x ∷ xs) ys a b apart = (
  not_there x (xs ++ ys) (λ e. ⊎_elim
      (λ old. there_not x xs a.0 old)
      (λ new. there_not x (x ∷ xs) (apart x new) (or_left (eqb x x) (has x xs) (eq-eqb x x refl)))
      (has_append x xs ys e)),
  distinct_append xs ys a.1 b (λ k e. not_there k xs (λ q. there_not k (x ∷ xs) (apart k e) (or_right (eqb x k) (has k xs) q))),
)

has_filtered : (test : ℕ → Bool) (n : ℕ) (xs : List ℕ) → has n (filter test xs) ≡ true → has n xs ≡ true
has_filtered test n [] e = e
has_filtered test n (x ∷ xs) e = go (test x) e (has_filtered test n xs)
  where
    go : (b : Bool) → has n (cond b (x ∷ filter test xs) (filter test xs)) ≡ true → (has n (filter test xs) ≡ true → has n xs ≡ true) → (eqb x n || has n xs) ≡ true
    go true q more = ⊎_elim (λ here. or_left (eqb x n) (has n xs) here) (λ there. or_right (eqb x n) (has n xs) (more there)) (or_cases (eqb x n) (has n (filter test xs)) q)
    go false q more = or_right (eqb x n) (has n xs) (more q)

pub distinct_filter : (test : ℕ → Bool) (xs : List ℕ) → AreDistinct xs → AreDistinct (filter test xs)
distinct_filter test [] a = tt
distinct_filter test (x ∷ xs) a = go (test x) (distinct_filter test xs a.1)
  where
    go : (b : Bool) → AreDistinct (filter test xs) → AreDistinct (cond b (x ∷ filter test xs) (filter test xs))
    go true rest = (not_there x (filter test xs) (λ e. there_not x xs a.0 (has_filtered test x xs e)), rest)
    go false rest = rest

range_bounds : (a n k : ℕ) → has k (range_with_len a n) ≡ true → (a ≤ k) × (k < a + n)
range_bounds a zero k e = false-true e
range_bounds a (suc n) k e = ⊎_elim
    (λ here. let q = eqb-true a k here in (omega arith, omega arith))
    (λ there. let r = range_bounds (a + 1) n k there in let low = r.0 in let high = r.1 in (omega arith, omega arith))
    (or_cases (eqb a k) (has k (range_with_len (a + 1) n)) e)

pub distinct_range : (a n : ℕ) → AreDistinct (range_with_len a n)
distinct_range a zero = tt
distinct_range a (suc n) = (not_there a (range_with_len (a + 1) n) (λ e. let r = (range_bounds (a + 1) n a e).0 in absurd (omega arith)), distinct_range (a + 1) n)

-- ---- the numbers of items

pub keys_altered : {X : Type 0} (key : X → ℕ) (n : ℕ) (how : X → X) → ((x : X) → key (how x) ≡ key x) → (xs : List X) → map key (alter key n how xs) ≡ map key xs
keys_altered {X} key n how numbers [] = refl
keys_altered {X} key n how numbers (x ∷ xs) = ap (λ k. k ∷ map key (alter key n how xs)) (go (eqb (key x) n)) ∙ ap (λ ks. key x ∷ ks) (keys_altered key n how numbers xs)
  where
    go : (b : Bool) → key (cond b (how x) x) ≡ key x
    go true = numbers x
    go false = refl

pub keys_map : {X : Type 0} (key : X → ℕ) (how : X → X) → ((x : X) → key (how x) ≡ key x) → (xs : List X) → map key (map how xs) ≡ map key xs
keys_map {X} key how numbers [] = refl
keys_map {X} key how numbers (x ∷ xs) = ap (λ k. k ∷ map key (map how xs)) (numbers x) ∙ ap (λ ks. key x ∷ ks) (keys_map key how numbers xs)

pub keys_dropped : {X : Type 0} (key : X → ℕ) (test : ℕ → Bool) (xs : List X) → map key (dropped (λ x. test (key x)) xs) ≡ filter (λ n. not (test n)) (map key xs)
keys_dropped {X} key test [] = refl
keys_dropped {X} key test (x ∷ xs) = go (test (key x)) (keys_dropped key test xs)
  where
    go : (b : Bool) → map key (dropped (λ (y : X). test (key y)) xs) ≡ filter (λ n. not (test n)) (map key xs)
        → map key (cond (not b) (x ∷ dropped (λ (y : X). test (key y)) xs) (dropped (λ (y : X). test (key y)) xs)) ≡ cond (not b) (key x ∷ filter (λ n. not (test n)) (map key xs)) (filter (λ n. not (test n)) (map key xs))
    go true more = more
    go false more = ap (λ ks. key x ∷ ks) more

pub none_has : {X : Type 0} (key : X → ℕ) (n : ℕ) (xs : List X) → at key n xs ≡ None → has n (map key xs) ≡ false
none_has {X} key n [] e = refl
none_has {X} key n (x ∷ xs) e = go (eqb (key x) n) e (none_has key n xs)
  where
    go : (b : Bool) → cond b (Some x) (at key n xs) ≡ None → (at key n xs ≡ None → has n (map key xs) ≡ false) → (b || has n (map key xs)) ≡ false
    go true q more = absurd (none-some x (sym q))
    go false q more = more q

-- ---- the guest pages of mappings

abbrev pub pages_of : List Mapping → List ℕ
pages_of ms = map (λ (m : Mapping). m.guest) ms

pub pages_own : (g p : ℕ) (contents : List (List ℕ)) → pages_of (own_mappings g p contents) ≡ range_with_len g (length contents)
pages_own g p [] = refl
pages_own g p (words ∷ rest) = ap (λ ks. g ∷ ks) (pages_own (g + 1) (p + 1) rest)

pub pages_shared : (g p n : ℕ) → pages_of (shared_mappings g p n) ≡ range_with_len g n
pages_shared g p zero = refl
pages_shared g p (suc n) = ap (λ ks. g ∷ ks) (pages_shared (g + 1) (p + 1) n)

pub pages_restood : (test : ℕ → Bool) (how : Standing → Standing) (ms : List Mapping) → pages_of (restood test how ms) ≡ pages_of ms
pages_restood test how ms = keys_map (λ (m : Mapping). m.guest) (restand test how) (λ m. refl) ms

pub pages_remembered : (g : ℕ) (how : List ℕ → List ℕ) (ms : List Mapping) → pages_of (map (remembered g how) ms) ≡ pages_of ms
pages_remembered g how ms = keys_map (λ (m : Mapping). m.guest) (remembered g how) (λ m. refl) ms

-- a test that finds none of a run fails of each
pub none_any : (test : ℕ → Bool) (xs : List ℕ) (k : ℕ) → list_any test xs ≡ false → has k xs ≡ true → test k ≡ false
none_any test [] k e h = false-true h
none_any test (x ∷ xs) k e h = go (test x) refl e (or_cases (eqb x k) (has k xs) h) (none_any test xs k)
  where
    go : (b : Bool) → test x ≡ b → (b || list_any test xs) ≡ false → (eqb x k ≡ true) ⊎ (has k xs ≡ true) → (list_any test xs ≡ false → has k xs ≡ true → test k ≡ false) → test k ≡ false
    go true t q w more = absurd (true≢false q)
    go false t q (inl here) more = ap test (sym (eqb-true x k here)) ∙ t
    go false t q (inr there) more = more q there

-- ---- a number that is there

pub has_left : (n : ℕ) (xs ys : List ℕ) → has n xs ≡ true → has n (xs ++ ys) ≡ true
has_left n [] ys e = false-true e
has_left n (x ∷ xs) ys e = ⊎_elim (λ here. or_left (eqb x n) (has n (xs ++ ys)) here) (λ there. or_right (eqb x n) (has n (xs ++ ys)) (has_left n xs ys there)) (or_cases (eqb x n) (has n xs) e)

pub has_right : (n : ℕ) (xs ys : List ℕ) → has n ys ≡ true → has n (xs ++ ys) ≡ true
has_right n [] ys e = e
has_right n (x ∷ xs) ys e = or_right (eqb x n) (has n (xs ++ ys)) (has_right n xs ys e)

pub has_kept : (test : ℕ → Bool) (n : ℕ) (xs : List ℕ) → has n xs ≡ true → test n ≡ true → has n (filter test xs) ≡ true
has_kept test n [] e t = e
has_kept test n (x ∷ xs) e t = go (test x) refl (or_cases (eqb x n) (has n xs) e) (λ q. has_kept test n xs q t)
  where
    go : (b : Bool) → test x ≡ b → (eqb x n ≡ true) ⊎ (has n xs ≡ true) → (has n xs ≡ true → has n (filter test xs) ≡ true) → has n (cond b (x ∷ filter test xs) (filter test xs)) ≡ true
    go true q (inl here) more = or_left (eqb x n) (has n (filter test xs)) here
    go true q (inr there) more = or_right (eqb x n) (has n (filter test xs)) (more there)
    go false q (inl here) more = absurd (true≢false (sym t ∙ ap test (sym (eqb-true x n here)) ∙ q))
    go false q (inr there) more = more there

pub some_has : {X : Type 0} (key : X → ℕ) (n : ℕ) (xs : List X) → is_none (at key n xs) ≡ false → has n (map key xs) ≡ true
some_has {X} key n [] e = absurd (true≢false e)
some_has {X} key n (x ∷ xs) e = go (eqb (key x) n) refl e (some_has key n xs)
  where
    go : (b : Bool) → eqb (key x) n ≡ b → is_none (cond b (Some x) (at key n xs)) ≡ false → (is_none (at key n xs) ≡ false → has n (map key xs) ≡ true) → (b || has n (map key xs)) ≡ true
    go true q r more = refl
    go false q r more = more r
