-- What holds of each item of a list.
use Rattle.std.proofs.Common.{slice_get, slice_index, take, length, zero, suc, replicate, None, ap, arith, ◌≤◌, ◌≡◌, ℕ, Bool, true, false, cond, eqb, filter, map, List, [], ◌∷◌, ◌++◌, Some, refl, sym, subst, ◌||◌, true≢false, ◌∙◌}
use Rattle.std.proofs.lemmas.Option.{none-some, same_Some}
use Rattle.std.specs.List.{AllByRecursion, list_any}
use Rattle.cove_model.specs.Keyed.{at}

pub all_map : {X Y : Type 0} (P : X → Type 0) (Q : Y → Type 0) (f : X → Y) → ((x : X) → P x → Q (f x)) → (xs : List X) → AllByRecursion P xs → AllByRecursion Q (map f xs)
all_map {X} {Y} P Q f each [] all = tt
all_map {X} {Y} P Q f each (x ∷ xs) all = (each x all.0, all_map P Q f each xs all.1)

pub all_weaker : {X : Type 0} (P Q : X → Type 0) → ((x : X) → P x → Q x) → (xs : List X) → AllByRecursion P xs → AllByRecursion Q xs
all_weaker {X} P Q each [] all = tt
all_weaker {X} P Q each (x ∷ xs) all = (each x all.0, all_weaker P Q each xs all.1)

pub all_append : {X : Type 0} (P : X → Type 0) (xs ys : List X) → AllByRecursion P xs → AllByRecursion P ys → AllByRecursion P (xs ++ ys)
all_append {X} P [] ys all more = more
all_append {X} P (x ∷ xs) ys all more = (all.0, all_append P xs ys all.1 more)

-- the items that a test keeps
pub all_filter : {X : Type 0} (P Q : X → Type 0) (test : X → Bool) → ((x : X) → test x ≡ true → P x → Q x) → (xs : List X) → AllByRecursion P xs → AllByRecursion Q (filter test xs)
all_filter {X} P Q test each [] all = tt
all_filter {X} P Q test each (x ∷ xs) all = go (test x) refl (all_filter P Q test each xs all.1)
  where
    go : (b : Bool) → test x ≡ b → AllByRecursion Q (filter test xs) → AllByRecursion Q (cond b (x ∷ filter test xs) (filter test xs))
    go true e more = (each x e all.0, more)
    go false e more = more

-- an item that is found
pub all_at : {X : Type 0} (P : X → Type 0) (key : X → ℕ) (n : ℕ) (xs : List X) (x : X) → at key n xs ≡ Some x → AllByRecursion P xs → P x
all_at {X} P key n [] x e all = absurd (none-some x e)
all_at {X} P key n (y ∷ xs) x e all = go (eqb (key y) n) e (λ q. all_at P key n xs x q all.1)
  where
    go : (b : Bool) → cond b (Some y) (at key n xs) ≡ Some x → (at key n xs ≡ Some x → P x) → P x
    go true q more = subst P (same_Some y x q) all.0
    go false q more = more q

-- an item that a test finds
-- and a test that none of them passes
pub any_at : {X : Type 0} (test : X → Bool) (key : X → ℕ) (n : ℕ) (xs : List X) (x : X) → at key n xs ≡ Some x → list_any test xs ≡ false → test x ≡ false
any_at {X} test key n [] x e none = absurd (none-some x e)
any_at {X} test key n (y ∷ ys) x e none = go (test y) refl (eqb (key y) n) e none (any_at test key n ys x)
  where
    go : (b : Bool) → test y ≡ b → (c : Bool) → cond c (Some y) (at key n ys) ≡ Some x → (b || list_any test ys) ≡ false → (at key n ys ≡ Some x → list_any test ys ≡ false → test x ≡ false) → test x ≡ false
    go true t c q r more = absurd (true≢false r)
    go false t true q r more = ap test (sym (same_Some y x q)) ∙ t
    go false t false q r more = more q r

pub all_any : {X : Type 0} (P : X → Type 0) (test : X → Bool) (xs : List X) → list_any test xs ≡ true → AllByRecursion P xs → (x : X) × P x × (test x ≡ true)
all_any {X} P test [] e all = absurd (true≢false (sym e))
all_any {X} P test (x ∷ xs) e all = go (test x) refl e (λ q. all_any P test xs q all.1)
  where
    go : (b : Bool) → test x ≡ b → (b || list_any test xs) ≡ true → (list_any test xs ≡ true → (y : X) × P y × (test y ≡ true)) → (y : X) × P y × (test y ≡ true)
    go true t q more = (x, all.0, t)
    go false t q more = more q

pub take_next : {X : Type 0} (xs : List X) (n : ℕ) (x : X) → slice_get xs n ≡ Some x → take (suc n) xs ≡ take n xs ++ x ∷ []
take_next [] n x e = cc
take_next (y ∷ ys) zero x e = ap (λ z. z ∷ []) (same_Some y x e)
take_next (y ∷ ys) (suc n) x e = ap (λ zs. y ∷ zs) (take_next ys n x e)

pub none_past : {X : Type 0} (xs : List X) (n : ℕ) → slice_get xs n ≡ None → length xs ≤ n
none_past [] n e = omega arith
none_past (y ∷ ys) zero e = cc
none_past (y ∷ ys) (suc n) e = let h = none_past ys n e in omega arith

pub replicate_zero : (n i : ℕ) → slice_index (replicate n 0) i ≡ 0
replicate_zero zero i = refl
replicate_zero (suc n) zero = refl
replicate_zero (suc n) (suc i) = replicate_zero n i
