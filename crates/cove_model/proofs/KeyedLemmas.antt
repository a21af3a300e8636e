-- Lists of which each item carries its number: what a change leaves to be found.
use Rattle.std.proofs.Common.{◌≡◌, ℕ, Bool, true, false, cond, eqb, not, map, List, [], ◌∷◌, ◌++◌, Some, None, option_map, refl, sym, ap, ◌∙◌, eqb-true}
use Rattle.std.proofs.lemmas.Option.{none-some, same_Some}
use Rattle.cove_model.specs.Keyed.{at, alter, dropped}

-- a change of every item that keeps numbers
pub at_map : {X : Type 0} (key : X → ℕ) (f : X → X) (keeps : (x : X) → key (f x) ≡ key x) (n : ℕ) (xs : List X)
    → at key n (map f xs) ≡ option_map f (at key n xs)
at_map {X} key f keeps n [] = refl
at_map {X} key f keeps n (x ∷ xs) =
    ap (λ k. cond (eqb k n) (Some (f x)) (at key n (map f xs))) (keeps x) ∙ go (eqb (key x) n) (at_map key f keeps n xs)
  where
    go : (b : Bool) → at key n (map f xs) ≡ option_map f (at key n xs)
        → cond b (Some (f x)) (at key n (map f xs)) ≡ option_map f (cond b (Some x) (at key n xs))
    go true more = refl
    go false more = more

-- the change of one item keeps numbers
pub altered_key : {X : Type 0} (key : X → ℕ) (m : ℕ) (how : X → X) (keeps : (x : X) → key (how x) ≡ key x) (x : X)
    → key (cond (eqb (key x) m) (how x) x) ≡ key x
altered_key {X} key m how keeps x = go (eqb (key x) m)
  where
    go : (b : Bool) → key (cond b (how x) x) ≡ key x
    go true = keeps x
    go false = refl

-- what is found under a number that is changed, and under another
pub at_alter_same : {X : Type 0} (key : X → ℕ) (n : ℕ) (how : X → X) (keeps : (x : X) → key (how x) ≡ key x) (xs : List X)
    → at key n (alter key n how xs) ≡ option_map how (at key n xs)
at_alter_same {X} key n how keeps [] = refl
at_alter_same {X} key n how keeps (x ∷ xs) =
    ap (λ k. cond (eqb k n) (Some (cond (eqb (key x) n) (how x) x)) (at key n (alter key n how xs))) (altered_key key n how keeps x)
    ∙ go (eqb (key x) n) (at_alter_same key n how keeps xs)
  where
    go : (b : Bool) → at key n (alter key n how xs) ≡ option_map how (at key n xs)
        → cond b (Some (cond b (how x) x)) (at key n (alter key n how xs)) ≡ option_map how (cond b (Some x) (at key n xs))
    go true more = refl
    go false more = more

pub at_alter_other : {X : Type 0} (key : X → ℕ) (n m : ℕ) (how : X → X) (keeps : (x : X) → key (how x) ≡ key x) → (n ≡ m → ⊥) → (xs : List X)
    → at key n (alter key m how xs) ≡ at key n xs
at_alter_other {X} key n m how keeps ne [] = refl
at_alter_other {X} key n m how keeps ne (x ∷ xs) =
    ap (λ k. cond (eqb k n) (Some (cond (eqb (key x) m) (how x) x)) (at key n (alter key m how xs))) (altered_key key m how keeps x)
    ∙ go (eqb (key x) n) refl (eqb (key x) m) refl (at_alter_other key n m how keeps ne xs)
  where
    go : (b : Bool) → eqb (key x) n ≡ b → (c : Bool) → eqb (key x) m ≡ c → at key n (alter key m how xs) ≡ at key n xs
        → cond b (Some (cond c (how x) x)) (at key n (alter key m how xs)) ≡ cond b (Some x) (at key n xs)
    go true e true f more = absurd (ne (sym (eqb-true (key x) n e) ∙ eqb-true (key x) m f))
    go true e false f more = refl
    go false e c f more = more

-- what was found is found where more items follow
pub at_append : {X : Type 0} (key : X → ℕ) (n : ℕ) (xs ys : List X) (x : X) → at key n xs ≡ Some x → at key n (xs ++ ys) ≡ Some x
at_append {X} key n [] ys x e = absurd (none-some x e)
at_append {X} key n (y ∷ xs) ys x e = go (eqb (key y) n) e (at_append key n xs ys x)
  where
    go : (b : Bool) → cond b (Some y) (at key n xs) ≡ Some x → (at key n xs ≡ Some x → at key n (xs ++ ys) ≡ Some x) → cond b (Some y) (at key n (xs ++ ys)) ≡ Some x
    go true q more = q
    go false q more = more q

-- and what was not, among those
pub at_beyond : {X : Type 0} (key : X → ℕ) (n : ℕ) (xs ys : List X) → at key n xs ≡ None → at key n (xs ++ ys) ≡ at key n ys
at_beyond {X} key n [] ys e = refl
at_beyond {X} key n (y ∷ xs) ys e = go (eqb (key y) n) e (at_beyond key n xs ys)
  where
    go : (b : Bool) → cond b (Some y) (at key n xs) ≡ None → (at key n xs ≡ None → at key n (xs ++ ys) ≡ at key n ys) → cond b (Some y) (at key n (xs ++ ys)) ≡ at key n ys
    go true q more = absurd (none-some y (sym q))
    go false q more = more q

-- what is found has the number
pub at_key : {X : Type 0} (key : X → ℕ) (n : ℕ) (xs : List X) (x : X) → at key n xs ≡ Some x → key x ≡ n
at_key {X} key n [] x e = absurd (none-some x e)
at_key {X} key n (y ∷ xs) x e = go (eqb (key y) n) refl e (at_key key n xs x)
  where
    go : (b : Bool) → eqb (key y) n ≡ b → cond b (Some y) (at key n xs) ≡ Some x → (at key n xs ≡ Some x → key x ≡ n) → key x ≡ n
    go true t q more = ap key (sym (same_Some y x q)) ∙ eqb-true (key y) n t
    go false t q more = more q

-- items are dropped by their numbers: what is found under another stays
pub at_dropped : {X : Type 0} (key : X → ℕ) (test : ℕ → Bool) (n : ℕ) → test n ≡ false → (xs : List X)
    → at key n (dropped (λ x. test (key x)) xs) ≡ at key n xs
at_dropped {X} key test n kept [] = refl
at_dropped {X} key test n kept (x ∷ xs) = go (test (key x)) refl (eqb (key x) n) refl (at_dropped key test n kept xs)
  where
    rest : List X
    rest = dropped (λ (y : X). test (key y)) xs

    go : (b : Bool) → test (key x) ≡ b → (c : Bool) → eqb (key x) n ≡ c → at key n (dropped (λ (y : X). test (key y)) xs) ≡ at key n xs
        → at key n (cond (not b) (x ∷ dropped (λ (y : X). test (key y)) xs) (dropped (λ (y : X). test (key y)) xs)) ≡ cond c (Some x) (at key n xs)
    go true t true e more = absurd (true_false (sym t ∙ ap test (eqb-true (key x) n e) ∙ kept))
      where
        true_false : true ≡ false → ⊥
        true_false q = cc
    go true t false e more = more
    go false t true e more = ap (λ b. cond b (Some x) (at key n (dropped (λ (y : X). test (key y)) xs))) e
    go false t false e more = ap (λ b. cond b (Some x) (at key n (dropped (λ (y : X). test (key y)) xs))) e ∙ more
