-- Lists of which each item carries its number.
use Rattle.std.specs.Prelude.{ℕ, Bool, ◌==◌, not, if◌then◌else◌, List, map, filter, find, Option}

-- the item with a number, if there is one
abbrev pub at : {X : Type 0} → (key : X → ℕ) → (n : ℕ) → List X → Option X
at key n xs = find (λ x. key x == n) xs

-- the items, of which the one with a number is changed
abbrev pub alter : {X : Type 0} → (key : X → ℕ) → (n : ℕ) → (how : X → X) → List X → List X
alter key n how xs = map (λ x. if key x == n then how x else x) xs

-- the items that a test does not pick
abbrev pub dropped : {X : Type 0} → (test : X → Bool) → List X → List X
dropped test xs = filter (λ x. not (test x)) xs
