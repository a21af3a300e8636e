-- The rings of a hart's TLB. A ring holds pages, each under the key that finds it, the oldest first.
use Rattle.std.specs.Prelude.{ℕ, ◌-◌, ◌==◌, List, [], ◌∷◌, ◌++◌, length, drop, find, Option}
use Rattle.std.specs.Option.{option_map}
use Rattle.cove_base.specs.declared.numbers.Page.{Page}

-- how many pages a ring has room for
abbrev pub ring_room : ℕ
ring_room = 4

-- the last n of a list
abbrev pub keep_last : {X : Type 0} → (n : ℕ) → List X → List X
keep_last n xs = drop (length xs - n) xs

-- the page that a ring finds by a key
abbrev pub found : (key : ℕ) → List (ℕ × Page) → Option Page
found key pairs = option_map (λ pair. pair.1) (find (λ pair. pair.0 == key) pairs)

-- a ring after a page came in as the newest: a full ring gave up its oldest
abbrev pub ring_with : List (ℕ × Page) → (key : ℕ) → Page → List (ℕ × Page)
ring_with pairs key page = keep_last ring_room (pairs ++ (key, page) ∷ [])
