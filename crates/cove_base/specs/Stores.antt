use Rattle.std.specs.Prelude.{◌≡◌, ◌≢◌, ℕ, zero, suc, ◌+◌, ◌<◌, ◌≤◌, ◌⊎◌, List, [], ◌∷◌, ◌++◌, length, slice_index, slice_set}

-- a store: its place, and the word that it writes there
abbrev pub Store : Type 0
Store = ℕ × ℕ

-- the words after stores that were made one after another
abbrev pub stored : (words : List ℕ) → List (ℕ × ℕ) → List ℕ
stored words [] = words
stored words (s ∷ ss) = stored (slice_set words s.0 s.1) ss

-- each store is allowed on the words that those before it leave
abbrev pub AllAllowed : (allows : List ℕ → ℕ → ℕ → Type 0) (words : List ℕ) → List (ℕ × ℕ) → Type 0
AllAllowed allows words [] = Unit {0}
AllAllowed allows words (s ∷ ss) = allows words s.0 s.1 × AllAllowed allows (slice_set words s.0 s.1) ss

-- the stores of one word to places that follow each other
abbrev pub fills : (place n word : ℕ) → List (ℕ × ℕ)
fills place zero word = []
fills place (suc n) word = (place, word) ∷ fills (place + 1) n word

-- some stores that are allowed lead from words to words
abbrev pub Leads : (allows : List ℕ → ℕ → ℕ → Type 0) (old new : List ℕ) → Type 0
Leads allows old new = (ss : List (ℕ × ℕ)) × AllAllowed allows old ss × (new ≡ stored old ss)

-- no store is to the place
abbrev pub IsApart : (place : ℕ) → List (ℕ × ℕ) → Type 0
IsApart place [] = Unit {0}
IsApart place (s ∷ ss) = (place ≢ s.0) × IsApart place ss

-- stores leave the number of words
abbrev pub StoresKeepLength : Type 0
StoresKeepLength = (words : List ℕ) (ss : List (ℕ × ℕ)) → length (stored words ss) ≡ length words

-- stores leave the word at a place that none of them names
abbrev pub StoresKeepOthers : Type 0
StoresKeepOthers =
    (words : List ℕ) (ss : List (ℕ × ℕ)) (place : ℕ) → IsApart place ss
    → slice_index (stored words ss) place ≡ slice_index words place

-- stores and then more stores are one list of stores
abbrev pub StoresAppend : Type 0
StoresAppend = (words : List ℕ) (ss ts : List (ℕ × ℕ)) → stored words (ss ++ ts) ≡ stored (stored words ss) ts

-- the one word stands at each place that was filled
abbrev pub FillsWrite : Type 0
FillsWrite =
    (words : List ℕ) (first n word place : ℕ) → first ≤ place → place < first + n → place < length words
    → slice_index (stored words (fills first n word)) place ≡ word

-- filling leaves the word at a place before or behind
abbrev pub FillsKeepOthers : Type 0
FillsKeepOthers =
    (words : List ℕ) (first n word place : ℕ) → (place < first) ⊎ (first + n ≤ place)
    → slice_index (stored words (fills first n word)) place ≡ slice_index words place
