-- Which hart is inside a TVM, by the words of the harts.
use Rattle.std.specs.Prelude.{◌≡◌, ℕ, ◌/◌, ◌^◌, ◌<◌, ◌==◌, Bool, true, false, List, slice_index, if◌then◌else◌, Option, Some, None}
use Rattle.cove_base.specs.Places.{hart_word}
use Rattle.cove_base.specs.declared.numbers.HartId.{HartId}

-- a hart's word says that it is inside the TVM
abbrev pub is_word_of : (word t : ℕ) → Bool
is_word_of word t = if word == 0 then false else (word / 2 ^ 32 == t)

abbrev pub is_inside : (pages harts : ℕ) (words : List ℕ) (t hart : ℕ) → Bool
is_inside pages harts words t hart = is_word_of (slice_index words (hart_word pages harts hart)) t

-- the least hart that is inside, or none is
abbrev pub IsFirstInside : (pages harts : ℕ) (words : List ℕ) (t : ℕ) → Option HartId → Type 0
IsFirstInside pages harts words t None = (hart : ℕ) → hart < harts → is_inside pages harts words t hart ≡ false
IsFirstInside pages harts words t (Some first) =
    (first.0 < harts) × (is_inside pages harts words t first.0 ≡ true)
    × ((hart : ℕ) → hart < first.0 → is_inside pages harts words t hart ≡ false)
