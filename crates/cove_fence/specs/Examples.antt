-- The words that examples of fences are worked on.
use Rattle.std.specs.Prelude.{ℕ, ◌+◌, ◌^◌, List, replicate, slice_set}
use Rattle.cove_fence.specs.Fences.{FenceWords}
use Rattle.cove_fence.specs.TvmFences.{number_place, seat_place}

-- the places of a board of two harts and no page
abbrev pub places_of_two : FenceWords
places_of_two = record { first = 0; harts = 2 }

-- TVM 1 has number 5, and hart 1 is inside since it had number 3; hart 0 is outside
abbrev pub one_inside : List ℕ
one_inside = slice_set (slice_set (replicate 71 0) (number_place places_of_two 1) 5) (seat_place places_of_two 1) (2 ^ 32 + 3)
