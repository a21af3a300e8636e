-- Which harts are inside a TVM, by their words, and what waits for them.
use Rattle.std.specs.Prelude.{◌≡◌, ℕ, ◌+◌, ◌/◌, ◌%◌, ◌^◌, ◌<◌, ◌≤◌, ◌==◌, Bool, false, nat_lt, List, filter, slice_index, Option, Some, None, if◌then◌else◌}
use Rattle.cove_base.specs.Places.{hart_word}
use Rattle.cove_model.specs.States.{harts_below}
use Rattle.cove_model.specs.WordsStand.{number_in}

module _ (pages harts : ℕ) (words : List ℕ) (t : ℕ) where
  -- a hart is inside the TVM, and entered with a number below this one
  abbrev pub is_entered_below : (number hart : ℕ) → Bool
  is_entered_below number hart =
      if slice_index words (hart_word pages harts hart) / 2 ^ 32 == t
      then nat_lt (slice_index words (hart_word pages harts hart) % 2 ^ 32) number
      else false

  -- these harts, rising
  abbrev pub entered_below : (number : ℕ) → List ℕ
  entered_below number = filter (is_entered_below number) (harts_below harts)

  -- What began to wait at a number of the TVM: for no hart that is known before a later fence of the TVM, and then for those
  -- that entered with no later number.
  abbrev pub WaitsSince : (since : ℕ) → Option (List ℕ) → Type 0
  WaitsSince since None = number_in pages harts words t ≤ since
  WaitsSince since (Some waiting) =
      (since < number_in pages harts words t) × (waiting ≡ entered_below (since + 1))
