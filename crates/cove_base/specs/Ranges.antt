use Rattle.std.specs.Prelude.{ℕ, ◌+◌, ◌/◌, ◌%◌, Bool, ◌==◌, ◌||◌, not, nat_lt, if◌then◌else◌, Result, Ok, Err}
use Rattle.cove_base.specs.declared.limits.TheConstants.{RANGE_LIMIT}
use Rattle.cove_base.specs.declared.ranges.PageRange.{PageRange}
use Rattle.cove_base.specs.declared.ranges.RangeFault.{RangeFault}
use Rattle.cove_base.specs.declared.ranges.RangeFault.TheVariants.{BadCount, Unaligned, Outside}

-- no number of pages that a call may name
abbrev pub is_bad_count : ℕ → Bool
is_bad_count n = n == 0 || nat_lt RANGE_LIMIT n

-- an address inside a page, and not at its beginning
abbrev pub is_unaligned : ℕ → Bool
is_unaligned address = not (address % 4096 == 0)

-- one of the n pages from a byte address on is past the board's memory
abbrev pub is_outside : (base n pages : ℕ) → Bool
is_outside base n pages = nat_lt pages (base / 4096 + n)

-- the n pages from a byte address on, or the first fault that applies
abbrev pub range_at : (base n pages : ℕ) → Result PageRange RangeFault
range_at base n pages =
    if is_bad_count n then Err BadCount
    else if is_unaligned base then Err Unaligned
    else if is_outside base n pages then Err Outside
    else Ok (record { first = record { 0 = base / 4096 }; count = n })
