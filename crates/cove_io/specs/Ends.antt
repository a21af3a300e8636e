-- What reads and writes do to the bytes and to the counts of faults of the outside. Bytes that an end does not
-- tell are `None`; of them `Consumes`, `Appends`, `Keeps` and `IsAtEnd` claim nothing.
use Rattle.std.specs.Prelude.{◌≡◌, ℕ, ◌+◌, ◌-◌, ◌^◌, ◌≤◌, min, List, length, take, Option}
use Rattle.std.specs.Io.KnownBytes.{Consumes, Appends}

-- a count of faults rose, or stands at its last value
abbrev pub Rose : (before now : ℕ) → Type 0
Rose before now = min (before + 1) (2 ^ 64 - 1) ≤ now

-- just n of the bytes that were left were taken
abbrev pub TakesExactly : (n : ℕ) (old new : Option (List ℕ)) → Type 0
TakesExactly n old new = (bytes : List ℕ) × (length bytes ≡ n) × Consumes old new bytes

-- no more than n of the bytes that were left were taken
abbrev pub TakesAtMost : (n : ℕ) (old new : Option (List ℕ)) → Type 0
TakesAtMost n old new = (bytes : List ℕ) × (length bytes ≤ n) × Consumes old new bytes

-- the bytes that an end took grew by a front of the piece, which may be empty or the whole piece
abbrev pub AppendsFront : (old new : Option (List ℕ)) (piece : List ℕ) → Type 0
AppendsFront old new piece = (n : ℕ) × (n ≤ length piece) × Appends old new (take n piece)
