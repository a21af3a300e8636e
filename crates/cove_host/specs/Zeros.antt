-- Frames of zeros, and frames that are copies.
use Rattle.std.specs.Prelude.{◌≡◌, ℕ, ◌+◌, ◌<◌, ◌≤◌, List}
use Rattle.cove_mem.specs.Frames.{frame}
use Rattle.cove_model.specs.Owners.{zeros}

-- n frames, from the first on, are zeros
abbrev pub AreZeros : (frames : List (List ℕ)) (first n : ℕ) → Type 0
AreZeros frames first n = (page : ℕ) → first ≤ page → page < first + n → frame frames page ≡ zeros

-- n frames, from one on, are those from another on
abbrev pub AreCopies : (frames : List (List ℕ)) (from to n : ℕ) → Type 0
AreCopies frames from to n = (j : ℕ) → j < n → frame frames (to + j) ≡ frame frames (from + j)
