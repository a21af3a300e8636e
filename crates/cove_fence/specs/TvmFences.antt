use Rattle.std.specs.Prelude.{◌≡◌, ℕ, ◌+◌, ◌/◌, ◌%◌, ◌^◌, ◌<◌, ◌≤◌, List, [], ◌∷◌, slice_index}
use Rattle.cove_base.specs.declared.limits.TheConstants.{TVM_LIMIT}
use Rattle.cove_fence.specs.Fences.{FenceWords}

-- the place of a TVM's number
abbrev pub number_place : FenceWords → (tvm : ℕ) → ℕ
number_place places tvm = places.first + 1 + places.harts + tvm

-- the place of the word that says where a hart is
abbrev pub seat_place : FenceWords → (hart : ℕ) → ℕ
seat_place places hart = places.first + 2 + TVM_LIMIT + places.harts + hart

-- the number of a TVM: how many fences of it began
abbrev pub tvm_number : FenceWords → List ℕ → (tvm : ℕ) → ℕ
tvm_number places words tvm = slice_index words (number_place places tvm)

-- the TVM that a hart is inside, by the upper half of its word; 0 where it is outside
abbrev pub seat_tvm : FenceWords → List ℕ → (hart : ℕ) → ℕ
seat_tvm places words hart = slice_index words (seat_place places hart) / 2 ^ 32

-- the number that a hart entered with, by the lower half of its word
abbrev pub seat_number : FenceWords → List ℕ → (hart : ℕ) → ℕ
seat_number places words hart = slice_index words (seat_place places hart) % 2 ^ 32

-- a hart that is inside a TVM and entered with a number below this one
abbrev pub IsInsideBelow : FenceWords → List ℕ → (tvm below hart : ℕ) → Type 0
IsInsideBelow places words tvm below hart =
    (hart < places.harts) × (seat_tvm places words hart ≡ tvm) × (seat_number places words hart < below)

-- every hart below n that is inside a TVM entered with this number or a higher one
abbrev pub AreInsideFrom : FenceWords → List ℕ → (tvm from n : ℕ) → Type 0
AreInsideFrom places words tvm from n =
    (hart : ℕ) → hart < n → seat_tvm places words hart ≡ tvm → from ≤ seat_number places words hart

-- a fence of a TVM began after it had this number, and no hart is inside that entered with it or with a lower one
abbrev pub HasPassed : FenceWords → List ℕ → (tvm since : ℕ) → Type 0
HasPassed places words tvm since =
    (since < tvm_number places words tvm) × AreInsideFrom places words tvm (since + 1) places.harts

-- the store of a new fence of a TVM: its number is one more
abbrev pub fence_stores : FenceWords → List ℕ → (tvm : ℕ) → List (ℕ × ℕ)
fence_stores places words tvm = (number_place places tvm, tvm_number places words tvm + 1) ∷ []
