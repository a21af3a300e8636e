use Rattle.std.specs.Prelude.{◌≡◌, ℕ, ◌+◌, ◌*◌, ◌^◌, ◌<◌, ◌≤◌, ◌⊎◌}
use Rattle.cove_base.specs.declared.limits.TheConstants.{TVM_LIMIT}
use Rattle.cove_base.specs.declared.numbers.Role.{Role}
use Rattle.cove_base.specs.declared.numbers.Role.TheVariants.{Root, State, Table, Vcpu, Data}

-- the word of a page of the host's that is mapped shared so many times
abbrev pub host : (maps : ℕ) → ℕ
host maps = 8 * maps

-- the word of a page in conversion since an epoch
abbrev pub converting : (since : ℕ) → ℕ
converting since = 8 * since + 1

-- how a page word writes a role
abbrev pub role_number : Role → ℕ
role_number Root = 0
role_number State = 1
role_number Table = 2
role_number Vcpu = 3
role_number Data = 4

-- the word of a page that was given to a TVM for a role
abbrev pub given : (tvm : ℕ) → Role → ℕ
given tvm role = 64 * tvm + 8 * role_number role + 2

-- the word of a page that was taken back from a TVM
abbrev pub released : ℕ
released = 3

-- a word that a page may have, its numbers within their limits
pub data IsPageWord (word : ℕ) : Type 0 where
  OfHost : (maps : ℕ) → maps < 2 ^ 32 → word ≡ host maps → IsPageWord word
  OfConverting : (since : ℕ) → since < 2 ^ 32 → word ≡ converting since → IsPageWord word
  OfGiven : (tvm : ℕ) (role : Role) → 1 ≤ tvm → tvm ≤ TVM_LIMIT → word ≡ given tvm role → IsPageWord word
  OfReleased : word ≡ released → IsPageWord word

-- the page is the host's, and isn't in conversion
abbrev pub IsHostWord : (word : ℕ) → Type 0
IsHostWord word = (maps : ℕ) × (word ≡ host maps)

-- the page is the host's, and is mapped shared
abbrev pub IsMappedWord : (word : ℕ) → Type 0
IsMappedWord word = (maps : ℕ) × (0 < maps) × (word ≡ host maps)

-- the page may be given away, where each hart has answered at least the floor
abbrev pub IsFreeWord : (floor word : ℕ) → Type 0
IsFreeWord floor word = (word ≡ released) ⊎ ((since : ℕ) × (since < floor) × (word ≡ converting since))
