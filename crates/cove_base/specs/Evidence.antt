-- Evidence: the 360 bytes that tell a TVM's registers. It has two versions, of one form: register 0 of version 2 also
-- folds the board's record and those of vCPUs.
use Rattle.std.specs.Prelude.{◌≡◌, ◌⊎◌, List, [], ◌∷◌, ◌++◌, codes, ℕ, ◌+◌}
use Rattle.std.specs.List.{concat}
use Rattle.cove_base.specs.Hmac.{hmac384}

-- the 8 bytes that evidence begins with: the last is the version's digit
abbrev pub evidence_magic : (version : ℕ) → List ℕ
evidence_magic version = codes "CoVEevd" ++ (48 + version) ∷ []

-- the versions that there are
abbrev pub IsVersion : (version : ℕ) → Type 0
IsVersion version = (version ≡ 1) ⊎ (version ≡ 2)

-- what the mac is over, 312 bytes: the magic, the registers 0 to 4 and the 64 bytes of the nonce
abbrev pub evidence_body : (version : ℕ) (registers : List (List ℕ)) (nonce : List ℕ) → List ℕ
evidence_body version registers nonce = evidence_magic version ++ concat registers ++ nonce

-- the body, and its HMAC under the board's key
unfoldable pub evidence : (version : ℕ) (registers : List (List ℕ)) (nonce key : List ℕ) → List ℕ
evidence version registers nonce key = evidence_body version registers nonce ++ hmac384 key (evidence_body version registers nonce)
