-- HMAC (FIPS 198-1, RFC 2104) over SHA-384, whose block has 128 bytes.
use Rattle.std.specs.Prelude.{ℕ, ◌-◌, nat_lt, List, ◌++◌, length, map, replicate, bit_xor, if◌then◌else◌}
use Rattle.sha2.specs.Sha512.{sha384}

-- a block that begins with some bytes, and has zeros after them
abbrev pub filled_block : List ℕ → List ℕ
filled_block bytes = bytes ++ replicate (128 - length bytes) 0

-- a key as one block: a key that is longer than a block is replaced by its SHA-384
abbrev pub key_block : List ℕ → List ℕ
key_block key = filled_block (if nat_lt 128 (length key) then sha384 key else key)

-- the SHA-384 of a block, each byte with one pad xored in, and a message after it
abbrev pub padded_digest : (block : List ℕ) (pad : ℕ) (message : List ℕ) → List ℕ
padded_digest block pad message = sha384 (map (λ byte. bit_xor byte pad) block ++ message)

-- the HMAC of a message under a key: the pads are 0x36 within and 0x5C without
unfoldable pub hmac384 : (key message : List ℕ) → List ℕ
hmac384 key message = padded_digest (key_block key) 0x5C (padded_digest (key_block key) 0x36 message)
