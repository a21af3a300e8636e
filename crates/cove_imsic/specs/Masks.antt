-- What the fields of a file may be.
use Rattle.std.specs.Prelude.{◌≡◌, ℕ, ◌%◌, ◌^◌, ◌<◌}

-- a mask of the identities 1 to 63
pub record IsMask (mask : ℕ) : Type 0 where
  pub fits : mask < 2 ^ 64
  pub no_bit_0 : mask % 2 ≡ 0

-- two masks, and a threshold of six bits
pub record AreFields (pending enabled threshold : ℕ) : Type 0 where
  pub pending_is_mask : IsMask pending
  pub enabled_is_mask : IsMask enabled
  pub threshold_fits : threshold < 64
