-- Frames by the bytes of their words.
use Rattle.std.specs.Prelude.{◌≡◌, ℕ, ◌+◌, ◌*◌, ◌<◌, ◌==◌, if◌then◌else◌, List, length, map, slice_index}
use Rattle.std.specs.Int.{from_le_bytes, w64}
use Rattle.std.specs.List.{range_with_len}
use Rattle.cove_mem.specs.Frames.{frame}

-- bytes by their addresses, with another one at an address
abbrev pub with_byte_at : (byte : ℕ → ℕ) (addr value : ℕ) → ℕ → ℕ
with_byte_at byte addr value other = if other == addr then value else byte other

-- each word of the frames is eight of these bytes, little-endian
pub record FramesShow (frames : List (List ℕ)) (byte : ℕ → ℕ) : Type 0 where
  pub small : (addr : ℕ) → byte addr < 256
  pub size : (p : ℕ) → p < length frames → length (frame frames p) ≡ 512
  pub word :
      (p i : ℕ) → p < length frames → i < 512
      → slice_index (frame frames p) i ≡ from_le_bytes w64 (map byte (range_with_len (4096 * p + 8 * i) 8))
