use Rattle.std.proofs.Common.{◌≡◌, ℕ, suc, ◌+◌, ◌-◌, ◌*◌, ◌/◌, ◌%◌, ◌^◌, ◌<◌, ◌≤◌, ℤ, pos, negsuc, true, false, refl, ap, ◌∙◌, arith, inl, inr}
use Rattle.std.proofs.lemmas.Bool.Decides.{nat_tests}
use Rattle.std.proofs.lemmas.Int.{ints}
use Rattle.std.proofs.lemmas.Bool.{cases_lt}
use Rattle.std.specs.Prelude.{nat_lt}
use Rattle.cove_base.specs.Instructions.{signed, imm_i, imm_s, imm_b, imm_u, imm_j}
use Rattle.cove_base.specs.Encodings.{bits_of, r_format, i_format, IsImmediate}

-- a word has these fields: opcode, rd, funct3, rs1, rs2 and funct7
pub record HasFields (w o d f a b h : ℕ) : Type 0 where
  pub opcode : w % 2 ^ 7 ≡ o
  pub rd : w / 2 ^ 7 % 2 ^ 5 ≡ d
  pub funct3 : w / 2 ^ 12 % 2 ^ 3 ≡ f
  pub rs1 : w / 2 ^ 15 % 2 ^ 5 ≡ a
  pub rs2 : w / 2 ^ 20 % 2 ^ 5 ≡ b
  pub funct7 : w / 2 ^ 25 ≡ h

pub r_fields : (o f h d a b : ℕ) → o < 2 ^ 7 → d < 2 ^ 5 → f < 2 ^ 3 → a < 2 ^ 5 → b < 2 ^ 5
    → HasFields (r_format o f h d a b) o d f a b h
r_fields o f h d a b ho hd hf ha hb = record {
  opcode = omega arith;
  rd = omega arith;
  funct3 = omega arith;
  rs1 = omega arith;
  rs2 = omega arith;
  funct7 = omega arith;
}

-- a word has these fields, and twelve bits above them
pub record HasBits (w o d f a n : ℕ) : Type 0 where
  pub opcode : w % 2 ^ 7 ≡ o
  pub rd : w / 2 ^ 7 % 2 ^ 5 ≡ d
  pub funct3 : w / 2 ^ 12 % 2 ^ 3 ≡ f
  pub rs1 : w / 2 ^ 15 % 2 ^ 5 ≡ a
  pub bits : w / 2 ^ 20 ≡ n

pub i_fields : (o f d a n : ℕ) → o < 2 ^ 7 → d < 2 ^ 5 → f < 2 ^ 3 → a < 2 ^ 5
    → HasBits (i_format o f d a n) o d f a n
i_fields o f d a n ho hd hf ha = record {
  opcode = omega arith;
  rd = omega arith;
  funct3 = omega arith;
  rs1 = omega arith;
  bits = omega arith;
}

-- a word has an opcode, a register and twenty bits above them
pub record HasUpper (w o d u : ℕ) : Type 0 where
  pub opcode : w % 2 ^ 7 ≡ o
  pub rd : w / 2 ^ 7 % 2 ^ 5 ≡ d
  pub upper : w / 2 ^ 12 ≡ u

pub upper_fields : (o d u : ℕ) → o < 2 ^ 7 → d < 2 ^ 5 → HasUpper (u * 2 ^ 12 + d * 2 ^ 7 + o) o d u
upper_fields o d u ho hd = record { opcode = omega arith; rd = omega arith; upper = omega arith }

-- a word is put together from its fields
pub r_whole : (w : ℕ) → w / 2 ^ 25 * 2 ^ 25 + w / 2 ^ 20 % 2 ^ 5 * 2 ^ 20 + w / 2 ^ 15 % 2 ^ 5 * 2 ^ 15
    + w / 2 ^ 12 % 2 ^ 3 * 2 ^ 12 + w / 2 ^ 7 % 2 ^ 5 * 2 ^ 7 + w % 2 ^ 7 ≡ w
r_whole w = omega arith

pub i_whole : (w : ℕ) → w / 2 ^ 20 * 2 ^ 20 + w / 2 ^ 15 % 2 ^ 5 * 2 ^ 15
    + w / 2 ^ 12 % 2 ^ 3 * 2 ^ 12 + w / 2 ^ 7 % 2 ^ 5 * 2 ^ 7 + w % 2 ^ 7 ≡ w
i_whole w = omega arith

pub upper_whole : (w : ℕ) → w / 2 ^ 12 * 2 ^ 12 + w / 2 ^ 7 % 2 ^ 5 * 2 ^ 7 + w % 2 ^ 7 ≡ w
upper_whole w = omega arith

-- signed numbers and their bits
under : (m n : ℕ) → m < n → nat_lt m n ≡ true
under m n h = grind (arith, nat_tests)

not_under : (m n : ℕ) → n ≤ m → nat_lt m n ≡ false
not_under m n h = grind (arith, nat_tests)

pub signed-small : (width n : ℕ) → n < 2 ^ (width - 1) → signed width n ≡ pos n
signed-small width n h = rw (under n (2 ^ (width - 1)) h) refl

pub signed-large : (width n : ℕ) → 2 ^ (width - 1) ≤ n → signed width n ≡ negsuc (2 ^ width - (n + 1))
signed-large width n h = rw (not_under n (2 ^ (width - 1)) h) refl

pub bits_of-signed : (width n : ℕ) → n < 2 ^ width → bits_of width (signed width n) ≡ n
bits_of-signed width n h =
    elim (cases_lt n (2 ^ (width - 1))) [
      | inl small ↦ ap (bits_of width) (signed-small width n small)
      | inr large ↦ ap (bits_of width) (signed-large width n large) ∙ omega arith
    ]

pub signed-bits_of : (width zeros : ℕ) (i : ℤ) → 2 * 2 ^ (width - 1) ≡ 2 ^ width → IsImmediate width zeros i
    → signed width (bits_of width i) ≡ i
signed-bits_of width zeros (pos n) double (low, high, even) = signed-small width n (omega (arith, ints))
signed-bits_of width zeros (negsuc n) double (low, high, even) =
    let few : n < 2 ^ (width - 1) = omega (arith, ints) in
    signed-large width (2 ^ width - suc n) (omega arith) ∙ ap negsuc (omega arith)

pub bits_of_below : (width zeros : ℕ) (i : ℤ) → 2 * 2 ^ (width - 1) ≡ 2 ^ width → IsImmediate width zeros i
    → bits_of width i < 2 ^ width
bits_of_below width zeros (pos n) double (low, high, even) =
    let few : n < 2 ^ (width - 1) = omega (arith, ints) in omega arith
bits_of_below width zeros (negsuc n) double (low, high, even) =
    let few : n < 2 ^ (width - 1) = omega (arith, ints) in omega arith

pub signed_fits : (width zeros n : ℕ) → 2 * 2 ^ (width - 1) ≡ 2 ^ width → n < 2 ^ width → n % 2 ^ zeros ≡ 0
    → IsImmediate width zeros (signed width n)
signed_fits width zeros n double below even =
    let same = bits_of-signed width n below in (
      elim (cases_lt n (2 ^ (width - 1))) [
        | inl small ↦ rw (signed-small width n small) (omega (arith, ints))
        | inr large ↦ rw (signed-large width n large) (omega (arith, ints))
      ],
      elim (cases_lt n (2 ^ (width - 1))) [
        | inl small ↦ rw (signed-small width n small) (omega (arith, ints))
        | inr large ↦ rw (signed-large width n large) (omega (arith, ints))
      ],
      ap (λ (m : ℕ). m % 2 ^ zeros) same ∙ even,
    )

-- the bits of the immediates that lie in pieces, by the pieces, and back
pub b_bits : (h d : ℕ) → ℕ
b_bits h d = h / 2 ^ 6 * 2 ^ 12 + d % 2 * 2 ^ 11 + h % 2 ^ 6 * 2 ^ 5 + d / 2 * 2

pub j_bits : (u : ℕ) → ℕ
j_bits u = u / 2 ^ 19 * 2 ^ 20 + u % 2 ^ 8 * 2 ^ 12 + u / 2 ^ 8 % 2 * 2 ^ 11 + u / 2 ^ 9 % 2 ^ 10 * 2

pub imm_i_is : (w n : ℕ) → w / 2 ^ 20 ≡ n → imm_i w ≡ signed 12 n
imm_i_is w n e = ap (signed 12) e

pub imm_s_is : (w h d : ℕ) → w / 2 ^ 25 ≡ h → w / 2 ^ 7 % 2 ^ 5 ≡ d → imm_s w ≡ signed 12 (h * 2 ^ 5 + d)
imm_s_is w h d eh ed = ap (signed 12) (omega arith)

pub imm_b_is : (w h d : ℕ) → w / 2 ^ 25 ≡ h → w / 2 ^ 7 % 2 ^ 5 ≡ d → imm_b w ≡ signed 13 (b_bits h d)
unfolding b_bits
imm_b_is w h d eh ed = ap (signed 13) (omega arith)

pub imm_u_is : (w u : ℕ) → w / 2 ^ 12 ≡ u → imm_u w ≡ signed 32 (u * 2 ^ 12)
imm_u_is w u e = ap (signed 32) (omega arith)

pub imm_j_is : (w u : ℕ) → w / 2 ^ 12 ≡ u → imm_j w ≡ signed 21 (j_bits u)
unfolding j_bits
imm_j_is w u e = ap (signed 21) (omega arith)

pub b_bits-pieces : (n : ℕ) → n < 2 ^ 13 → n % 2 ≡ 0
    → b_bits (n / 2 ^ 12 * 2 ^ 6 + n / 2 ^ 5 % 2 ^ 6) (n / 2 % 2 ^ 4 * 2 + n / 2 ^ 11 % 2) ≡ n
unfolding b_bits
b_bits-pieces n below even = omega arith

pub j_bits-pieces : (n : ℕ) → n < 2 ^ 21 → n % 2 ≡ 0
    → j_bits (n / 2 ^ 20 * 2 ^ 19 + n / 2 % 2 ^ 10 * 2 ^ 9 + n / 2 ^ 11 % 2 * 2 ^ 8 + n / 2 ^ 12 % 2 ^ 8) ≡ n
unfolding j_bits
j_bits-pieces n below even = omega arith

-- pieces of the bits are the fields that they came from
pub record HasPieces (n h d : ℕ) : Type 0 where
  pub high : n / 2 ^ 12 * 2 ^ 6 + n / 2 ^ 5 % 2 ^ 6 ≡ h
  pub low : n / 2 % 2 ^ 4 * 2 + n / 2 ^ 11 % 2 ≡ d
  pub even : n % 2 ≡ 0
  pub below : n < 2 ^ 13

pub b_pieces : (h d : ℕ) → h < 2 ^ 7 → d < 2 ^ 5 → HasPieces (b_bits h d) h d
unfolding b_bits
b_pieces h d hh hd = record { high = omega arith; low = omega arith; even = omega arith; below = omega arith }

pub record HasUpperPieces (n u : ℕ) : Type 0 where
  pub whole : n / 2 ^ 20 * 2 ^ 19 + n / 2 % 2 ^ 10 * 2 ^ 9 + n / 2 ^ 11 % 2 * 2 ^ 8 + n / 2 ^ 12 % 2 ^ 8 ≡ u
  pub even : n % 2 ≡ 0
  pub below : n < 2 ^ 21

pub j_pieces : (u : ℕ) → u < 2 ^ 20 → HasUpperPieces (j_bits u) u
unfolding j_bits
j_pieces u h = record { whole = omega arith; even = omega arith; below = omega arith }
