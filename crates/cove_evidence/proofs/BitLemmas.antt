-- When `or` and `xor` give 0.
use Rattle.std.proofs.Common.{◌≡◌, ◌+◌, ◌%◌, ℕ, sym, ◌∙◌, ap, max, arith}
use Rattle.std.specs.Prelude.{bit_or, bit_xor}
use Rattle.std.specs.Int.{bit_at}
use Rattle.std.proofs.lemmas.Nat.Bits.{bit_at-lt, bit_at-zero, bit_at_or, bit_at_xor, same_from_bits}

-- only of two zeros does `or` give 0
pub or-zero : (a b : ℕ) → bit_or a b ≡ 0 → (a ≡ 0) × (b ≡ 0)
or-zero a b e = (same_from_bits a 0 (λ i. first i), same_from_bits b 0 (λ i. second i))
  where
    none : (i : ℕ) → max (bit_at a i) (bit_at b i) ≡ bit_at 0 i
    none i = sym (bit_at_or a b i) ∙ ap (λ n. bit_at n i) e

    first : (i : ℕ) → bit_at a i ≡ bit_at 0 i
    first i = let m = none i in let z = bit_at-zero i in omega arith

    second : (i : ℕ) → bit_at b i ≡ bit_at 0 i
    second i = let m = none i in let z = bit_at-zero i in omega arith

-- only of equals does `xor` give 0
pub xor-zero : (a b : ℕ) → bit_xor a b ≡ 0 → a ≡ b
xor-zero a b e = same_from_bits a b each
  where
    each : (i : ℕ) → bit_at a i ≡ bit_at b i
    each i =
        let odd : (bit_at a i + bit_at b i) % 2 ≡ bit_at 0 i = sym (bit_at_xor a b i) ∙ ap (λ n. bit_at n i) e in
        let zero' = bit_at-zero i in
        let first = bit_at-lt a i in
        let second = bit_at-lt b i in
        omega arith

-- `xor` of equals gives 0
pub xor-same : (a : ℕ) → bit_xor a a ≡ 0
xor-same a = same_from_bits (bit_xor a a) 0 each
  where
    each : (i : ℕ) → bit_at (bit_xor a a) i ≡ bit_at 0 i
    each i =
        let twice : bit_at (bit_xor a a) i ≡ (bit_at a i + bit_at a i) % 2 = bit_at_xor a a i in
        let zero' = bit_at-zero i in
        omega arith
