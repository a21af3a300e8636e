use Rattle.std.proofs.Common.{◌≡◌, ℕ, ◌+◌, ◌-◌, ◌*◌, ◌/◌, ◌%◌, ◌^◌, ◌<◌, ◌≤◌, ◌⊎◌, inl, inr, sym, ap, ◌∙◌, arith}
use Rattle.std.proofs.lemmas.Bool.Decides.{nat_tests}
use Rattle.std.proofs.lemmas.Nat.{pow-add, pow_pos, mul-add-lt, shr_split, shl_whole, shr_below, mod_below}
use Rattle.cove_base.specs.Executions.{IsSize}

-- an aligned part lies within its word
pub sizes : (size : ℕ) → IsSize size → (size ≡ 1) ⊎ ((size ≡ 2) ⊎ ((size ≡ 4) ⊎ (size ≡ 8)))
sizes size h = grind (arith, nat_tests)

pub part_within : (addr size : ℕ) → IsSize size → addr % size ≡ 0 → addr % 8 + size ≤ 8
part_within addr size h e =
    elim (sizes size h) [
      | inl one ↦ omega arith
      | inr more ↦ elim more [
        | inl two ↦ omega (arith, even addr size 2 two e)
        | inr most ↦ elim most [
          | inl four ↦ omega (arith, even addr size 4 four e)
          | inr eight ↦ omega (arith, even addr size 8 eight e)
        ]
      ]
    ]
  where
    even : (addr size n : ℕ) → size ≡ n → addr % size ≡ 0 → addr % n ≡ 0
    even addr size n same e = rw (← same) e

-- the three pieces of a merged word fit
pub pieces_fit : (word part l w : ℕ) → l + w ≤ 64 → word < 2 ^ 64 → part < 2 ^ w
    → word % 2 ^ l + part * 2 ^ l + word / 2 ^ (l + w) * 2 ^ (l + w) < 2 ^ 64
pieces_fit word part l w room below small =
    let m : ℕ = 64 - (l + w) in
    let sum : m + (l + w) ≡ 64 = omega arith in
    let whole : word < 2 ^ (m + (l + w)) = rw sum below in
    let high : word / 2 ^ (l + w) < 2 ^ m = shr_below word m (l + w) whole in
    let low : word % 2 ^ l < 2 ^ l = mod_below word (2 ^ l) (pow_pos l) in
    let inner : part * 2 ^ l + word % 2 ^ l < 2 ^ (l + w) =
    rw (pow-add 2 l w) (mul-add-lt part (2 ^ l) (word % 2 ^ l) (2 ^ w) small low) in
    let inner' : word % 2 ^ l + part * 2 ^ l < 2 ^ (l + w) = omega arith in
    let outer : word / 2 ^ (l + w) * 2 ^ (l + w) + (word % 2 ^ l + part * 2 ^ l) < 2 ^ (l + w) * 2 ^ m =
    mul-add-lt (word / 2 ^ (l + w)) (2 ^ (l + w)) (word % 2 ^ l + part * 2 ^ l) (2 ^ m) high inner' in
    let total : l + w + m ≡ 64 = omega arith in
    let top : 2 ^ (l + w) * 2 ^ m ≡ 2 ^ 64 = sym (pow-add 2 (l + w) m) ∙ ap (λ (k : ℕ). 2 ^ k) total in
    omega arith

pub whole_part : (part l w : ℕ) → l + w ≤ 64 → part < 2 ^ w → part * 2 ^ l % 2 ^ 64 ≡ part * 2 ^ l
whole_part part l w room small = shl_whole part w l 64 small (omega arith)

pub bits_above : (word k : ℕ) → word - word % 2 ^ k ≡ word / 2 ^ k * 2 ^ k
bits_above word k = omega (arith, shr_split word k)

-- a merged word fits, as it is computed
pub record IsMerge (word part l w : ℕ) : Type 0 where
  pub first : word % 2 ^ l + part * 2 ^ l % 2 ^ 64 < 2 ^ 64
  pub second : word % 2 ^ l + part * 2 ^ l % 2 ^ 64 + (word - word % 2 ^ (l + w)) < 2 ^ 64
  pub value : word % 2 ^ l + part * 2 ^ l % 2 ^ 64 + (word - word % 2 ^ (l + w))
      ≡ word % 2 ^ l + part * 2 ^ l + word / 2 ^ (l + w) * 2 ^ (l + w)

pub merge_of : (word part l w : ℕ) → l + w ≤ 64 → word < 2 ^ 64 → part < 2 ^ w → IsMerge word part l w
merge_of word part l w room below small =
    let fit = pieces_fit word part l w room below small in
    let same : part * 2 ^ l % 2 ^ 64 ≡ part * 2 ^ l = whole_part part l w room small in
    let above : word - word % 2 ^ (l + w) ≡ word / 2 ^ (l + w) * 2 ^ (l + w) = bits_above word (l + w) in
    record { first = omega arith; second = omega arith; value = omega arith }

-- the same, from what the three calls answer
pub record IsMergedFrom (word value l w above below part : ℕ) : Type 0 where
  pub first : below + part * 2 ^ l % 2 ^ 64 < 2 ^ 64
  pub second : below + part * 2 ^ l % 2 ^ 64 + (word - above) < 2 ^ 64
  pub whole : below + part * 2 ^ l % 2 ^ 64 + (word - above)
      ≡ word % 2 ^ l + value % 2 ^ w * 2 ^ l + word / 2 ^ (l + w) * 2 ^ (l + w)

pub merged_from : (word value addr size above below part : ℕ) → IsSize size → addr % size ≡ 0 → word < 2 ^ 64
    → above ≡ word % 2 ^ (8 * (addr % 8) + 8 * size) → below ≡ word % 2 ^ (8 * (addr % 8))
    → part ≡ value % 2 ^ (8 * size)
    → IsMergedFrom word value (8 * (addr % 8)) (8 * size) above below part
merged_from word value addr size above below part is_size aligned fits ea eb ep =
    let l : ℕ = 8 * (addr % 8) in
    let w : ℕ = 8 * size in
    let within : addr % 8 + size ≤ 8 = part_within addr size is_size aligned in
    let room : l + w ≤ 64 = omega arith in
    let small : value % 2 ^ w < 2 ^ w = mod_below value (2 ^ w) (pow_pos w) in
    let merge : IsMerge word (value % 2 ^ w) l w = merge_of word (value % 2 ^ w) l w room fits small in
    record { first = rw (eb, ep) merge.first; second = rw (ea, eb, ep) merge.second; whole = rw (ea, eb, ep) merge.value }
