use Rattle.std.proofs.Common.{◌≡◌, ◌≢◌, ℕ, zero, suc, ◌+◌, ◌-◌, ◌*◌, ◌/◌, ◌<◌, ◌≤◌, ◌==◌, ◌∙◌, Bool, true, false, List, length, refl, ap, arith}
use Rattle.std.proofs.Math.Dec.{eqb-suc-zero}
use Rattle.std.proofs.lemmas.List.{length-take-le}
use Rattle.cove_base.specs.Executions.{flag}
use Rattle.cove_base.specs.Tables.{entry_in, slots_at}
use Rattle.cove_stage2.specs.Lacked.{absent_among, blocks_touched, tables_lacked}
use Rattle.cove_stage2.specs.MapStores.{pool_after, pool_left}

pub flag-most : (b : Bool) → flag b ≤ 1
flag-most true = omega arith
flag-most false = omega arith

-- the blocks that a run of a slot or more touches
pub blocks_touched-some : (first count : ℕ) → count ≢ 0 → blocks_touched first count ≡ (first + (count - 1)) / 512 + 1 - first / 512
blocks_touched-some first zero some = absurd (some refl)
blocks_touched-some first (suc more) some =
    let less : more ≡ suc more - 1 = omega arith in
    ap (λ m. (first + m) / 512 + 1 - first / 512) less

-- one slot touches one block, and more touch one and some
pub blocks_touched-more : (n k : ℕ) → blocks_touched n (suc k) ≡ suc ((n + k) / 512 - n / 512)
blocks_touched-more n k = omega arith

-- the blocks of some slots are slots of the depth above
pub blocks_inside : (d n k : ℕ) → n + k ≤ slots_at (suc d) → n / 512 + blocks_touched n k ≤ slots_at d
blocks_inside d n zero fits = omega arith
blocks_inside d n (suc more) fits = omega arith

blocks_touched-one : (n : ℕ) → blocks_touched n 1 ≡ 1
blocks_touched-one n = omega arith

-- a slot that names no table takes one page
pool_after-length : (entry : ℕ) (pool : List ℕ) → flag (entry == 0) ≤ length pool → length (pool_after entry pool) + flag (entry == 0) ≡ length pool
pool_after-length zero pool some =
    let short = length-take-le (length pool - 1) pool (omega arith) in
    omega (arith, some, short)
pool_after-length (suc entry) pool some =
    let named : flag (suc entry == 0) ≡ 0 = ap flag (eqb-suc-zero entry) in
    let same : length (pool_after (suc entry) pool) ≡ length pool = refl in
    omega (arith, named, same)

module _ (pages root : ℕ) (words : List ℕ) where
  -- the first of the slots that are left to count, and those after it
  pub absent_among-rest : (d n i k : ℕ) → i < k → absent_among pages root words d (n + i) (k - i) ≡ flag (entry_in pages root words d (n + i) == 0) + absent_among pages root words d (n + (i + 1)) (k - (i + 1))
  absent_among-rest d n i k h =
      let more : k - i ≡ suc (k - (i + 1)) = omega arith in
      let next : n + i + 1 ≡ n + (i + 1) = omega arith in
      let here = flag (entry_in pages root words d (n + i) == 0) in
      ap (λ m. absent_among pages root words d (n + i) m) more ∙ ap (λ m. here + absent_among pages root words d m (k - (i + 1))) next

  -- no more slots have no entry than there are
  absent_among-most : (d n k : ℕ) → absent_among pages root words d n k ≤ k
  absent_among-most d n zero = omega arith
  absent_among-most d n (suc k) =
      let here = flag-most (entry_in pages root words d n == 0) in
      let more = absent_among-most d (n + 1) k in
      omega arith

  -- no slot lacks no table
  pub tables_lacked-none : (d n : ℕ) → tables_lacked pages root words d n 0 ≡ 0
  tables_lacked-none zero n = refl
  tables_lacked-none (suc d) n = omega (arith, tables_lacked-none d (n / 512))

  -- a run lacks no more tables than the blocks that it touches
  pub tables_lacked-most : (d n k : ℕ) → tables_lacked pages root words d n k ≤ k + 2 * d
  tables_lacked-most zero n k = omega arith
  tables_lacked-most (suc d) n zero = omega (arith, tables_lacked-none d (n / 512))
  tables_lacked-most (suc d) n (suc k) =
      let here = absent_among-most d (n / 512) (blocks_touched n (suc k)) in
      let above = tables_lacked-most d (n / 512) (blocks_touched n (suc k)) in
      let few : 2 * blocks_touched n (suc k) ≤ suc k + 2 = omega arith in
      omega (arith, here, above, few)

  -- the first of some slots is among them
  absent_among-first : (d n a b k : ℕ) → a ≡ 1 → b ≡ suc k → absent_among pages root words d n a ≤ absent_among pages root words d n b
  absent_among-first d n a b k one some =
      let least : absent_among pages root words d n 1 ≤ absent_among pages root words d n (suc k) = omega arith in
      rw (one, some) least

  -- the tables that one slot lacks are among those that a run from it on lacks
  pub tables_lacked-first : (d n more : ℕ) → tables_lacked pages root words d n 1 ≤ tables_lacked pages root words d n (suc more)
  tables_lacked-first zero n more = omega arith
  tables_lacked-first (suc d) n more =
      let one = blocks_touched-one n in
      let some = blocks_touched-more n more in
      let here = absent_among-first d (n / 512) (blocks_touched n 1) (blocks_touched n (suc more)) ((n + more) / 512 - n / 512) one some in
      let above : tables_lacked pages root words d (n / 512) (blocks_touched n 1) ≤ tables_lacked pages root words d (n / 512) (blocks_touched n (suc more)) =
      rw (one, some) (tables_lacked-first d (n / 512) ((n + more) / 512 - n / 512)) in
      omega (arith, here, above)

  -- the tables that one slot lacks: that of the slot above it, and those that this one lacks
  pub tables_lacked-one : (d n : ℕ) → tables_lacked pages root words (suc d) n 1 ≡ flag (entry_in pages root words d (n / 512) == 0) + tables_lacked pages root words d (n / 512) 1
  tables_lacked-one d n = let one = blocks_touched-one n in rw one (omega arith)

  -- ---- the pool

  -- a mapping takes as many pages as it lacks tables
  pub pool_left-length : (pool : List ℕ) (d n : ℕ) → tables_lacked pages root words d n 1 ≤ length pool → length (pool_left pages root words pool d n) + tables_lacked pages root words d n 1 ≡ length pool
  pool_left-length pool zero n most = omega arith
  pool_left-length pool (suc d) n most =
      let one = tables_lacked-one d n in
      let above = pool_left-length pool d (n / 512) (omega (arith, one, most)) in
      let here = pool_after-length (entry_in pages root words d (n / 512)) (pool_left pages root words pool d (n / 512)) (omega (arith, one, most, above)) in
      omega (arith, one, above, here)

  -- enough pages for the slots above, and for the one
  pub enough-above : (d n size : ℕ) → tables_lacked pages root words (suc d) n 1 ≤ size → tables_lacked pages root words d (n / 512) 1 ≤ size
  enough-above d n size most = omega (arith, tables_lacked-one d n, most)

  pub enough-here : (pool : List ℕ) (d n : ℕ) → tables_lacked pages root words (suc d) n 1 ≤ length pool → entry_in pages root words d (n / 512) ≡ 0 → 0 < length (pool_left pages root words pool d (n / 512))
  enough-here pool d n most none =
      let one = tables_lacked-one d n in
      let here : flag (entry_in pages root words d (n / 512) == 0) ≡ 1 = ap (λ e. flag (e == 0)) none in
      let left = pool_left-length pool d (n / 512) (enough-above d n (length pool) most) in
      omega (arith, one, here, left, most)
