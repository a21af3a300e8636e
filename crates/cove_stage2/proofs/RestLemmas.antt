use Rattle.std.proofs.Common.{◌≡◌, ◌≢◌, ℕ, zero, suc, ◌+◌, ◌-◌, ◌/◌, ◌<◌, ◌≤◌, ◌⊎◌, ◌==◌, ◌∙◌, List, refl, sym, ap, subst, arith, inl, inr}
use Rattle.std.proofs.Math.Dec.{eqb-suc-zero}
use Rattle.std.proofs.lemmas.Bool.{cases_eq}
use Rattle.cove_base.specs.Executions.{flag}
use Rattle.cove_base.proofs.TreeLemmas.{slot-number}
use Rattle.cove_base.specs.Tables.{Slot, At, IsLinkSlot, entry_in, slots_at}
use Rattle.cove_stage2.specs.Changes.{IsOnWay, NamesWay}
use Rattle.cove_stage2.specs.Lacked.{absent_among, blocks_touched, tables_lacked, LacksRest}
use Rattle.cove_stage2.proofs.LackedLemmas.{blocks_touched-more, tables_lacked-none, tables_lacked-one}
use Rattle.cove_stage2.proofs.LinkLemmas.{next-some, off-way, raised}

-- an entry that is some is none that is absent
flag-some : (entry : ℕ) → entry ≢ 0 → flag (entry == 0) ≡ 0
flag-some zero some = absurd (some refl)
flag-some (suc entry) some = ap flag (eqb-suc-zero entry)

module _ (pages root : ℕ) (old new : List ℕ) where
  -- the same entries are counted alike
  absent_among-kept : (d n k : ℕ) → ((i : ℕ) → i < k → entry_in pages root new d (n + i) ≡ entry_in pages root old d (n + i)) → absent_among pages root new d n k ≡ absent_among pages root old d n k
  absent_among-kept d n zero kept = refl
  absent_among-kept d n (suc k) kept =
      let first : n + 0 ≡ n = omega arith in
      let same = subst (λ m. entry_in pages root new d m ≡ entry_in pages root old d m) first (kept 0 (omega arith)) in
      let here : flag (entry_in pages root new d n == 0) ≡ flag (entry_in pages root old d n == 0) = ap (λ e. flag (e == 0)) same in
      let rest = absent_among-kept d (n + 1) k (λ i h.
      let next : n + (i + 1) ≡ n + 1 + i = omega arith in
      subst (λ m. entry_in pages root new d m ≡ entry_in pages root old d m) next (kept (i + 1) (omega arith))) in
      omega (arith, here, rest)

  -- what is left to count at a depth once the first of its slots names a table: from the same slot on, or from the next
  absent-rest : (d b e k : ℕ) → entry_in pages root new d b ≢ 0 → ((i : ℕ) → i < k → entry_in pages root new d (b + 1 + i) ≡ entry_in pages root old d (b + 1 + i)) → (e ≡ b) ⊎ (e ≡ b + 1)
      → absent_among pages root new d e (b + suc k - e) + flag (entry_in pages root old d b == 0) ≡ absent_among pages root old d b (suc k)
  absent-rest d b e k some kept (inl same) =
      let count : b + suc k - e ≡ suc k = omega arith in
      let rest = absent_among-kept d (b + 1) k kept in
      let named = flag-some (entry_in pages root new d b) some in
      let is : absent_among pages root new d e (b + suc k - e) ≡ flag (entry_in pages root new d b == 0) + absent_among pages root new d (b + 1) k =
      ap (absent_among pages root new d e) count ∙ ap (λ m. absent_among pages root new d m (suc k)) same in
      omega (arith, rest, named, is)
  absent-rest d b e k some kept (inr next) =
      let count : b + suc k - e ≡ k = omega arith in
      let rest = absent_among-kept d (b + 1) k kept in
      let is : absent_among pages root new d e (b + suc k - e) ≡ absent_among pages root new d (b + 1) k =
      ap (absent_among pages root new d e) count ∙ ap (λ m. absent_among pages root new d m k) next in
      omega (arith, rest, is)

  -- the way to the slot above
  way-up : (d n : ℕ) → n < slots_at (suc d) → NamesWay pages root (suc d) old new n → NamesWay pages root d old new (n / 512)
  way-up d n low way = record {
    way = λ a on. way.way a (inr on);
    kept = λ a slot some. way.kept a (raised d a slot) some;
    others = λ a slot off. way.others a (raised d a slot) (no_way a slot off);
  } where
    no_way : (a : Slot) → IsLinkSlot d a → (IsOnWay d (n / 512) a → ⊥) → IsOnWay (suc d) n a → ⊥
    no_way a slot off (inl same) = let less = subst (IsLinkSlot d) same slot in let deep = less.0 in omega arith
    no_way a slot off (inr on) = off on

  -- slots at the last depth of the way, but for the one on it, stay
  way-beside : (d n m : ℕ) → n < slots_at (suc d) → m < slots_at d → m ≢ n / 512 → NamesWay pages root (suc d) old new n → entry_in pages root new d m ≡ entry_in pages root old d m
  way-beside d n m low slot off way = way.others (At d m) (omega arith, slot) no_way where
    no_way : IsOnWay (suc d) n (At d m) → ⊥
    no_way (inl same) = off (slot-number d d m (n / 512) same)
    no_way (inr on) = off-way d (n / 512) m (omega arith) on

  -- the next number has the same quotient, or the next
  same-or-next : (a b : ℕ) → a ≤ b → b ≤ a + 1 → (b ≡ a) ⊎ (b ≡ a + 1)
  same-or-next a b low high = elim (cases_eq b a) [ inl e ↦ inl e | inr d ↦ inr (omega arith) ]

  -- how many blocks a run touches after its first
  abbrev past : (n k : ℕ) → ℕ
  past n k = (n + k) / 512 - n / 512

  -- what a run lacks from its first slot on, or from the next, once the way to the first is linked
  abbrev RestLacks : (d n k e : ℕ) → Type 0
  RestLacks d n k e = tables_lacked pages root new d e (n + suc k - e) + tables_lacked pages root old d n 1 ≡ tables_lacked pages root old d n (suc k)

  rest-next : (d n k e : ℕ) → NamesWay pages root (suc d) old new n → n + suc k ≤ slots_at (suc d) → n ≤ e → e ≤ n + 1 → RestLacks d (n / 512) (past n k) (e / 512) → RestLacks (suc d) n k e
  rest-next d n k e way fits low high above = go (n + suc k - e) refl
    where
      below : n < slots_at (suc d)
      below = omega arith

      here : absent_among pages root new d (e / 512) (n / 512 + suc (past n k) - e / 512) + flag (entry_in pages root old d (n / 512) == 0) ≡ absent_among pages root old d (n / 512) (suc (past n k))
      here =
          let named = way.way (At d (n / 512)) (inl refl) in
          absent-rest d (n / 512) (e / 512) (past n k) (next-some (entry_in pages root new d (n / 512)) named.0 named.1)
          (λ i h. way-beside d n (n / 512 + 1 + i) below (omega arith) (λ same. omega arith) way)
          (same-or-next (n / 512) (e / 512) (omega arith) (omega arith))

      go : (m : ℕ) → n + suc k - e ≡ m → tables_lacked pages root new (suc d) e m + tables_lacked pages root old (suc d) n 1 ≡ tables_lacked pages root old (suc d) n (suc k)
      go zero none =
          let last : k ≡ 0 = omega arith in
          let less = tables_lacked-none pages root new (suc d) e in
          let same : tables_lacked pages root old (suc d) n 1 ≡ tables_lacked pages root old (suc d) n (suc k) = ap (λ j. tables_lacked pages root old (suc d) n (suc j)) (sym last) in
          omega (arith, less, same)
      go (suc m) some =
          let left : blocks_touched e (suc m) ≡ n / 512 + suc (past n k) - e / 512 = omega arith in
          let one = tables_lacked-one pages root old d n in
          let start : tables_lacked pages root new (suc d) e (suc m) ≡ absent_among pages root new d (e / 512) (n / 512 + suc (past n k) - e / 512) + tables_lacked pages root new d (e / 512) (n / 512 + suc (past n k) - e / 512) =
          ap (λ b. absent_among pages root new d (e / 512) b + tables_lacked pages root new d (e / 512) b) left in
          let end : tables_lacked pages root old (suc d) n (suc k) ≡ absent_among pages root old d (n / 512) (suc (past n k)) + tables_lacked pages root old d (n / 512) (suc (past n k)) =
          ap (λ b. absent_among pages root old d (n / 512) b + tables_lacked pages root old d (n / 512) b) (blocks_touched-more n k) in
          omega (arith, one, start, end, above, here)

  rest-from : (d n k e : ℕ) → NamesWay pages root d old new n → n + suc k ≤ slots_at d → n ≤ e → e ≤ n + 1 → RestLacks d n k e
  rest-from zero n k e way fits low high = refl
  rest-from (suc d) n k e way fits low high =
      rest-next d n k e way fits low high
      (rest-from d (n / 512) (past n k) (e / 512) (way-up d n (omega arith) way) (omega arith) (omega arith) (omega arith))

-- what the rest of a run lacks after its first page was mapped
pub lacks-rest : (pages root leaves : ℕ) (old new : List ℕ) (g : ℕ) → NamesWay pages root leaves old new g → LacksRest pages root leaves old new g
lacks-rest pages root leaves old new g way zero some fits = absurd (omega arith)
lacks-rest pages root leaves old new g way (suc k) some fits =
    let less : g + suc k - (g + 1) ≡ suc k - 1 = omega arith in
    ap (λ m. tables_lacked pages root new leaves (g + 1) m + tables_lacked pages root old leaves g 1) (sym less)
    ∙ rest-from pages root old new leaves g k (g + 1) way fits (omega arith) (omega arith)
