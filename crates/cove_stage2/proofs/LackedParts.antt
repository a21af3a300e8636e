-- The leading parts of a run of guest pages that are in use nowhere yet, and the tables that the run lacks by the words.
use Rattle.std.proofs.Common.{◌≡◌, ◌⊎◌, ◌∙◌, ℕ, zero, suc, ◌+◌, ◌-◌, ◌/◌, ◌<◌, ◌≤◌, ◌==◌, ◌||◌, Bool, true, false, not, cond, eqb, List, ◌∷◌, length, map, inl, inr, refl, sym, ap, subst, arith}
use Rattle.std.proofs.lemmas.Bool.{cases_eq, eq-eqb, ne_eqb, or_left}
use Rattle.std.specs.List.{range_with_len}
use Rattle.cove_base.specs.Executions.{flag}
use Rattle.cove_base.proofs.TreeLemmas.{slot-depth, slot-number}
use Rattle.cove_base.specs.Tables.{At, entry_in, slots_at}
use Rattle.cove_model.specs.GuestPages.{new_ones, new_parts, over_levels, part_of}
use Rattle.cove_model.specs.Owners.{has}
use Rattle.cove_model.specs.Tvms.{Tvm}
use Rattle.cove_stage2.specs.Changes.{IsOnWay}
use Rattle.cove_stage2.specs.Lacked.{absent_among, blocks_touched, tables_lacked}
use Rattle.cove_stage2.proofs.LackedLemmas.{blocks_inside, blocks_touched-more}

-- what is not used has no entry
not_used : (used none : Bool) → used ≡ not none → not used ≡ none
not_used true false e = refl
not_used false true e = refl
not_used true true e = absurd cc
not_used false false e = absurd cc

-- a leading part is not in use
abbrev unused : (used : List ℕ) (p : ℕ) → Bool
unused used p = not (has p used)

-- how many of the k numbers from one on pass a test
abbrev count_among : (test : ℕ → Bool) (n k : ℕ) → ℕ
count_among test n zero = 0
count_among test n (suc k) = flag (test n) + count_among test (n + 1) k

-- the same parts are counted alike
unused_kept : (old new : List ℕ) (b k : ℕ) → ((p : ℕ) → b ≤ p → has p new ≡ has p old) → count_among (unused new) b k ≡ count_among (unused old) b k
unused_kept old new b zero same = refl
unused_kept old new b (suc k) same =
    let here = ap (λ used. flag (not used)) (same b (omega arith)) in
    let rest = unused_kept old new (b + 1) k (λ p low. same p (omega arith)) in
    omega (arith, here, rest)

-- the parts of a run: how many it touches
abbrev touched : (part : ℕ → ℕ) (first n : ℕ) → ℕ
touched part first zero = 0
touched part first (suc more) = part (first + more) + 1 - part first

-- The part of a guest page rises with it, and by one at most from one to the next.
record AreParts (part : ℕ → ℕ) : Type 0 where
  rises : (g h : ℕ) → g ≤ h → part g ≤ part h
  steps : (g : ℕ) → part (g + 1) ≤ part g + 1

module _ (part : ℕ → ℕ) (parts : AreParts part) where
  -- a run counts the part of its first page, and then its rest, where that part is in use
  first_counted : (old new : List ℕ) (first n : ℕ) → has (part first) new ≡ true → ((p : ℕ) → part first + 1 ≤ p → has p new ≡ has p old)
      → flag (not (has (part first) old)) + count_among (unused new) (part (first + 1)) (touched part (first + 1) n) ≡ count_among (unused old) (part first) (touched part first (suc n))
  first_counted old new first zero here same =
      let still : part (first + 0) ≡ part first = ap part (let e : first + 0 ≡ first = omega arith in e) in
      let one : part (first + 0) + 1 - part first ≡ 1 = omega arith in
      sym (ap (count_among (unused old) (part first)) one)
  first_counted old new first (suc m) here same = go (cases_eq (part (first + 1)) (part first))
    where
      still : part (first + suc m) ≡ part (first + 1 + m)
      still = ap part (let e : first + suc m ≡ first + 1 + m = omega arith in e)

      high : part (first + 1) ≤ part (first + 1 + m)
      high = parts.rises (first + 1) (first + 1 + m) (omega arith)

      low : part first ≤ part (first + 1)
      low = parts.rises first (first + 1) (omega arith)

      counted : flag (not (has (part first) new)) ≡ 0
      counted = ap (λ used. flag (not used)) here

      kept : (k : ℕ) → count_among (unused new) (part first + 1) k ≡ count_among (unused old) (part first + 1) k
      kept k = unused_kept old new (part first + 1) k same

      whole : count_among (unused old) (part first) (part (first + suc m) + 1 - part first)
          ≡ flag (not (has (part first) old)) + count_among (unused old) (part first + 1) (part (first + 1 + m) - part first)
      whole =
          let count : part (first + suc m) + 1 - part first ≡ suc (part (first + 1 + m) - part first) = omega (arith, still, high, low) in
          ap (count_among (unused old) (part first)) count

      go : (part (first + 1) ≡ part first) ⊎ (part (first + 1) ≡ part first → ⊥)
          → flag (not (has (part first) old)) + count_among (unused new) (part (first + 1)) (part (first + 1 + m) + 1 - part (first + 1))
          ≡ count_among (unused old) (part first) (part (first + suc m) + 1 - part first)
      go (inl same_part) =
          let count : part (first + 1 + m) + 1 - part (first + 1) ≡ suc (part (first + 1 + m) - part first) = omega (arith, same_part, high) in
          let rest : count_among (unused new) (part (first + 1)) (part (first + 1 + m) + 1 - part (first + 1))
          ≡ flag (not (has (part first) new)) + count_among (unused new) (part first + 1) (part (first + 1 + m) - part first) =
          ap (count_among (unused new) (part (first + 1))) count ∙ ap (λ b. count_among (unused new) b (suc (part (first + 1 + m) - part first))) same_part in
          omega (arith, rest, counted, kept (part (first + 1 + m) - part first), whole)
      go (inr other) =
          let step = parts.steps first in
          let next : part (first + 1) ≡ part first + 1 = omega (arith, low, step, other) in
          let count : part (first + 1 + m) + 1 - part (first + 1) ≡ part (first + 1 + m) - part first = omega (arith, next, high) in
          let rest : count_among (unused new) (part (first + 1)) (part (first + 1 + m) + 1 - part (first + 1)) ≡ count_among (unused new) (part first + 1) (part (first + 1 + m) - part first) =
          ap (count_among (unused new) (part (first + 1))) count ∙ ap (λ b. count_among (unused new) b (part (first + 1 + m) - part first)) next in
          omega (arith, rest, kept (part (first + 1 + m) - part first), whole)

  -- a run has as many new parts as those that it touches and that are not in use
  new_counted : (used : List ℕ) (first n : ℕ) → length (new_ones used (map part (range_with_len first n))) ≡ count_among (unused used) (part first) (touched part first n)
  new_counted used first zero = refl
  new_counted used first (suc n) =
      go (has (part first) used) refl (new_counted used (first + 1) n) (new_counted (part first ∷ used) (first + 1) n)
    where
      go : (b : Bool) → has (part first) used ≡ b
          → length (new_ones used (map part (range_with_len (first + 1) n))) ≡ count_among (unused used) (part (first + 1)) (touched part (first + 1) n)
          → length (new_ones (part first ∷ used) (map part (range_with_len (first + 1) n))) ≡ count_among (unused (part first ∷ used)) (part (first + 1)) (touched part (first + 1) n)
          → length (cond b (new_ones used (map part (range_with_len (first + 1) n))) (part first ∷ new_ones (part first ∷ used) (map part (range_with_len (first + 1) n))))
          ≡ count_among (unused used) (part first) (touched part first (suc n))
      go true is before after =
          let none : flag (not (has (part first) used)) ≡ 0 = ap (λ b. flag (not b)) is in
          let whole = first_counted used used first n is (λ p low. refl) in
          omega (arith, none, whole, before)
      go false is before after =
          let one : flag (not (has (part first) used)) ≡ 1 = ap (λ b. flag (not b)) is in
          let whole = first_counted used (part first ∷ used) first n (or_left (eqb (part first) (part first)) (has (part first) used) (eq-eqb (part first) (part first) refl))
          (λ p low. ap (λ b. b || has p used) (ne_eqb (part first) p (λ e. omega arith))) in
          omega (arith, one, whole, after)

-- ---- the levels

-- the leading parts at a level rise with the guest page, and by one at most
part_rises : (level g h : ℕ) → g ≤ h → part_of level g ≤ part_of level h
part_rises zero g h low = low
part_rises (suc level) g h low = part_rises level (g / 512) (h / 512) (omega arith)

part_steps : (level g : ℕ) → part_of level (g + 1) ≤ part_of level g + 1
part_steps zero g = omega arith
part_steps (suc level) g =
    let most = part_rises level ((g + 1) / 512) (g / 512 + 1) (omega arith) in
    let step = part_steps level (g / 512) in
    omega arith

level_parts : (level : ℕ) → AreParts (part_of level)
level_parts level = record { rises = part_rises level; steps = part_steps level }

-- the parts that a run touches at a level are those that its blocks touch at the level below
touched_below : (level first n : ℕ) → touched (part_of (suc level)) first n ≡ touched (part_of level) (first / 512) (blocks_touched first n)
touched_below level first zero = refl
touched_below level first (suc more) =
    let last : (first + more) / 512 ≡ first / 512 + ((first + more) / 512 - first / 512) = omega arith in
    ap (λ p. part_of level p + 1 - part_of level (first / 512)) last
    ∙ sym (ap (touched (part_of level) (first / 512)) (blocks_touched-more first more))

touched_one : (first n : ℕ) → touched (part_of 1) first n ≡ blocks_touched first n
touched_one first zero = refl
touched_one first (suc more) = refl

-- equal sums over levels, and the first of them apart
levels_same : (counts others : ℕ → ℕ) (levels : ℕ) → ((level : ℕ) → counts level ≡ others level) → over_levels counts levels ≡ over_levels others levels
levels_same counts others zero same = refl
levels_same counts others (suc level) same =
    let rest = levels_same counts others level same in
    omega (arith, rest, same (suc level))

levels_first : (counts : ℕ → ℕ) (levels : ℕ) → over_levels counts (suc levels) ≡ counts 1 + over_levels (λ level. counts (suc level)) levels
levels_first counts zero = omega arith
levels_first counts (suc levels) =
    let rest = levels_first counts levels in
    omega (arith, rest)

-- how many parts of a level that a run touches are not in use
abbrev unused_parts : (prefixes : ℕ → List ℕ) (first n level : ℕ) → ℕ
unused_parts prefixes first n level = count_among (unused (prefixes level)) (part_of level first) (touched (part_of level) first n)

module _ (pages root : ℕ) (words : List ℕ) where
  -- parts that are in use where their slots have an entry are counted like the slots that have none
  absent_told : (used : List ℕ) (d n k : ℕ) → ((i : ℕ) → i < k → has (n + i) used ≡ not (entry_in pages root words d (n + i) == 0)) → absent_among pages root words d n k ≡ count_among (unused used) n k
  absent_told used d n zero tells = refl
  absent_told used d n (suc k) tells =
      let first : n + 0 ≡ n = omega arith in
      let is = subst (λ m. has m used ≡ not (entry_in pages root words d m == 0)) first (tells 0 (omega arith)) in
      let here : flag (unused used n) ≡ flag (entry_in pages root words d n == 0) = ap flag (not_used (has n used) (entry_in pages root words d n == 0) is) in
      let rest = absent_told used d (n + 1) k (λ i h.
      let next : n + (i + 1) ≡ n + 1 + i = omega arith in
      subst (λ m. has m used ≡ not (entry_in pages root words d m == 0)) next (tells (i + 1) (omega arith))) in
      omega (arith, here, rest)

  -- a part is in use where its slot has an entry
  abbrev AreUsed : (prefixes : ℕ → List ℕ) (leaves : ℕ) → Type 0
  AreUsed prefixes leaves = (d n : ℕ) → d < leaves → n < slots_at d → has n (prefixes (leaves - d)) ≡ not (entry_in pages root words d n == 0)

  levels_lacked : (prefixes : ℕ → List ℕ) (leaves first n : ℕ) → first + n ≤ slots_at leaves → AreUsed prefixes leaves → tables_lacked pages root words leaves first n ≡ over_levels (unused_parts prefixes first n) leaves
  levels_lacked prefixes zero first n fits used = refl
  levels_lacked prefixes (suc d) first n fits used =
      let blocks = blocks_touched first n in
      let inside : first / 512 + blocks ≤ slots_at d = blocks_inside d first n fits in
      let above = levels_lacked (λ level. prefixes (suc level)) d (first / 512) blocks inside (λ c m low slot.
      let level : suc d - c ≡ suc (d - c) = omega arith in
      subst (λ l. has m (prefixes l) ≡ not (entry_in pages root words c m == 0)) level (used c m (omega arith) slot)) in
      let one : suc d - d ≡ 1 = omega arith in
      let here = absent_told (prefixes 1) d (first / 512) blocks (λ i low.
      subst (λ l. has (first / 512 + i) (prefixes l) ≡ not (entry_in pages root words d (first / 512 + i) == 0)) one (used d (first / 512 + i) (omega arith) (omega arith))) in
      let least = ap (count_among (unused (prefixes 1)) (first / 512)) (touched_one first n) in
      let more = levels_same (unused_parts (λ level. prefixes (suc level)) (first / 512) blocks) (λ level. unused_parts prefixes first n (suc level)) d
      (λ level. ap (count_among (unused (prefixes (suc level))) (part_of level (first / 512))) (sym (touched_below level first n))) in
      let whole = levels_first (unused_parts prefixes first n) d in
      omega (arith, above, here, least, more, whole)

-- a run lacks as many tables by the words as the model has new parts at all levels
pub lacked_parts : (pages root leaves : ℕ) (words : List ℕ) (tvm : Tvm) (gpa n : ℕ) → gpa / 4096 + n ≤ slots_at leaves
    → ((d m : ℕ) → d < leaves → m < slots_at d → has m (tvm.prefixes (leaves - d)) ≡ not (entry_in pages root words d m == 0))
    → tables_lacked pages root words leaves (gpa / 4096) n ≡ over_levels (λ level. length (new_parts tvm gpa n level)) leaves
lacked_parts pages root leaves words tvm gpa n fits used =
    levels_lacked pages root words tvm.prefixes leaves (gpa / 4096) n fits used
    ∙ levels_same (unused_parts tvm.prefixes (gpa / 4096) n) (λ level. length (new_parts tvm gpa n level)) leaves
    (λ level. sym (new_counted (part_of level) (level_parts level) (tvm.prefixes level) (gpa / 4096) n))

-- ---- slots on the way to a guest page, by its leading parts

pub part-on-way : (leaves d g n : ℕ) → d < leaves → part_of (leaves - d) g ≡ n → IsOnWay leaves g (At d n)
part-on-way zero d g n low is = absurd (omega arith)
part-on-way (suc leaves) d g n low is = elim (cases_eq d leaves) [
  | inl here ↦
      let one : suc leaves - d ≡ 1 = omega arith in
      let number : n ≡ g / 512 = sym is ∙ ap (λ level. part_of level g) one in
      inl (cc)
  | inr above ↦
      let more : suc leaves - d ≡ suc (leaves - d) = omega arith in
      inr (part-on-way leaves d (g / 512) n (omega arith) (sym (ap (λ level. part_of level g) more) ∙ is))
]

pub on-way-part : (leaves d g n : ℕ) → IsOnWay leaves g (At d n) → (d < leaves) × (part_of (leaves - d) g ≡ n)
on-way-part zero d g n on = absurd on
on-way-part (suc leaves) d g n (inl same) =
    let deep = slot-depth d leaves n (g / 512) same in
    let one : suc leaves - d ≡ 1 = omega arith in
    (omega (arith, deep), ap (λ level. part_of level g) one ∙ sym (slot-number d leaves n (g / 512) same))
on-way-part (suc leaves) d g n (inr on) =
    let above = on-way-part leaves d (g / 512) n on in
    let more : suc leaves - d ≡ suc (leaves - d) = omega (arith, above.0) in
    (omega (arith, above.0), ap (λ level. part_of level g) more ∙ above.1)
