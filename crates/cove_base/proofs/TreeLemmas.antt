use Rattle.std.proofs.Common.{◌≡◌, ◌≢◌, ℕ, zero, suc, ◌+◌, ◌*◌, ◌/◌, ◌%◌, ◌<◌, ◌≤◌, ◌⊎◌, ◌∙◌, List, get_or, length, sym, ap, subst, arith, inl, inr}
use Rattle.std.proofs.lemmas.Bool.{cases_eq, cases_lt}
use Rattle.cove_base.proofs.TableLemmas.{below-named, below-none, leaf≢table}
use Rattle.cove_base.specs.Places.{table_word}
use Rattle.cove_base.specs.Tables.{next_table, Slot, At, IsLinkSlot, IsSlot, slots_at, entry_at, entry_in, StandsAt, IsLeaf, IsLink, NoTable, ATable, IsOutside, IsTree}

-- one slot has one depth and one number
pub slot-depth : (c d n m : ℕ) → At c n ≡ At d m → c ≡ d
slot-depth c d n m e = cc

pub slot-number : (c d n m : ℕ) → At c n ≡ At d m → n ≡ m
slot-number c d n m e = cc

-- two slots are one, or two
pub slot-cases : (a b : Slot) → (a ≡ b) ⊎ (a ≢ b)
slot-cases (At c n) (At d m) = elim (cases_eq c d) [
  | inr off ↦ inr (λ e. off (slot-depth c d n m e))
  | inl deep ↦ elim (cases_eq n m) [ inl here ↦ inl (cc) | inr off ↦ inr (λ e. off (slot-number c d n m e)) ]
]

-- a link slot is a slot
pub link-slot : (leaves : ℕ) (a : Slot) → IsLinkSlot leaves a → IsSlot a
link-slot leaves (At d n) h = h.1

-- the entry of a slot is the word where it stands
pub entry-stands : (pages root : ℕ) (words : List ℕ) (a : Slot) (place : ℕ) → StandsAt pages root words a place → entry_at pages root words a ≡ get_or words place 0
entry-stands pages root words (At zero n) place at = ap (λ p. get_or words p 0) (sym at)
entry-stands pages root words (At (suc d) n) place (page, named, at) =
    below-named pages words (entry_in pages root words d (n / 512)) page (n % 512) named ∙ ap (λ p. get_or words p 0) (sym at)

-- where the tables that slots name are none of the root's pages, and no two slots name one
module _ (pages root : ℕ) (words : List ℕ) (outside : (a : Slot) (page : ℕ) → IsSlot a → entry_at pages root words a ≡ next_table page → (page < root) ⊎ (root + 4 ≤ page))
    (apart : (a b : Slot) (page : ℕ) → IsSlot a → IsSlot b → entry_at pages root words a ≡ next_table page → entry_at pages root words b ≡ next_table page → a ≡ b) where
  -- two words of tables that two slots name are one word of one table
  same-table : (a b : Slot) (p q i j place : ℕ) → IsSlot a → IsSlot b → entry_at pages root words a ≡ next_table p → entry_at pages root words b ≡ next_table q → i < 512 → j < 512 → place ≡ table_word pages p i → place ≡ table_word pages q j → (a ≡ b) × (i ≡ j)
  same-table a b p q i j place sa sb na nb hi hj ap bp =
      let same : q ≡ p = omega arith in
      (apart a b p sa sb na (subst (λ k. entry_at pages root words b ≡ next_table k) same nb), omega arith)

  -- a word of the root is none of a table that a slot names
  root-apart : (b : Slot) (n q j place : ℕ) → IsSlot b → n < 2048 → j < 512 → entry_at pages root words b ≡ next_table q → place ≡ table_word pages root n → place ≡ table_word pages q j → ⊥
  root-apart b n q j place sb hn hj nb at bt = from (outside b q sb nb) where
    from : (q < root) ⊎ (root + 4 ≤ q) → ⊥
    from (inl h) = omega arith
    from (inr h) = omega arith

  -- slots at one place are one
  pub places-apart : (a b : Slot) (place : ℕ) → IsSlot a → IsSlot b → StandsAt pages root words a place → StandsAt pages root words b place → a ≡ b
  places-apart (At zero n) (At zero m) place sa sb at bt = ap (At zero) (omega arith)
  places-apart (At zero n) (At (suc d) m) place sa sb at (q, named, bt) =
      absurd (root-apart (At d (m / 512)) n q (m % 512) place (omega arith) sa (omega arith) named at bt)
  places-apart (At (suc c) m) (At zero n) place sa sb (q, named, at) bt =
      absurd (root-apart (At c (m / 512)) n q (m % 512) place (omega arith) sb (omega arith) named bt at)
  places-apart (At (suc c) n) (At (suc d) m) place sa sb (p, na, at) (q, nb, bt) =
      let same = same-table (At c (n / 512)) (At d (m / 512)) p q (n % 512) (m % 512) place (omega arith) (omega arith) na nb (omega arith) (omega arith) at bt in
      let deep : c ≡ d = slot-depth c d (n / 512) (m / 512) same.0 in
      let above : n / 512 ≡ m / 512 = slot-number c d (n / 512) (m / 512) same.0 in
      let here : n % 512 ≡ m % 512 = same.1 in
      let number : n ≡ m = omega arith in
      cc

module _ (pages root leaves : ℕ) (words : List ℕ) (tree : IsTree pages root leaves words) where
  -- at the depth of the leaves stand leaves
  pub leaf-in : (d n : ℕ) → leaves ≡ d → n < slots_at d → IsLeaf (entry_in pages root words d n)
  leaf-in d n same = subst (λ k. n < slots_at k → IsLeaf (entry_in pages root words k n)) same (tree.leaf n)

  -- a slot at the leaves or below them names no table
  unnamed-from : (d n page : ℕ) → leaves ≤ d → n < slots_at d → entry_in pages root words d n ≢ next_table page
  unnamed-from zero n page low slot = leaf≢table (entry_in pages root words zero n) page (leaf-in zero n (omega arith) slot)
  unnamed-from (suc d) n page low slot = elim (cases_lt d leaves) [
    | inl here ↦ leaf≢table (entry_in pages root words (suc d) n) page (leaf-in (suc d) n (omega arith) slot)
    | inr deep ↦ λ e.
        let none : entry_in pages root words (suc d) n ≡ 0 = below-none pages (entry_in pages root words d (n / 512)) (λ p. unnamed-from d (n / 512) p deep (omega arith)) words (n % 512) in
        let is : 0 ≡ 1024 * page + 1 = sym none ∙ e in
        omega arith
  ]

  -- a slot that names a table is above the leaves
  pub named-above : (a : Slot) (page : ℕ) → IsSlot a → entry_at pages root words a ≡ next_table page → IsLinkSlot leaves a
  named-above (At d n) page slot named = elim (cases_lt d leaves) [
    | inl above ↦ (above, slot)
    | inr deep ↦ absurd (unnamed-from d n page deep slot named)
  ]

  -- a table that a slot names is outside of the root
  pub named-outside : (a : Slot) (page : ℕ) → IsSlot a → entry_at pages root words a ≡ next_table page → IsOutside pages root page
  named-outside a page slot named = from (entry_at pages root words a) (tree.links a (named-above a page slot named)) named where
    from : (entry : ℕ) → IsLink pages root entry → entry ≡ next_table page → IsOutside pages root page
    from entry (NoTable e) n = absurd (let is : 0 ≡ 1024 * page + 1 = sym e ∙ n in omega arith)
    from entry (ATable q out e) n = subst (IsOutside pages root) (let is : 1024 * q + 1 ≡ 1024 * page + 1 = sym e ∙ n in omega arith) out

  -- different slots stand at different places
  pub stand-apart : (a b : Slot) (place : ℕ) → IsSlot a → IsSlot b → StandsAt pages root words a place → StandsAt pages root words b place → a ≡ b
  stand-apart = places-apart pages root words (λ a page slot named. (named-outside a page slot named).1) tree.apart

  -- a slot stands at one of the words
  pub stands-within : (a : Slot) (place : ℕ) → IsSlot a → StandsAt pages root words a place → place < length words
  stands-within (At zero n) place slot at = let fits = tree.fits in let size = tree.size in omega arith
  stands-within (At (suc d) n) place slot (page, named, at) =
      let out = (named-outside (At d (n / 512)) page (omega arith) named).0 in
      let size = tree.size in
      omega (arith, out)
