use Rattle.std.proofs.Common.{◌≡◌, ◌≢◌, ℕ, zero, suc, ◌+◌, ◌*◌, ◌/◌, ◌%◌, ◌<◌, ◌≤◌, ◌⊎◌, ◌∙◌, List, get_or, set, length, refl, sym, ap, subst, arith, inl, inr, length-set, get_or-set_other, get_or-set_same}
use Rattle.cove_base.proofs.SlotStores.{entry-moves, under-empty}
use Rattle.cove_base.proofs.TableLemmas.{below-named, leaf≢table}
use Rattle.cove_base.proofs.TreeLemmas.{entry-stands, link-slot, slot-cases, slot-depth, stand-apart, stands-within}
use Rattle.cove_base.specs.Places.{table_word}
use Rattle.cove_base.specs.Tables.{next_table, below, Slot, At, IsLinkSlot, IsSlot, entry_at, entry_in, leaf_at, StandsAt, IsLeaf, IsLink, ATable, IsTree, IsSpare}

-- a store to the place of a slot of a tree
pub record IsStoreAt (pages root leaves : ℕ) (words : List ℕ) (a : Slot) (place : ℕ) : Type 0 where
  pub tree : IsTree pages root leaves words
  pub slot : IsSlot a
  pub at : StandsAt pages root words a place

-- the entry of one slot becomes a word, and every other entry stays
pub record OnlyAt (pages root : ℕ) (old new : List ℕ) (a : Slot) (word : ℕ) : Type 0 where
  pub here : entry_at pages root new a ≡ word
  pub others : (b : Slot) → IsSlot b → b ≢ a → entry_at pages root new b ≡ entry_at pages root old b
  pub length : length new ≡ length old

-- a slot of a tree stands at no word of a spare page
pub spare-apart : (pages root : ℕ) (words : List ℕ) (page i place : ℕ) → IsSpare pages root words page → i < 512 → (a : Slot) → IsSlot a → StandsAt pages root words a place → table_word pages page i ≢ place
spare-apart pages root words page i place spare h (At zero n) slot at e = from spare.outside.1 where
  from : (page < root) ⊎ (root + 4 ≤ page) → ⊥
  from (inl under) = omega arith
  from (inr over) = omega arith
spare-apart pages root words page i place spare h (At (suc d) n) slot (q, named, at) e =
    let same : q ≡ page = omega arith in
    spare.unnamed (At d (n / 512)) (omega arith) (subst (λ k. entry_in pages root words d (n / 512) ≡ next_table k) same named)

module _ (pages root leaves : ℕ) (words : List ℕ) (place word : ℕ) where
  -- the entry at the place becomes the word, where every other entry stays
  entry-set : (a : Slot) → IsStoreAt pages root leaves words a place → ((b : Slot) → IsSlot b → b ≢ a → entry_at pages root (set words place word) b ≡ entry_at pages root words b) → entry_at pages root (set words place word) a ≡ word
  entry-set (At zero n) s others =
      ap (λ p. get_or (set words place word) p 0) (sym s.at) ∙ get_or-set_same words place word 0 (stands-within pages root leaves words s.tree (At zero n) place s.slot s.at)
  entry-set (At (suc d) n) s others =
      let above = others (At d (n / 512)) (omega (arith, s.slot)) (λ e. let deep : d ≡ suc d = slot-depth d (suc d) (n / 512) n e in omega arith) in
      below-named pages (set words place word) (entry_in pages root (set words place word) d (n / 512)) s.at.0 (n % 512) (above ∙ s.at.1)
      ∙ ap (λ p. get_or (set words place word) p 0) (sym s.at.2) ∙ get_or-set_same words place word 0 (stands-within pages root leaves words s.tree (At (suc d) n) place s.slot s.at)

  -- the store of a word that has below it what the one before had changes the one entry
  pub slot-store : (a : Slot) → IsStoreAt pages root leaves words a place → ((i : ℕ) → i < 512 → below pages (set words place word) word i ≡ below pages words (get_or words place 0) i) → OnlyAt pages root words (set words place word) a word
  slot-store a s under = record {
    here = entry-set a s others;
    others = others;
    length = length-set words place word;
  } where
    others : (b : Slot) → IsSlot b → b ≢ a → entry_at pages root (set words place word) b ≡ entry_at pages root words b
    others b h d = elim (entry-moves pages root words place word (stands-within pages root leaves words s.tree a place s.slot s.at) under b h) [
      | inl same ↦ same
      | inr moved ↦ absurd (d (stand-apart pages root leaves words s.tree b a place h s.slot moved.0 s.at))
    ]

  -- the store of a leaf changes the one leaf
  pub leaf-store : (g : ℕ) → IsStoreAt pages root leaves words (At leaves g) place → IsLeaf word → OnlyAt pages root words (set words place word) (At leaves g) word
  leaf-store g s leaf =
      slot-store (At leaves g) s
      (under-empty pages root words place word
      (λ page e. leaf≢table (leaf_at pages root leaves words g) page (s.tree.leaf g s.slot) (entry-stands pages root words (At leaves g) place s.at ∙ e))
      (λ page i e low. absurd (leaf≢table word page leaf e)))

-- the store that links a spare page at a slot without a table changes the one entry
pub link-store : (pages root leaves : ℕ) (words : List ℕ) (a : Slot) (place page : ℕ) → IsStoreAt pages root leaves words a place → entry_at pages root words a ≡ 0 → IsSpare pages root words page → OnlyAt pages root words (set words place (next_table page)) a (next_table page)
link-store pages root leaves words a place page s none spare =
    slot-store pages root leaves words place (next_table page) a s
    (under-empty pages root words place (next_table page)
    (λ q e. let is : 0 ≡ 1024 * q + 1 = sym none ∙ entry-stands pages root words a place s.at ∙ e in omega arith)
    (λ q i e low.
    let same : q ≡ page = omega arith in
    subst (λ p. (get_or words (table_word pages p i) 0 ≡ 0) × (place ≢ table_word pages p i)) (sym same)
    (spare.zeros i low, λ at. spare-apart pages root words page i place spare low a s.slot s.at (sym at))))

module _ (pages root leaves : ℕ) (old new : List ℕ) (a : Slot) (word : ℕ) (tree : IsTree pages root leaves old) (only : OnlyAt pages root old new a word) where
  -- where the word names no page that another slot names, no two slots name one
  slots-apart : ((b : Slot) (page : ℕ) → IsSlot b → word ≡ next_table page → entry_at pages root old b ≢ next_table page) → (b c : Slot) (page : ℕ) → IsSlot b → IsSlot c → entry_at pages root new b ≡ next_table page → entry_at pages root new c ≡ next_table page → b ≡ c
  slots-apart fresh b c q hb hc nb nc = elim (slot-cases b a) [
    | inl b-is ↦ elim (slot-cases c a) [
      | inl c-is ↦ b-is ∙ sym c-is
      | inr c-not ↦ absurd (fresh c q hc (sym only.here ∙ ap (entry_at pages root new) (sym b-is) ∙ nb) (sym (only.others c hc c-not) ∙ nc))
    ]
    | inr b-not ↦ elim (slot-cases c a) [
      | inl c-is ↦ absurd (fresh b q hb (sym only.here ∙ ap (entry_at pages root new) (sym c-is) ∙ nc) (sym (only.others b hb b-not) ∙ nb))
      | inr c-not ↦ tree.apart b c q hb hc (sym (only.others b hb b-not) ∙ nb) (sym (only.others c hc c-not) ∙ nc)
    ]
  ]

  -- the entry of a slot is what it was, or the word
  holds : (P : ℕ → Type 0) (b : Slot) → IsSlot b → (b ≡ a → P word) → (b ≢ a → P (entry_at pages root old b)) → P (entry_at pages root new b)
  holds P b h here there = elim (slot-cases b a) [
    | inl is ↦ subst P (sym only.here ∙ ap (entry_at pages root new) (sym is)) (here is)
    | inr off ↦ subst P (sym (only.others b h off)) (there off)
  ]

-- a leaf may change in a tree
pub tree-leaf : (pages root leaves : ℕ) (old new : List ℕ) (g word : ℕ) → IsTree pages root leaves old → OnlyAt pages root old new (At leaves g) word → IsLeaf word → IsTree pages root leaves new
tree-leaf pages root leaves old new g word tree only leaf = record {
  fits = tree.fits;
  size = subst (λ n. 513 * pages ≤ n) (sym only.length) tree.size;
  links = links;
  leaf = λ k h. holds pages root leaves old new (At leaves g) word tree only IsLeaf (At leaves k) h (λ _. leaf) (λ _. tree.leaf k h);
  apart = slots-apart pages root leaves old new (At leaves g) word tree only (λ b page h e. absurd (leaf≢table word page leaf e));
} where
  links : (b : Slot) → IsLinkSlot leaves b → IsLink pages root (entry_at pages root new b)
  links (At d n) h =
      subst (IsLink pages root)
      (sym (only.others (At d n) h.1 (λ e. let deep : d ≡ leaves = slot-depth d leaves n g e in omega (arith, h.0)))) (tree.links (At d n) h)

-- a spare page may be linked into a tree
pub tree-link : (pages root leaves : ℕ) (old new : List ℕ) (a : Slot) (page : ℕ) → IsTree pages root leaves old → IsLinkSlot leaves a → IsSpare pages root old page → OnlyAt pages root old new a (next_table page) → IsTree pages root leaves new
tree-link pages root leaves old new (At d n) page tree slot spare only = record {
  fits = tree.fits;
  size = subst (λ n. 513 * pages ≤ n) (sym only.length) tree.size;
  links = λ b h. holds pages root leaves old new (At d n) (next_table page) tree only (IsLink pages root) b (link-slot leaves b h) (λ _. ATable page spare.outside refl) (λ _. tree.links b h);
  leaf = λ g h. subst IsLeaf (sym (only.others (At leaves g) h (λ e. let deep : leaves ≡ d = slot-depth leaves d g n e in omega (arith, slot.0)))) (tree.leaf g h);
  apart = slots-apart pages root leaves old new (At d n) (next_table page) tree only fresh;
} where
  fresh : (b : Slot) (q : ℕ) → IsSlot b → next_table page ≡ next_table q → entry_at pages root old b ≢ next_table q
  fresh b q h e named = let same : q ≡ page = omega arith in spare.unnamed b h (subst (λ k. entry_at pages root old b ≡ next_table k) same named)

-- a page stays spare where a store doesn't name it
pub spare-kept : (pages root leaves : ℕ) (words : List ℕ) (a : Slot) (place word page : ℕ) → IsStoreAt pages root leaves words a place → OnlyAt pages root words (set words place word) a word → word ≢ next_table page → IsSpare pages root words page → IsSpare pages root (set words place word) page
spare-kept pages root leaves words a place word page s only other spare = record {
  outside = spare.outside;
  unnamed = λ b h. holds pages root leaves words (set words place word) a word s.tree only (λ k. k ≢ next_table page) b h (λ _. other) (λ _. spare.unnamed b h);
  zeros = λ i h. get_or-set_other words place (table_word pages page i) word 0 (spare-apart pages root words page i place spare h a s.slot s.at) ∙ spare.zeros i h;
}
