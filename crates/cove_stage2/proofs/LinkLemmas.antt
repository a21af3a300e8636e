use Rattle.std.proofs.Common.{◌≡◌, ◌≢◌, ℕ, zero, suc, ◌-◌, ◌/◌, ◌<◌, ◌≤◌, ◌∙◌, List, [], get_or, set, take, length, refl, sym, ap, subst, arith, inl, inr}
use Rattle.std.proofs.lemmas.List.{get_or-take, length-take-le}
use Rattle.cove_base.proofs.TreeLemmas.{link-slot, slot-cases}
use Rattle.cove_base.proofs.TreeStores.{IsStoreAt, OnlyAt, link-store, tree-link, spare-kept}
use Rattle.cove_base.specs.Tables.{Slot, At, IsSlot, IsLinkSlot, entry_at, slots_at, next_table, StandsAt, IsLink, NoTable, ATable, IsTree, IsSpare, IsPool}
use Rattle.cove_stage2.specs.Changes.{ChangesLeaf, IsOnWay, NamesWay, KeepsLinks}
use Rattle.cove_stage2.specs.Links.{LinksTable, LinksWay}
use Rattle.cove_stage2.specs.MapStores.{next_page, link_stores, pool_after}

-- where a slot names a table, nothing is stored, and no page leaves the pool
pub link_stores-some : (entry place : ℕ) (pool : List ℕ) → entry ≢ 0 → link_stores entry place pool ≡ []
link_stores-some zero place pool some = absurd (some refl)
link_stores-some (suc entry) place pool some = refl

pub pool_after-some : (entry : ℕ) (pool : List ℕ) → entry ≢ 0 → pool_after entry pool ≡ pool
pool_after-some zero pool some = absurd (some refl)
pool_after-some (suc entry) pool some = refl

-- the number over 1024 of an entry that isn't 0 is the table that it names
pub named-table : (pages root entry : ℕ) → IsLink pages root entry → entry ≢ 0 → entry ≡ next_table (entry / 1024)
named-table pages root entry (NoTable e) some = absurd (some e)
named-table pages root entry (ATable page out e) some = omega arith

pub next-some : (entry page : ℕ) → entry ≡ next_table page → entry ≢ 0
next-some entry page e none = omega arith

-- ---- one slot

-- a slot that names a table
pub links-some : (pages root leaves : ℕ) (words : List ℕ) (a : Slot) → IsTree pages root leaves words → IsLinkSlot leaves a → entry_at pages root words a ≢ 0 → LinksTable pages root leaves words words a (entry_at pages root words a / 1024)
links-some pages root leaves words a tree slot some = record {
  tree = tree;
  named = named-table pages root (entry_at pages root words a) (tree.links a slot) some;
  kept = λ _. refl;
  others = λ b h d. refl;
  length = refl;
}

-- a slot where the next page of the pool is linked
module _ (pages root leaves : ℕ) (words : List ℕ) (a : Slot) (place : ℕ) (pool : List ℕ) (tree : IsTree pages root leaves words) (slot : IsLinkSlot leaves a)
    (at : StandsAt pages root words a place) (spare : IsPool pages root words pool) (none : entry_at pages root words a ≡ 0) (some : 0 < length pool) where
  abbrev linked_words : List ℕ
  linked_words = set words place (next_table (next_page pool))

  store : IsStoreAt pages root leaves words a place
  store = record { tree = tree; slot = link-slot leaves a slot; at = at }

  next : IsSpare pages root words (next_page pool)
  next = spare.each (length pool - 1) (omega arith)

  only : OnlyAt pages root words linked_words a (next_table (next_page pool))
  only = link-store pages root leaves words a place (next_page pool) store none next

  pub links-none : LinksTable pages root leaves words linked_words a (next_page pool)
  links-none = record {
    tree = tree-link pages root leaves words linked_words a (next_page pool) tree slot next only;
    named = only.here;
    kept = λ d. absurd (d none);
    others = only.others;
    length = only.length;
  }

  short : length (take (length pool - 1) pool) ≡ length pool - 1
  short = length-take-le (length pool - 1) pool (omega arith)

  other : (k : ℕ) → k < length pool - 1 → next_table (next_page pool) ≢ next_table (get_or pool k 0)
  other k low e =
      let same : get_or pool k 0 ≡ get_or pool (length pool - 1) 0 = omega arith in
      let last : k ≡ length pool - 1 = spare.differ k (length pool - 1) (omega arith) (omega arith) same in
      omega arith

  kept : (k : ℕ) → k < length pool - 1 → IsSpare pages root linked_words (get_or pool k 0)
  kept k low = spare-kept pages root leaves words a place (next_table (next_page pool)) (get_or pool k 0) store only (other k low) (spare.each k (omega arith))

  -- what is left of the pool is a pool
  pub pool-none : IsPool pages root linked_words (take (length pool - 1) pool)
  pool-none = record {
    each = λ k h.
        let low : k < length pool - 1 = omega (arith, short, h) in
        subst (IsSpare pages root linked_words) (sym (get_or-take (length pool - 1) pool k 0 low)) (kept k low);
    differ = λ j k hj hk e.
        let lj : j < length pool - 1 = omega (arith, short, hj) in
        let lk : k < length pool - 1 = omega (arith, short, hk) in
        spare.differ j k (omega arith) (omega arith) (sym (get_or-take (length pool - 1) pool j 0 lj) ∙ e ∙ get_or-take (length pool - 1) pool k 0 lk);
  }

-- a table that another slot names stays
pub link-keeps : (pages root leaves : ℕ) (old new : List ℕ) (a : Slot) (page : ℕ) → LinksTable pages root leaves old new a page → (b : Slot) → IsSlot b → entry_at pages root old b ≢ 0 → entry_at pages root new b ≡ entry_at pages root old b
link-keeps pages root leaves old new a page links b slot some = elim (slot-cases b a) [
  | inl same ↦ ap (entry_at pages root new) same ∙ links.kept (λ none. some (ap (entry_at pages root old) same ∙ none)) ∙ ap (entry_at pages root old) (sym same)
  | inr other ↦ links.others b slot other
]

-- ---- the way to a slot

-- what is above some depth is above the next
pub raised : (d : ℕ) (a : Slot) → IsLinkSlot d a → IsLinkSlot (suc d) a
raised d (At c m) slot = (omega (arith, slot.0), slot.1)

-- a slot on the way is above the one that it leads to
pub on-way-link : (d n : ℕ) (a : Slot) → n < slots_at d → IsOnWay d n a → IsLinkSlot d a
on-way-link zero n a low on = absurd on
on-way-link (suc d) n a low (inl same) =
    let above : n / 512 < slots_at d = omega arith in
    subst (IsLinkSlot (suc d)) (sym same) (omega arith, above)
on-way-link (suc d) n a low (inr on) = raised d a (on-way-link d (n / 512) a (omega arith) on)

-- so is one above the leaves, where the slot that the way leads to is no deeper than they are
pub on-way-above : (leaves d n : ℕ) (a : Slot) → d ≤ leaves → n < slots_at d → IsOnWay d n a → IsLinkSlot leaves a
on-way-above leaves d n (At c m) deep low on = let slot = on-way-link d n (At c m) low on in (omega (arith, slot.0), slot.1)

-- no slot is on the way to one at its own depth
pub off-way : (d n m : ℕ) → n < slots_at d → IsOnWay d n (At d m) → ⊥
off-way d n m low on = let slot = on-way-link d n (At d m) low on in let less = slot.0 in omega arith

-- nothing is on the way to a slot of the root
pub way-none : (pages root : ℕ) (words : List ℕ) (n : ℕ) → LinksWay pages root words words 0 n
way-none pages root words n = record { way = λ a on. absurd on; kept = λ a slot some. refl; others = λ a slot off. refl }

-- one more table on the way
pub way-next : (pages root leaves : ℕ) (old mid new : List ℕ) (d n page : ℕ) → n < slots_at (suc d) → LinksWay pages root old mid d (n / 512) → LinksTable pages root leaves mid new (At d (n / 512)) page
    → LinksWay pages root old new (suc d) n
way-next pages root leaves old mid new d n page low above links = record {
  way = way;
  kept = λ a slot some.
      let before = above.kept a slot some in
      link-keeps pages root leaves mid new (At d (n / 512)) page links a slot (λ none. some (sym before ∙ none)) ∙ before;
  others = λ a slot off. links.others a slot (λ e. off (inl e)) ∙ above.others a slot (λ on. off (inr on));
} where
  way : (a : Slot) → IsOnWay (suc d) n a → (q : ℕ) × (entry_at pages root new a ≡ next_table q)
  way a (inl same) = (page, ap (entry_at pages root new) same ∙ links.named)
  way a (inr on) =
      let named = above.way a on in
      let slot = link-slot d a (on-way-link d (n / 512) a (omega arith) on) in (
        named.0,
        link-keeps pages root leaves mid new (At d (n / 512)) page links a slot (next-some (entry_at pages root mid a) named.0 named.1) ∙ named.1,
      )

-- the slot itself is as it was
pub way-itself : (pages root : ℕ) (old new : List ℕ) (d n : ℕ) → n < slots_at d → LinksWay pages root old new d n → entry_at pages root new (At d n) ≡ entry_at pages root old (At d n)
way-itself pages root old new d n low way = way.others (At d n) low (off-way d n n low)

-- a change that keeps the links keeps the way
pub way-kept : (pages root leaves : ℕ) (old mid new : List ℕ) (g : ℕ) → g < slots_at leaves → LinksWay pages root old mid leaves g → KeepsLinks pages root leaves mid new → NamesWay pages root leaves old new g
way-kept pages root leaves old mid new g low way kept = record {
  way = λ a on. let named = way.way a on in (named.0, kept.links a (on-way-link leaves g a low on) ∙ named.1);
  kept = λ a slot some. kept.links a slot ∙ way.kept a (link-slot leaves a slot) some;
  others = λ a slot off. kept.links a slot ∙ way.others a (link-slot leaves a slot) off;
}

-- and a pool
pub pool-kept : (pages root leaves : ℕ) (old new pool : List ℕ) → IsPool pages root old pool → KeepsLinks pages root leaves old new → IsPool pages root new pool
pool-kept pages root leaves old new pool spare kept = record {
  each = λ k h. kept.spare (get_or pool k 0) (spare.each k h);
  differ = spare.differ;
}

-- a leaf that changes after the way to it was linked changes alone
pub leaf-kept : (pages root leaves : ℕ) (old mid new : List ℕ) (g leaf : ℕ) → g < slots_at leaves → LinksWay pages root old mid leaves g → length mid ≡ length old → ChangesLeaf pages root leaves mid new g leaf
    → ChangesLeaf pages root leaves old new g leaf
leaf-kept pages root leaves old mid new g leaf low way same changes = record {
  tree = changes.tree;
  here = changes.here;
  others = λ h h-low d. changes.others h h-low d ∙ way.others (At leaves h) h-low (off-way leaves g h low);
  length = changes.length ∙ same;
}
