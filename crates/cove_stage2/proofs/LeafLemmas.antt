use Rattle.std.proofs.Common.{◌≡◌, ◌≢◌, ℕ, zero, suc, ◌/◌, ◌%◌, ◌^◌, ◌<◌, ◌∙◌, Bool, true, false, List, set, refl, ap, inl, inr, arith}
use Rattle.cove_base.proofs.TableLemmas.{leaf≢table, next-cases}
use Rattle.cove_base.proofs.TreeLemmas.{slot-depth, slot-number}
use Rattle.cove_base.proofs.TreeStores.{IsStoreAt, OnlyAt, leaf-store, tree-leaf, spare-kept}
use Rattle.cove_base.specs.Places.{table_word}
use Rattle.cove_base.specs.TableWords.{blocked}
use Rattle.cove_base.specs.Tables.{Slot, At, IsLinkSlot, entry_at, entry_in, slots_at, next_table, present, StandsAt, IsLeaf, IsLink, NoTable, ATable, IsTree}
use Rattle.cove_stage2.specs.Changes.{ChangesLeaf, IsOnWay, KeepsLinks, unblocked, slot_place}

-- the table that an entry names is on the board
pub named-board : (pages root entry : ℕ) → IsLink pages root entry → entry ≢ 0 → entry / 1024 < pages
named-board pages root entry (NoTable e) some = absurd (some e)
named-board pages root entry (ATable page out e) some = let on = out.0 in omega (arith, on)

-- ---- where slots stand

module _ (pages root : ℕ) (words : List ℕ) where
  -- a slot stands below the table that the slot above it names
  pub named-stands : (d n page : ℕ) → entry_in pages root words d (n / 512) ≡ next_table page → StandsAt pages root words (At (suc d) n) (slot_place pages root words (At (suc d) n))
  named-stands d n page named =
      let is : entry_in pages root words d (n / 512) / 1024 ≡ page = omega (arith, named) in
      (page, named, ap (λ p. table_word pages p (n % 512)) is)

  -- where a slot stands is its place
  pub place-is : (a : Slot) (place : ℕ) → StandsAt pages root words a place → place ≡ slot_place pages root words a
  place-is (At zero n) place at = at
  place-is (At (suc d) n) place (page, named, at) =
      let is : page ≡ entry_in pages root words d (n / 512) / 1024 = omega (arith, named) in
      at ∙ ap (λ p. table_word pages p (n % 512)) is

  -- where an entry isn't 0, its slot stands at its place
  pub some-stands : (a : Slot) → entry_at pages root words a ≢ 0 → StandsAt pages root words a (slot_place pages root words a)
  some-stands (At zero n) some = refl
  some-stands (At (suc d) n) some = elim (next-cases pages (entry_in pages root words d (n / 512))) [
    | inl (page, named) ↦ named-stands d n page named
    | inr none ↦ absurd (some (none words (n % 512)))
  ]

  -- and so does one where the slots above it name tables
  pub way-stands : (d n : ℕ) → ((a : Slot) → IsOnWay d n a → (page : ℕ) × (entry_at pages root words a ≡ next_table page)) → StandsAt pages root words (At d n) (slot_place pages root words (At d n))
  way-stands zero n way = refl
  way-stands (suc d) n way = let above = way (At d (n / 512)) (inl refl) in named-stands d n above.0 above.1

-- ---- leaves

-- what a store of a leaf changes
pub leaf-changes : (pages root leaves : ℕ) (words : List ℕ) (g leaf place : ℕ) → IsTree pages root leaves words → g < slots_at leaves → IsLeaf leaf → StandsAt pages root words (At leaves g) place
    → ChangesLeaf pages root leaves words (set words place leaf) g leaf × KeepsLinks pages root leaves words (set words place leaf)
leaf-changes pages root leaves words g leaf place tree h is at = (
  record {
    tree = tree-leaf pages root leaves words _ g leaf tree only is;
    here = only.here;
    others = λ k low d. only.others (At leaves k) low (λ e. d (slot-number leaves leaves k g e));
    length = only.length;
  },
  record {
    links = links;
    spare = λ page spare. spare-kept pages root leaves words (At leaves g) place leaf page store only (leaf≢table leaf page is) spare;
  },
) where
  store : IsStoreAt pages root leaves words (At leaves g) place
  store = record { tree = tree; slot = h; at = at }

  only : OnlyAt pages root words (set words place leaf) (At leaves g) leaf
  only = leaf-store pages root leaves words place leaf g store is

  links : (a : Slot) → IsLinkSlot leaves a → entry_at pages root (set words place leaf) a ≡ entry_at pages root words a
  links (At d n) low = only.others (At d n) low.1 (λ e. let deep : d ≡ leaves = slot-depth d leaves n g e in omega (arith, low.0))

pub present-some : (leaf page : ℕ) (shared : Bool) → leaf ≡ present page shared → leaf ≢ 0
present-some leaf page false e none = omega arith
present-some leaf page true e none = omega arith

pub blocked-some : (leaf page : ℕ) (shared : Bool) (since : ℕ) → leaf ≡ blocked (present page shared) since → leaf ≢ 0
blocked-some leaf page false since e none = omega arith
blocked-some leaf page true since e none = omega arith

-- a leaf that was blocked is unblocked to what it was
pub unblocked-blocked : (leaf page : ℕ) (shared : Bool) (since : ℕ) → page < 2 ^ 16 → leaf ≡ blocked (present page shared) since → unblocked leaf ≡ present page shared
unblocked-blocked leaf page false since h e = omega arith
unblocked-blocked leaf page true since h e = omega arith
