-- What the examples of runs of guest pages show.
use Rattle.std.proofs.Common.{◌≡◌, ◌≢◌, ℕ, zero, suc, ◌+◌, ◌-◌, ◌<◌, ◌≤◌, ◌==◌, not, Bool, true, false, List, [], ◌∷◌, get_or, length, set, replicate, refl, sym, ap, subst, ◌∙◌, inl, inr, true≢false, arith, ◌/◌}
use Rattle.std.proofs.lemmas.List.{get_or-append_right}
use Rattle.cove_base.proofs.TreeLemmas.{link-slot, slot-depth, slot-number}
use Rattle.cove_base.proofs.TreeStores.{IsStoreAt, OnlyAt, leaf-store, link-store, spare-kept, tree-leaf, tree-link}
use Rattle.cove_model.specs.Machine.{given, host, all_words, table_word, stored, Root, Table, Data, IsBehindLeaf, new_tvm}
use Rattle.cove_base.specs.TableWords.{private_leaf}
use Rattle.cove_base.specs.Tables.{Slot, At, IsPresent, IsLinkSlot, IsPool, IsSlot, IsSpare, IsTree, below, entry_at, leaf_at, next_table, present}
use Rattle.cove_model.proofs.Lists.{replicate_zero}
use Rattle.cove_stage2.proofs.RestLemmas.{lacks-rest}
use Rattle.cove_stage2.proofs.ZeroLemmas.{empty-entries, empty-tree}
use Rattle.cove_stage2.specs.Changes.{ChangesLeaf, IsOnWay, NamesWay}
use Rattle.cove_stage2.specs.Lacked.{tables_lacked}
use Rattle.cove_stage2.specs.LawfulTables.{AreGiven}
use Rattle.cove_stage2.specs.MapStores.{map_stores, pool_left}
use Rattle.cove_tvm.proofs.MappedRuns.{run_begins, run_goes_on}
use Rattle.cove_lives.specs.Examples.{own_five}
use Rattle.cove_tvm.specs.MappedRuns.{AreMapped, MapsNext, MayMap}
use Rattle.cove_lives.specs.RunExamples.{mappable, nine_linked, nine_mapped}
use Rattle.cove_tvm.specs.TvmStands.{AreMappings, AreTables, uses_slot}

-- ---- tables without an entry

abbrev first_words : List ℕ
first_words = given 1 Table ∷ given 1 Table ∷ given 1 Data ∷ host 1 ∷ given 1 Root ∷ given 1 Root ∷ given 1 Root ∷ given 1 Root ∷ []

past_pages : (place : ℕ) → 8 ≤ place → get_or mappable place 0 ≡ 0
past_pages place past = get_or-append_right first_words (replicate (all_words 8 1 - 8) 0) 8 place 0 refl past ∙ replicate_zero (all_words 8 1 - 8) (place - 8)

long : length mappable ≡ 4173
long = refl

no_root : (n : ℕ) → n < 2048 → get_or mappable (table_word 8 4 n) 0 ≡ 0
no_root n low = past_pages (table_word 8 4 n) (omega arith)

no_entry : (a : Slot) → IsSlot a → entry_at 8 4 mappable a ≡ 0
no_entry a slot = empty-entries 8 4 mappable no_root a slot

no_link : (a : Slot) (page : ℕ) → IsSlot a → entry_at 8 4 mappable a ≡ next_table page → ⊥
no_link a page slot named = let e = sym (no_entry a slot) ∙ named in omega arith

root_empty : IsTree 8 4 2 mappable
root_empty = empty-tree 8 4 2 mappable (omega arith) (omega (arith, long)) no_root

spare_page : (page : ℕ) → page < 4 → IsSpare 8 4 mappable page
spare_page page low = record {
  outside = (omega arith, inl low);
  unnamed = λ a slot named. no_link a page slot named;
  zeros = λ i small. past_pages (table_word 8 page i) (omega arith);
}

abbrev two_pages : List ℕ
two_pages = 0 ∷ 1 ∷ []

spare_pool : IsPool 8 4 mappable two_pages
spare_pool = record { each = each; differ = differ }
  where
    each : (k : ℕ) → k < 2 → IsSpare 8 4 mappable (get_or two_pages k 0)
    each zero low = spare_page 0 (omega arith)
    each (suc zero) low = spare_page 1 (omega arith)
    each (suc (suc k)) low = absurd (omega arith)

    differ : (j k : ℕ) → j < 2 → k < 2 → get_or two_pages j 0 ≡ get_or two_pages k 0 → j ≡ k
    differ zero zero lj lk e = refl
    differ zero (suc zero) lj lk e = absurd (omega arith)
    differ (suc zero) zero lj lk e = absurd (omega arith)
    differ (suc zero) (suc zero) lj lk e = refl
    differ (suc (suc j)) k lj lk e = absurd (omega arith)
    differ j (suc (suc k)) lj lk e = absurd (omega arith)

given_tables : AreGiven 8 mappable 1 4 (0 ∷ 1 ∷ [])
given_tables = record {
  root_is = record { fits = omega arith; roots = roots; least = least };
  linked = λ a page slot named. absurd (no_link a page slot named);
  spare = spare;
}
  where
    roots : (i : ℕ) → i < 4 → get_or mappable (4 + i) 0 ≡ given 1 Root
    roots zero low = refl
    roots (suc zero) low = refl
    roots (suc (suc zero)) low = refl
    roots (suc (suc (suc zero))) low = refl
    roots (suc (suc (suc (suc i)))) low = absurd (omega arith)

    least : (p : ℕ) → p < 4 → get_or mappable p 0 ≢ given 1 Root
    least zero low e = absurd (omega arith)
    least (suc zero) low e = absurd (omega arith)
    least (suc (suc zero)) low e = absurd (omega arith)
    least (suc (suc (suc zero))) low e = absurd (omega arith)
    least (suc (suc (suc (suc p)))) low e = absurd (omega arith)

    spare : (k : ℕ) → k < 2 → get_or mappable (get_or two_pages k 0) 0 ≡ given 1 Table
    spare zero low = refl
    spare (suc zero) low = refl
    spare (suc (suc k)) low = absurd (omega arith)

pub tables : AreTables 8 1 mappable 1 4 2 (0 ∷ 1 ∷ [])
tables = record { tree = root_empty; spare = spare_pool; given = given_tables }

-- ---- what a run needs

lacked : tables_lacked 8 4 mappable 2 9 1 ≡ 2
unfolding below
lacked = refl

may_map : (p : ℕ) (shared : Bool) → p < 8 → IsBehindLeaf mappable 1 p shared → MayMap 8 1 mappable 1 4 2 (0 ∷ 1 ∷ []) 9 p 1 shared
may_map p shared low behind = record {
  size = refl;
  few = omega arith;
  tables = tables;
  guests = omega arith;
  inside = omega arith;
  absent = λ j small. no_entry (At 2 (9 + j)) (omega arith);
  behind = λ j small. let same : p ≡ p + j = omega arith in subst (λ k. IsBehindLeaf mappable 1 k shared) same behind;
  enough = omega (arith, lacked);
}

pub own : MayMap 8 1 mappable 1 4 2 (0 ∷ 1 ∷ []) 9 2 1 false
own = may_map 2 false (omega arith) refl

pub shared : MayMap 8 1 mappable 1 4 2 (0 ∷ 1 ∷ []) 9 3 1 true
shared = may_map 3 true (omega arith) (1, omega arith, refl)

pub host_page_as_own : MayMap 8 1 mappable 1 4 2 (0 ∷ 1 ∷ []) 9 3 1 false → ⊥
host_page_as_own may = let is : host 1 ≡ given 1 Data = may.behind 0 (omega arith) in omega arith

pub own_page_as_shared : MayMap 8 1 mappable 1 4 2 (0 ∷ 1 ∷ []) 9 2 1 true → ⊥
own_page_as_shared may =
    let behind = may.behind 0 (omega arith) in
    let is : given 1 Data ≡ host behind.0 = behind.2 in
    omega arith

lacked_more : tables_lacked 8 4 mappable 3 9 1 ≡ 3
unfolding below
lacked_more = refl

pub one_level_more : MayMap 8 1 mappable 1 4 3 (0 ∷ 1 ∷ []) 9 2 1 false → ⊥
one_level_more may = let few : tables_lacked 8 4 mappable 3 9 1 ≤ 2 = may.enough in omega (arith, few, lacked_more)

pub no_tables : MayMap 8 1 mappable 1 4 2 [] 9 2 1 false → ⊥
no_tables may = let few : tables_lacked 8 4 mappable 2 9 1 ≤ 0 = may.enough in omega (arith, few, lacked)

-- slots at two depths differ
apart : (c d n m : ℕ) → c ≢ d → At c n ≢ At d m
apart c d n m off e = off (slot-depth c d n m e)

-- ---- a mapping

abbrev root_linked : List ℕ
root_linked = set mappable 2056 (next_table 1)

root_at : IsStoreAt 8 4 2 mappable (At 0 0) 2056
root_at = record { tree = root_empty; slot = omega arith; at = refl }

root_only : OnlyAt 8 4 mappable root_linked (At 0 0) (next_table 1)
root_only = link-store 8 4 2 mappable (At 0 0) 2056 1 root_at (no_entry (At 0 0) (omega arith)) (spare_page 1 (omega arith))

root_tree : IsTree 8 4 2 root_linked
root_tree = tree-link 8 4 2 mappable root_linked (At 0 0) 1 root_empty (omega arith, omega arith) (spare_page 1 (omega arith)) root_only

spare_yet : IsSpare 8 4 root_linked 0
spare_yet = spare-kept 8 4 2 mappable (At 0 0) 2056 (next_table 1) 0 root_at root_only (λ e. omega arith) (spare_page 0 (omega arith))

middle_at : IsStoreAt 8 4 2 root_linked (At 1 0) 520
middle_at = record { tree = root_tree; slot = omega arith; at = (1, root_only.here, refl) }

middle_only : OnlyAt 8 4 root_linked nine_linked (At 1 0) (next_table 0)
middle_only =
    link-store 8 4 2 root_linked (At 1 0) 520 0 middle_at
    (root_only.others (At 1 0) (omega arith) (apart 1 0 0 0 (λ deep. omega arith)) ∙ no_entry (At 1 0) (omega arith)) spare_yet

middle_tree : IsTree 8 4 2 nine_linked
middle_tree = tree-link 8 4 2 root_linked nine_linked (At 1 0) 0 root_tree (omega arith, omega arith) spare_yet middle_only

leaf_store : IsStoreAt 8 4 2 nine_linked (At 2 9) 17
leaf_store = record { tree = middle_tree; slot = omega arith; at = (0, middle_only.here, refl) }

leaf_only : OnlyAt 8 4 nine_linked nine_mapped (At 2 9) (private_leaf 2)
leaf_only = leaf-store 8 4 2 nine_linked 17 (private_leaf 2) 9 leaf_store (IsPresent 2 false (omega arith) refl)

root_there : entry_at 8 4 nine_mapped (At 0 0) ≡ next_table 1
root_there =
    leaf_only.others (At 0 0) (omega arith) (apart 0 2 0 9 (λ deep. omega arith))
    ∙ middle_only.others (At 0 0) (omega arith) (apart 0 1 0 0 (λ deep. omega arith)) ∙ root_only.here

middle_there : entry_at 8 4 nine_mapped (At 1 0) ≡ next_table 0
middle_there = leaf_only.others (At 1 0) (omega arith) (apart 1 2 0 9 (λ deep. omega arith)) ∙ middle_only.here

changes : ChangesLeaf 8 4 2 mappable nine_mapped 9 (private_leaf 2)
changes = record {
  tree = tree-leaf 8 4 2 nine_linked nine_mapped 9 (private_leaf 2) middle_tree leaf_only (IsPresent 2 false (omega arith) refl);
  here = leaf_only.here;
  others = λ h low off.
      leaf_only.others (At 2 h) low (λ e. off (slot-number 2 2 h 9 e))
      ∙ middle_only.others (At 2 h) low (apart 2 1 h 0 (λ deep. omega arith))
      ∙ root_only.others (At 2 h) low (apart 2 0 h 0 (λ deep. omega arith));
  length = leaf_only.length ∙ middle_only.length ∙ root_only.length;
}

slot_last : (a : Slot) → IsLinkSlot 2 a → a ≢ At 2 9
slot_last (At d n) slot = apart d 2 n 9 (λ deep. omega (arith, slot.0, deep))

on_way : (a : Slot) → IsOnWay 2 9 a → (page : ℕ) × (entry_at 8 4 nine_mapped a ≡ next_table page)
on_way a (inl is) = (0, ap (entry_at 8 4 nine_mapped) is ∙ middle_there)
on_way a (inr (inl is)) = (1, ap (entry_at 8 4 nine_mapped) is ∙ root_there)
on_way a (inr (inr none)) = absurd none

way : NamesWay 8 4 2 mappable nine_mapped 9
way = record {
  way = on_way;
  kept = λ a slot some. absurd (some (no_entry a (link-slot 2 a slot)));
  others = λ a slot off.
      leaf_only.others a (link-slot 2 a slot) (slot_last a slot)
      ∙ middle_only.others a (link-slot 2 a slot) (λ e. off (inl e)) ∙ root_only.others a (link-slot 2 a slot) (λ e. off (inr (inl e)));
}

stores : nine_mapped ≡ stored mappable (map_stores 8 4 2 mappable (0 ∷ 1 ∷ []) 9 (private_leaf 2))
unfolding below
stores = refl

left : [] ≡ pool_left 8 4 mappable (0 ∷ 1 ∷ []) 2 9
unfolding below
left = refl

pub maps : MapsNext 8 4 2 9 2 0 false mappable (0 ∷ 1 ∷ []) nine_mapped []
maps = record {
  stores = stores;
  leaf = changes;
  way = way;
  pool_is = left;
  lost = omega (arith, lacked);
  spare = record { each = λ k low. absurd (omega arith); differ = λ j k low high e. absurd (omega arith) };
  rest = lacks-rest 8 4 2 mappable nine_mapped 9 way;
}

pub none_yet : AreMapped 8 1 1 4 2 9 2 1 0 false mappable (0 ∷ 1 ∷ []) mappable (0 ∷ 1 ∷ [])
none_yet = run_begins 8 1 1 4 2 9 2 1 false mappable (0 ∷ 1 ∷ []) own

pub one : AreMapped 8 1 1 4 2 9 2 1 1 false mappable (0 ∷ 1 ∷ []) nine_mapped []
one = run_goes_on 8 1 1 4 2 9 2 1 0 false mappable (0 ∷ 1 ∷ []) mappable (0 ∷ 1 ∷ []) nine_mapped [] (omega arith) own none_yet maps

pub mapped_before : MayMap 8 1 nine_mapped 1 4 2 [] 9 2 1 false → ⊥
mapped_before may =
    let none : leaf_at 8 4 2 nine_mapped 9 ≡ 0 = may.absent 0 (omega arith) in
    let there : leaf_at 8 4 2 nine_mapped 9 ≡ 2271 = leaf_only.here in
    omega arith

none_linked : leaf_at 8 4 2 nine_linked 9 ≡ 0
none_linked =
    middle_only.others (At 2 9) (omega arith) (apart 2 1 9 0 (λ deep. omega arith)) ∙ root_only.others (At 2 9) (omega arith) (apart 2 0 9 0 (λ deep. omega arith))
    ∙ no_entry (At 2 9) (omega arith)

pub linked_alone : MapsNext 8 4 2 9 2 0 false mappable (0 ∷ 1 ∷ []) nine_linked [] → ⊥
linked_alone next = let there : leaf_at 8 4 2 nine_linked 9 ≡ 2271 = next.leaf.here in omega (arith, there, none_linked)

pub page_kept : MapsNext 8 4 2 9 2 0 false mappable (0 ∷ 1 ∷ []) nine_mapped (0 ∷ []) → ⊥
page_kept next = let is : 1 + tables_lacked 8 4 mappable 2 9 1 ≡ 2 = next.lost in omega (arith, is, lacked)

pub no_leaf : AreMapped 8 1 1 4 2 9 2 1 1 false mappable (0 ∷ 1 ∷ []) nine_linked [] → ⊥
no_leaf mapped =
    let none : leaf_at 8 4 2 nine_linked 9 ≡ 0 = none_linked in
    let there : leaf_at 8 4 2 nine_linked 9 ≡ 2271 = mapped.here 0 (omega arith) in
    omega arith

pub second_leaf : AreMapped 8 1 1 4 2 9 2 1 1 false mappable (0 ∷ 1 ∷ []) (stored nine_mapped ((18, private_leaf 2) ∷ [])) [] → ⊥
second_leaf mapped =
    let at : IsStoreAt 8 4 2 nine_mapped (At 2 10) 18 = record { tree = changes.tree; slot = omega arith; at = (0, middle_there, refl) } in
    let there : leaf_at 8 4 2 (set nine_mapped 18 (private_leaf 2)) 10 ≡ 2271 = (leaf-store 8 4 2 nine_mapped 18 (private_leaf 2) 10 at (IsPresent 2 false (omega arith) refl)).here in
    let none : leaf_at 8 4 2 (set nine_mapped 18 (private_leaf 2)) 10 ≡ leaf_at 8 4 2 mappable 10 = mapped.others 10 (omega arith) (inr (omega arith)) in
    let zero_leaf : leaf_at 8 4 2 mappable 10 ≡ 0 = no_entry (At 2 10) (omega arith) in
    omega arith

pub second_table : AreMapped 8 1 1 4 2 9 2 1 1 false mappable (0 ∷ 1 ∷ []) (stored nine_mapped ((2057, next_table 3) ∷ [])) [] → ⊥
second_table mapped =
    let is : next_table 3 ≡ 0 = mapped.only (At 0 1) (omega arith, omega arith) off_way in
    omega arith
  where
    off_way : (j : ℕ) → j < 1 → IsOnWay 2 (9 + j) (At 0 1) → ⊥
    off_way j low (inl is) = let deep = slot-depth 0 1 1 ((9 + j) / 512) is in omega arith
    off_way j low (inr (inl is)) = let same = slot-number 0 0 1 ((9 + j) / 512 / 512) is in omega arith
    off_way j low (inr (inr none)) = none

pub page_word : AreMapped 8 1 1 4 2 9 2 1 1 false mappable (0 ∷ 1 ∷ []) (stored nine_mapped ((3, host 2) ∷ [])) [] → ⊥
page_word mapped =
    let is : host 2 ≡ host 1 = mapped.elsewhere 3 (λ page k below low own is. omega arith) in
    omega arith

pub spare_still : AreMapped 8 1 1 4 2 9 2 1 1 false mappable (0 ∷ 1 ∷ []) nine_mapped (0 ∷ []) → ⊥
spare_still mapped =
    let is : 1 + tables_lacked 8 4 mappable 2 9 1 ≡ 2 + tables_lacked 8 4 nine_mapped 2 10 0 = mapped.lost in
    omega (arith, is, lacked)

-- ---- mappings by their leaves

pub none : AreMappings 8 1 mappable 1 4 2 (0 ∷ 1 ∷ []) (record (new_tvm 1) { tables = 0 ∷ 1 ∷ [] })
none = record {
  leaf = λ g low. no_entry (At 2 g) low;
  far = λ g high. refl;
  links = links;
  count = refl;
}
  where
    links : (a : Slot) → IsLinkSlot 2 a → uses_slot 2 (record (new_tvm 1) { tables = 0 ∷ 1 ∷ [] }) a ≡ not (entry_at 8 4 mappable a == 0)
    links (At d n) slot = sym (ap (λ k. not (k == 0)) (no_entry (At d n) slot.1))

pub leaf_lacks : AreMappings 8 1 mappable 1 4 2 (0 ∷ 1 ∷ []) (record (new_tvm 1) { tables = 0 ∷ 1 ∷ []; mappings = own_five ∷ [] }) → ⊥
leaf_lacks are =
    let there : leaf_at 8 4 2 mappable 7 ≡ present 5 false = (are.leaf 7 (omega arith)).1 in
    let zero_leaf : leaf_at 8 4 2 mappable 7 ≡ 0 = no_entry (At 2 7) (omega arith) in
    omega arith

pub leaf_alone : AreMappings 8 1 nine_mapped 1 4 2 [] (record (new_tvm 1) { tables = 0 ∷ 1 ∷ []; prefixes = λ level. 0 ∷ [] }) → ⊥
leaf_alone are =
    let none_is : leaf_at 8 4 2 nine_mapped 9 ≡ 0 = are.leaf 9 (omega arith) in
    let there : leaf_at 8 4 2 nine_mapped 9 ≡ 2271 = leaf_only.here in
    omega arith

pub unlinked : AreMappings 8 1 mappable 1 4 2 (0 ∷ 1 ∷ []) (record (new_tvm 1) { tables = 0 ∷ 1 ∷ 2 ∷ 3 ∷ []; prefixes = λ level. 0 ∷ [] }) → ⊥
unlinked are = true≢false (are.links (At 1 0) (omega arith, omega arith) ∙ ap (λ k. not (k == 0)) (no_entry (At 1 0) (omega arith)))

pub table_lost : AreMappings 8 1 mappable 1 4 2 (0 ∷ []) (record (new_tvm 1) { tables = 0 ∷ 1 ∷ [] }) → ⊥
table_lost are = let is : ◌≡◌ {A = ℕ} 2 1 = are.count in omega arith

-- ---- tables and their pool

pub twice : AreTables 8 1 mappable 1 4 2 (0 ∷ 0 ∷ []) → ⊥
twice are = let is : ◌≡◌ {A = ℕ} 0 1 = are.spare.differ 0 1 (omega arith) (omega arith) refl in omega arith

pub memory : AreTables 8 1 mappable 1 4 2 (2 ∷ []) → ⊥
memory are = let is : given 1 Data ≡ given 1 Table = are.given.spare 0 (omega arith) in omega arith

pub another_tvm : AreTables 8 1 mappable 2 4 2 [] → ⊥
another_tvm are = let is : given 1 Root ≡ given 2 Root = are.given.root_is.roots 0 (omega arith) in omega arith

pub in_use : AreTables 8 1 nine_mapped 1 4 2 (0 ∷ []) → ⊥
in_use are = (are.spare.each 0 (omega arith)).unnamed (At 1 0) (omega arith) middle_there
