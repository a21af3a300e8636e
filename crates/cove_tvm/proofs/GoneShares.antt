-- How often the tables of a TVM share a page, and how often its mappings do.
use Rattle.std.proofs.Common.{◌≡◌, ◌≢◌, ℕ, zero, suc, ◌+◌, ◌-◌, ◌*◌, ◌/◌, ◌%◌, ◌^◌, ◌<◌, ◌≤◌, ◌∙◌, ◌||◌, not, Bool, true, false, true≢false, cond, eqb, eqb-true, eq-eqb, List, [], ◌∷◌, ◌++◌, count_by, get_or, length, length-set, map, set, get_or-set_other, Option, Some, None, refl, sym, ap, subst, inl, inr, ◌⊎◌, arith}
use Rattle.std.proofs.lemmas.Bool.{cases_eq, cases_lt, ne_eqb}
use Rattle.std.proofs.lemmas.List.{get_or_default}
use Rattle.std.proofs.lemmas.List.Sums.{sum_by-append, sum_by-cons}
use Rattle.std.proofs.lemmas.Option.{none-some, same_Some}
use Rattle.std.specs.Prelude.{Contains, filter_map, flat_map}
use Rattle.cove_base.proofs.TableLemmas.{next-cases}
use Rattle.cove_base.proofs.TreeLemmas.{entry-stands, named-above, named-outside, slot-depth, slot-number}
use Rattle.cove_base.proofs.TreeStores.{OnlyAt, leaf-store, spare-apart, tree-leaf}
use Rattle.cove_base.specs.Modes.{leaves_of}
use Rattle.cove_model.specs.Machine.{given, all_words, table_word, Root, Table, at, dropped, IsTableOf, mapping_of, page_under, AreDistinct, guests_of, has, Seat, shown_page}
use Rattle.cove_base.specs.Tables.{Slot, At, IsAbsent, IsLink, NoTable, ATable, IsLinkSlot, IsSlot, IsSpare, IsTree, StandsAt, entry_at, entry_in, leaf_at, next_table, slots_at}
use Rattle.cove_imsic.specs.FileTables.{FileTable}
use Rattle.cove_model.proofs.SharedLeaves.{stores_count_shared}
use Rattle.cove_model.specs.TableLaw.{is_shared_leaf, shared_leaves, shared_once}
use Rattle.cove_model.specs.Tvms.{Backing, HostPage, OwnPage, Mapping, Standing, Blocked, Present, Tvm as ModelTvm}
use Rattle.cove_stage2.proofs.LawfulLemmas.{given_in}
use Rattle.cove_stage2.proofs.SharedWords.{is_shared, not_shared, once_is}
use Rattle.cove_tvm.proofs.KeptGround.{flag, window_same}
use Rattle.cove_tvm.specs.DestroyedTvms.{Destroys}
use Rattle.cove_tvm.specs.LeafStands.{LeafStands, StandingStands, leaf_of}
use Rattle.cove_tvm.specs.TvmStands.{LiveStands}
use Rattle.cove_tvm.specs.declared.machines.Tvm.{Tvm}

-- how often a page is among some, and which of the host's pages mappings show
abbrev pub times : (p : ℕ) → List ℕ → ℕ
times p ps = count_by (λ q. eqb q p) ps

abbrev pub shown : List Mapping → List ℕ
shown ms = filter_map (λ (mapping : Mapping). shown_page mapping.backing) ms

abbrev pub shown_by : ModelTvm → List ℕ
shown_by tvm = shown tvm.mappings

times_first : (p q : ℕ) (ps : List ℕ) → times p (q ∷ ps) ≡ flag (eqb q p) + times p ps
times_first p q ps = sum_by-cons (λ k. cond (eqb k p) 1 0) q ps

times_apart : (p : ℕ) (xs ys : List ℕ) → times p (xs ++ ys) ≡ times p xs + times p ys
times_apart p xs ys = sum_by-append (λ k. cond (eqb k p) 1 0) xs ys

-- ---- the state without one of its TVMs

none_dropped : (t : ℕ) (tvms : List ModelTvm) → has t (map (λ (tvm : ModelTvm). tvm.number) tvms) ≡ false → dropped (λ (tvm : ModelTvm). eqb tvm.number t) tvms ≡ tvms
none_dropped t [] e = refl
none_dropped t (x ∷ xs) e = go (eqb x.number t) e (none_dropped t xs)
  where
    go : (b : Bool) → (b || has t (map (λ (tvm : ModelTvm). tvm.number) xs)) ≡ false
        → (has t (map (λ (tvm : ModelTvm). tvm.number) xs) ≡ false → dropped (λ (tvm : ModelTvm). eqb tvm.number t) xs ≡ xs)
        → cond (not b) (x ∷ dropped (λ (tvm : ModelTvm). eqb tvm.number t) xs) (dropped (λ (tvm : ModelTvm). eqb tvm.number t) xs) ≡ x ∷ xs
    go true q more = absurd (true≢false q)
    go false q more = ap (λ rest. x ∷ rest) (more q)

-- the TVM that goes takes what it shows with it
pub gone_maps : (t p : ℕ) (v : ModelTvm) (tvms : List ModelTvm) → AreDistinct (map (λ (tvm : ModelTvm). tvm.number) tvms)
    → at (λ (tvm : ModelTvm). tvm.number) t tvms ≡ Some v
    → times p (flat_map shown_by (dropped (λ (tvm : ModelTvm). eqb tvm.number t) tvms)) + times p (shown_by v) ≡ times p (flat_map shown_by tvms)
gone_maps t p v [] apart found = absurd (none-some v found)
gone_maps t p v (x ∷ xs) apart found = go (eqb x.number t) refl found (λ q. gone_maps t p v xs apart.1 q)
  where
    go : (b : Bool) → eqb x.number t ≡ b → cond b (Some x) (at (λ (tvm : ModelTvm). tvm.number) t xs) ≡ Some v
        → (at (λ (tvm : ModelTvm). tvm.number) t xs ≡ Some v
        → times p (flat_map shown_by (dropped (λ (tvm : ModelTvm). eqb tvm.number t) xs)) + times p (shown_by v) ≡ times p (flat_map shown_by xs))
        → times p (flat_map shown_by (cond (not b) (x ∷ dropped (λ (tvm : ModelTvm). eqb tvm.number t) xs) (dropped (λ (tvm : ModelTvm). eqb tvm.number t) xs)))
        + times p (shown_by v) ≡ times p (shown_by x ++ flat_map shown_by xs)
    go true is e more =
        let none = none_dropped t xs (subst (λ n. has n (map (λ (tvm : ModelTvm). tvm.number) xs) ≡ false) (eqb-true x.number t is) apart.0) in
        let left = ap (λ list. times p (flat_map shown_by list)) none in
        let own = ap (λ one. times p (shown_by one)) (same_Some x v e) in
        let both = times_apart p (shown_by x) (flat_map shown_by xs) in
        omega arith
    go false is e more =
        let rest = more e in
        let all = times_apart p (shown_by x) (flat_map shown_by xs) in
        let kept = times_apart p (shown_by x) (flat_map shown_by (dropped (λ (tvm : ModelTvm). eqb tvm.number t) xs)) in
        omega arith

-- a number that was dropped is found no more
pub none_found : (t : ℕ) (tvms : List ModelTvm) → at (λ (tvm : ModelTvm). tvm.number) t (dropped (λ (tvm : ModelTvm). eqb tvm.number t) tvms) ≡ None
none_found t [] = refl
none_found t (x ∷ xs) = go (eqb x.number t) refl (none_found t xs)
  where
    go : (b : Bool) → eqb x.number t ≡ b
        → at (λ (tvm : ModelTvm). tvm.number) t (dropped (λ (tvm : ModelTvm). eqb tvm.number t) xs) ≡ None
        → at (λ (tvm : ModelTvm). tvm.number) t (cond (not b) (x ∷ dropped (λ (tvm : ModelTvm). eqb tvm.number t) xs) (dropped (λ (tvm : ModelTvm). eqb tvm.number t) xs)) ≡ None
    go true is more = more
    go false is more = ap (λ b. cond b (Some x) (at (λ (tvm : ModelTvm). tvm.number) t (dropped (λ (tvm : ModelTvm). eqb tvm.number t) xs))) is ∙ more

-- ---- leaves that share a page

-- a leaf shares a page as often as its mapping does
abbrev Shares : (p leaf : ℕ) → Option Mapping → Type 0
Shares p leaf None = leaf ≡ 0
Shares p leaf (Some m) = (leaf ≢ 0) × (shared_once p leaf ≡ times p (shown (m ∷ [])))

shares : (pages harts : ℕ) (words : List ℕ) (t p leaf : ℕ) (mapping : Option Mapping) → pages ≤ 2 ^ 16 → LeafStands pages harts words t leaf mapping → Shares p leaf mapping
shares pages harts words t p leaf None few stands = stands
shares pages harts words t p leaf (Some m) few stands = go m.backing m.standing stands
  where
    hosts : (page : ℕ) → is_shared_leaf p leaf ≡ eqb page p → shared_once p leaf ≡ times p (page ∷ [])
    hosts page e = let one = once_is p leaf (eqb page p) e in let two = times_first p page [] in omega arith

    go : (b : Backing) (s : Standing) → (page_under b < pages) × StandingStands pages harts words t (leaf_of b) leaf s
        → (leaf ≢ 0) × (shared_once p leaf ≡ times p (shown (record m { backing = b } ∷ [])))
    go (OwnPage page own) Present st =
        let is : leaf ≡ 1024 * page + 223 = st.1 in
        (λ none. omega arith, once_is p leaf false (not_shared p leaf 223 (omega arith) refl))
    go (OwnPage page own) (Blocked held waiting) st =
        let is : leaf ≡ 1024 * page + 223 + 255 + 2 ^ 26 * st.1.since = st.1.is in
        (λ none. omega arith, once_is p leaf false (not_shared p leaf 478 (omega arith) refl))
    go (HostPage page) Present st =
        let is : leaf ≡ 1024 * page + 215 = st.1 in
        let on : page < pages = st.0 in
        (λ none. omega arith, hosts page (is_shared p page leaf 215 (omega arith) refl (omega arith)))
    go (HostPage page) (Blocked held waiting) st =
        let is : leaf ≡ 1024 * page + 215 + 255 + 2 ^ 26 * st.1.since = st.1.is in
        let on : page < pages = st.0 in
        (λ none. omega arith, hosts page (is_shared p page leaf 470 (omega arith) refl (omega arith)))

-- what the first mapping shows, and the others
shown_first : (p : ℕ) (m : Mapping) (ms : List Mapping) → times p (shown (m ∷ ms)) ≡ times p (shown (m ∷ [])) + times p (shown ms)
shown_first p m ms = go m.backing
  where
    go : (b : Backing) → times p (shown (record m { backing = b } ∷ ms)) ≡ times p (shown (record m { backing = b } ∷ [])) + times p (shown ms)
    go (OwnPage page words) = omega arith
    go (HostPage page) =
        let all = times_first p page (shown ms) in
        let one = times_first p page [] in
        omega arith

-- a guest page that none has is found in no mapping
none_mapped : (n : ℕ) (ms : List Mapping) → has n (map (λ (m : Mapping). m.guest) ms) ≡ false → at (λ (m : Mapping). m.guest) n ms ≡ None
none_mapped n [] e = refl
none_mapped n (m ∷ ms) e = go (eqb m.guest n) e (none_mapped n ms)
  where
    go : (b : Bool) → (b || has n (map (λ (x : Mapping). x.guest) ms)) ≡ false
        → (has n (map (λ (x : Mapping). x.guest) ms) ≡ false → at (λ (x : Mapping). x.guest) n ms ≡ None)
        → cond b (Some m) (at (λ (x : Mapping). x.guest) n ms) ≡ None
    go true q more = absurd (true≢false q)
    go false q more = more q

-- an entry that is there stands somewhere
entry_place : (pages root : ℕ) (words : List ℕ) (d n : ℕ) → entry_in pages root words d n ≢ 0 → (place : ℕ) × StandsAt pages root words (At d n) place
entry_place pages root words zero n some = (table_word pages root n, refl)
entry_place pages root words (suc d) n some = elim (next-cases pages (entry_in pages root words d (n / 512))) [
  | inl (page, named) ↦ (table_word pages page (n % 512), (page, named, refl))
  | inr empty ↦ absurd (some (empty words (n % 512)))
]

-- a slot stands among the words of tables
in_tables : (pages root leaves : ℕ) (words : List ℕ) → IsTree pages root leaves words → (a : Slot) (place : ℕ) → IsSlot a → StandsAt pages root words a place
    → (pages ≤ place) × (place < 513 * pages)
in_tables pages root leaves words tree (At zero n) place slot is = let fits = tree.fits in (omega arith, omega arith)
in_tables pages root leaves words tree (At (suc d) n) place slot (page, named, is) =
    let board = (named-outside pages root leaves words tree (At d (n / 512)) page (omega arith) named).0 in (omega (arith, is), omega (arith, is, board))

-- Words after each leaf was cleared: nothing else changed, and a page is shared as often less as the mappings did.
record Cleared (pages root leaves : ℕ) (words : List ℕ) (p n : ℕ) : Type 0 where
  left : List ℕ
  size : length left ≡ length words
  tree : IsTree pages root leaves left
  links : (a : Slot) → IsLinkSlot leaves a → entry_at pages root left a ≡ entry_at pages root words a
  leaf : (g : ℕ) → g < slots_at leaves → leaf_at pages root leaves left g ≡ 0
  others : (place : ℕ) → ((g : ℕ) → g < slots_at leaves → StandsAt pages root words (At leaves g) place → ⊥) → get_or left place 0 ≡ get_or words place 0
  count : shared_leaves pages left p + n ≡ shared_leaves pages words p

-- one leaf that is cleared
module _ (pages harts root leaves p : ℕ) (words : List ℕ) (size : length words ≡ all_words pages harts) (tree : IsTree pages root leaves words)
    (g place n : ℕ) (low : g < slots_at leaves) (stands : StandsAt pages root words (At leaves g) place)
    (once : shared_once p (leaf_at pages root leaves words g) ≡ n) where
  abbrev next : List ℕ
  next = set words place 0

  only : OnlyAt pages root words next (At leaves g) 0
  only = leaf-store pages root leaves words place 0 g (record { tree = tree; slot = low; at = stands }) (IsAbsent refl)

  next_tree : IsTree pages root leaves next
  next_tree = tree-leaf pages root leaves words next g 0 tree only (IsAbsent refl)

  next_links : (a : Slot) → IsLinkSlot leaves a → entry_at pages root next a ≡ entry_at pages root words a
  next_links (At d m) slot = only.others (At d m) slot.1 (λ e. let deep = slot-depth d leaves m g e in omega (arith, slot.0))

  next_leaf : (h : ℕ) → h < slots_at leaves → h ≢ g → leaf_at pages root leaves next h ≡ leaf_at pages root leaves words h
  next_leaf h small off = only.others (At leaves h) small (λ e. off (slot-number leaves leaves h g e))

  -- leaves stand where they stood
  next_stands : (d m at : ℕ) → d ≤ leaves → m < slots_at d → StandsAt pages root next (At d m) at → StandsAt pages root words (At d m) at
  next_stands zero m at deep slot there = there
  next_stands (suc d) m at deep slot (page, named, is) = (page, sym (next_links (At d (m / 512)) (omega arith, omega arith)) ∙ named, is)

  next_count : shared_leaves pages next p + n ≡ shared_leaves pages words p
  next_count =
      let range = in_tables pages root leaves words tree (At leaves g) place low stands in
      let step = (stores_count_shared pages harts words p size).1 place 0 range.0 range.1 in
      let was : shared_once p (leaf_at pages root leaves words g) ≡ shared_once p (get_or words place 0) = ap (shared_once p) (entry-stands pages root words (At leaves g) place stands) in
      let none : shared_once p 0 ≡ 0 = once_is p 0 false refl in
      omega arith

  -- and then the others
  cleared_on : (m : ℕ) → Cleared pages root leaves next p m → Cleared pages root leaves words p (n + m)
  cleared_on m rest = record {
    left = rest.left;
    size = rest.size ∙ length-set words place 0;
    tree = rest.tree;
    links = λ a slot. rest.links a slot ∙ next_links a slot;
    leaf = rest.leaf;
    others = λ at none.
        rest.others at (λ h small there. none h small (next_stands leaves h at (omega arith) small there))
        ∙ get_or-set_other words place at 0 0 (λ e. none g low (subst (StandsAt pages root words (At leaves g)) (sym e) stands));
    count = let first = next_count in let more = rest.count in omega arith;
  }

clears : (pages harts root leaves p : ℕ) (ms : List Mapping) (words : List ℕ) → length words ≡ all_words pages harts → IsTree pages root leaves words
    → AreDistinct (map (λ (m : Mapping). m.guest) ms)
    → ((g : ℕ) → g < slots_at leaves → Shares p (leaf_at pages root leaves words g) (at (λ (m : Mapping). m.guest) g ms))
    → ((g : ℕ) → slots_at leaves ≤ g → at (λ (m : Mapping). m.guest) g ms ≡ None)
    → Cleared pages root leaves words p (times p (shown ms))
clears pages harts root leaves p [] words size tree apart each far = record {
  left = words;
  size = refl;
  tree = tree;
  links = λ a slot. refl;
  leaf = each;
  others = λ place none. refl;
  count = omega arith;
}
clears pages harts root leaves p (m ∷ ms) words size tree apart each far =
    subst (Cleared pages root leaves words p) (sym (shown_first p m ms))
    (cleared_on pages harts root leaves p words size tree m.guest place.0 (times p (shown (m ∷ []))) low place.1 here.1 (times p (shown ms))
    (clears pages harts root leaves p ms (set words place.0 0) (length-set words place.0 0 ∙ size)
    (next_tree pages harts root leaves p words size tree m.guest place.0 (times p (shown (m ∷ []))) low place.1 here.1) apart.1 each_next far_next))
  where
    found : at (λ (x : Mapping). x.guest) m.guest (m ∷ ms) ≡ Some m
    found = ap (λ b. cond b (Some m) (at (λ (x : Mapping). x.guest) m.guest ms)) (eq-eqb m.guest m.guest refl)

    low : m.guest < slots_at leaves
    low = elim (cases_lt m.guest (slots_at leaves)) [
      | inl under ↦ under
      | inr over ↦ absurd (none-some m (sym (far m.guest over) ∙ found))
    ]

    here : (leaf_at pages root leaves words m.guest ≢ 0) × (shared_once p (leaf_at pages root leaves words m.guest) ≡ times p (shown (m ∷ [])))
    here = subst (Shares p (leaf_at pages root leaves words m.guest)) found (each m.guest low)

    place : (place : ℕ) × StandsAt pages root words (At leaves m.guest) place
    place = entry_place pages root words leaves m.guest here.0

    other_guest : (g : ℕ) → g ≢ m.guest → at (λ (x : Mapping). x.guest) g (m ∷ ms) ≡ at (λ (x : Mapping). x.guest) g ms
    other_guest g off = ap (λ b. cond b (Some m) (at (λ (x : Mapping). x.guest) g ms)) (ne_eqb m.guest g (λ e. off (sym e)))

    gone : at (λ (x : Mapping). x.guest) m.guest ms ≡ None
    gone = none_mapped m.guest ms apart.0

    each_next : (g : ℕ) → g < slots_at leaves → Shares p (leaf_at pages root leaves (set words place.0 0) g) (at (λ (x : Mapping). x.guest) g ms)
    each_next g small = elim (cases_eq g m.guest) [
      | inl same ↦ subst (λ k. Shares p (leaf_at pages root leaves (set words place.0 0) k) (at (λ (x : Mapping). x.guest) k ms)) (sym same)
          (subst (Shares p (leaf_at pages root leaves (set words place.0 0) m.guest)) (sym gone)
          (only pages harts root leaves p words size tree m.guest place.0 (times p (shown (m ∷ []))) low place.1 here.1).here)
      | inr off ↦
          let stays = next_leaf pages harts root leaves p words size tree m.guest place.0 (times p (shown (m ∷ []))) low place.1 here.1 g small off in
          subst (λ leaf. Shares p leaf (at (λ (x : Mapping). x.guest) g ms)) (sym stays)
          (subst (Shares p (leaf_at pages root leaves words g)) (other_guest g off) (each g small))
    ]

    far_next : (g : ℕ) → slots_at leaves ≤ g → at (λ (x : Mapping). x.guest) g ms ≡ None
    far_next g big = sym (other_guest g (λ e. let under = low in omega arith)) ∙ far g big

-- no link shares a page
link_flag : (pages root p entry : ℕ) → IsLink pages root entry → is_shared_leaf p entry ≡ false
link_flag pages root p entry (NoTable e) = ap (is_shared_leaf p) e
link_flag pages root p entry (ATable page out e) = not_shared p entry 1 (omega arith) refl

-- ---- a TVM that goes

module _ (pages harts : ℕ) (words new : List ℕ) (t : ℕ) (seats : ℕ → Option Seat) (files : FileTable) (tvm : Tvm) (model : ModelTvm)
    (live : LiveStands pages harts words t seats files tvm model) (size : length words ≡ all_words pages harts)
    (guests : AreDistinct (guests_of model)) (destroys : Destroys pages words new t) (p : ℕ) where
  abbrev root : ℕ
  root = tvm.tables.root.0

  abbrev leaves : ℕ
  leaves = leaves_of tvm.tables.mode

  few : pages ≤ 2 ^ 16
  few = let limit = tvm.tables.limit in let board = live.board in omega arith

  cleared : Cleared pages root leaves words p (times p (shown_by model))
  cleared =
      clears pages harts root leaves p model.mappings words size live.tables.tree guests
      (λ g low. shares pages harts words t p (leaf_at pages root leaves words g) (mapping_of model g) few (live.mappings.leaf g low)) live.mappings.far

  -- a word where no leaf stands stays
  stays_out : (q i : ℕ) → ((g : ℕ) → g < slots_at leaves → StandsAt pages root words (At leaves g) (table_word pages q i) → ⊥)
      → get_or cleared.left (table_word pages q i) 0 ≡ get_or words (table_word pages q i) 0
  stays_out q i none = cleared.others (table_word pages q i) none

  -- a leaf stands in a table of the TVM's
  no_leaf : (q i : ℕ) → i < 512 → (IsTableOf words t q → ⊥) → (g : ℕ) → g < slots_at leaves → StandsAt pages root words (At leaves g) (table_word pages q i) → ⊥
  no_leaf q i low none g small there =
      let own = given_in pages words t root leaves tvm.pool.pages live.tables.tree live.tables.given (At leaves g) (table_word pages q i) small there in
      let is : table_word pages q i ≡ table_word pages own.page own.i = own.at in
      let within = own.low in
      let same : own.page ≡ q = omega arith in
      none (subst (IsTableOf words t) same own.own)

  -- no entry shares a page, once the leaves are cleared
  entry_flag : (d n : ℕ) → d ≤ leaves → n < slots_at d → is_shared_leaf p (entry_in pages root cleared.left d n) ≡ false
  entry_flag d n deep slot = elim (cases_lt d leaves) [
    | inl above ↦ link_flag pages root p (entry_in pages root cleared.left d n) (cleared.tree.links (At d n) (above, slot))
    | inr last ↦
        let same : leaves ≡ d = omega arith in
        ap (is_shared_leaf p) (subst (λ k. (g : ℕ) → g < slots_at k → entry_in pages root cleared.left k g ≡ 0) same cleared.leaf n slot)
  ]

  -- the words of a table that a slot names
  below_link : (a : Slot) (q i : ℕ) → IsSlot a → i < 512 → entry_at pages root words a ≡ next_table q → is_shared_leaf p (get_or cleared.left (table_word pages q i) 0) ≡ false
  below_link (At d m) q i slot low named =
      let above = (named-above pages root leaves words live.tables.tree (At d m) q slot named).0 in
      let upper : m ≡ (512 * m + i) / 512 = omega arith in
      let lower : i ≡ (512 * m + i) % 512 = omega arith in
      let is : entry_in pages root cleared.left d ((512 * m + i) / 512) ≡ next_table q =
      ap (entry_in pages root cleared.left d) (sym upper) ∙ cleared.links (At d m) (above, slot) ∙ named in
      ap (is_shared_leaf p) (sym (entry-stands pages root cleared.left (At (suc d) (512 * m + i)) (table_word pages q i) (q, is, ap (table_word pages q) lower)))
      ∙ entry_flag (suc d) (512 * m + i) (omega (arith, above)) (omega arith)

  -- no word of the TVM's tables shares a page
  own_flag : (q i : ℕ) → q < pages → i < 512 → IsTableOf words t q → is_shared_leaf p (get_or cleared.left (table_word pages q i) 0) ≡ false
  own_flag q i on low (inl is) =
      let found = live.owned.found q Root on is in
      let first = found.0 in
      let last = found.1 in
      let here : table_word pages root (512 * (q - root) + i) ≡ table_word pages q i = omega arith in
      ap (λ k. is_shared_leaf p (get_or cleared.left k 0)) (sym here) ∙ entry_flag 0 (512 * (q - root) + i) (omega arith) (omega arith)
  own_flag q i on low (inr is) = go (live.owned.found q Table on is)
    where
      go : Contains tvm.pool.pages q ⊎ ((a : Slot) × IsSlot a × (entry_at pages root words a ≡ next_table q)) → is_shared_leaf p (get_or cleared.left (table_word pages q i) 0) ≡ false
      go (inl pooled) =
          let same : get_or tvm.pool.pages pooled.0 0 ≡ q = get_or_default tvm.pool.pages pooled.0 0 q pooled.1 ∙ pooled.2 in
          let spare = subst (IsSpare pages root words) same (live.tables.spare.each pooled.0 pooled.1) in
          ap (is_shared_leaf p)
          (stays_out q i (λ g small there. spare-apart pages root words q i (table_word pages q i) spare low (At leaves g) small there refl) ∙ spare.zeros i low)
      go (inr linked) = below_link linked.0 q i linked.1 low linked.2

  same_flag : (q i : ℕ) → q < pages → i < 512 → is_shared_leaf p (get_or new (table_word pages q i) 0) ≡ is_shared_leaf p (get_or cleared.left (table_word pages q i) 0)
  same_flag q i on low = elim (cases_eq (get_or words q 0) (given t Root)) [
    | inl is ↦ ap (is_shared_leaf p) (destroys.tables q i on low (inl is)) ∙ sym (own_flag q i on low (inl is))
    | inr no_root ↦ elim (cases_eq (get_or words q 0) (given t Table)) [
      | inl is ↦ ap (is_shared_leaf p) (destroys.tables q i on low (inr is)) ∙ sym (own_flag q i on low (inr is))
      | inr no_table ↦ ap (is_shared_leaf p)
          (destroys.others q i on low (none no_root no_table) ∙ sym (stays_out q i (no_leaf q i low (none no_root no_table))))
    ]
  ]
    where
      none : get_or words q 0 ≢ given t Root → get_or words q 0 ≢ given t Table → IsTableOf words t q → ⊥
      none no_root no_table (inl is) = no_root is
      none no_root no_table (inr is) = no_table is

  -- a page is shared as often less as the TVM's mappings did
  pub gone_shares : shared_leaves pages new p + times p (shown_by model) ≡ shared_leaves pages words p
  gone_shares =
      let same = window_same pages p cleared.left new (destroys.size ∙ sym cleared.size)
      (λ i h.
      let here : pages + i ≡ table_word pages (i / 512) (i % 512) = omega arith in
      subst (λ k. is_shared_leaf p (get_or new k 0) ≡ is_shared_leaf p (get_or cleared.left k 0)) (sym here) (same_flag (i / 512) (i % 512) (omega arith) (omega arith))) in
      let left = cleared.count in
      omega arith
