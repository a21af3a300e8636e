-- The stores of the calls on tables are lawful.
use Rattle.std.proofs.Common.{◌≡◌, ◌≢◌, ℕ, zero, suc, ◌+◌, ◌-◌, ◌/◌, ◌%◌, ◌<◌, ◌≤◌, Bool, true, false, List, [], ◌∷◌, ◌++◌, get_or, length, set, take, refl, sym, ap, subst, ◌∙◌, inl, inr, arith, get_or-set_other}
use Rattle.std.proofs.lemmas.List.{get_or-take, length-take-le}
use Rattle.cove_base.proofs.StoreLemmas.{stored-append}
use Rattle.cove_base.proofs.TreeLemmas.{entry-stands, link-slot, named-above, named-outside, slot-cases}
use Rattle.cove_model.specs.Machine.{given, hart_word, table_word, AllAllowed, Leads, fills, stored, Table, IsBehindLeaf, IsLawful, ChangesTable, IsLeft, IsTableOf, TableChange, Links, Maps, Blocks, Unblocks, Unmaps, Rewrites, number_in}
use Rattle.cove_base.specs.TableWords.{blocked}
use Rattle.cove_base.specs.Tables.{Slot, At, IsLeaf, IsPresent, IsLinkSlot, IsPool, IsSlot, IsTree, StandsAt, entry_at, entry_in, leaf_at, next_table, present, slots_at}
use Rattle.cove_model.proofs.OwnedStores.{IsOwnPlace, one_root}
use Rattle.cove_stage2.proofs.LackedLemmas.{enough-above, enough-here}
use Rattle.cove_stage2.proofs.LeafLemmas.{blocked-some, leaf-changes, present-some, some-stands, unblocked-blocked, way-stands}
use Rattle.cove_stage2.proofs.LinkLemmas.{links-none, links-some, pool-none, way-itself, way-next, way-none}
use Rattle.cove_stage2.specs.Changes.{ChangesLeaf, KeepsLinks, clear_stores, leaf_stores, slot_place, unblocked}
use Rattle.cove_stage2.specs.Links.{LinksTable, LinksWay}
use Rattle.cove_stage2.specs.Lacked.{tables_lacked}
use Rattle.cove_stage2.specs.LawfulTables.{AreGiven, BlockIsLawful, ClearIsLawful, LeafKeepsGiven, MapIsLawful, MapKeepsGiven, UnblockIsLawful, UnmapIsLawful}
use Rattle.cove_stage2.specs.MapStores.{link_stores, next_page, pool_after, pool_left, slot_stores, way_stores}

-- ---- one store after another

-- stores that are allowed, and then more that are allowed where they leave the words
pub allowed-append : (allows : List ℕ → ℕ → ℕ → Type 0) (words : List ℕ) (ss ts : List (ℕ × ℕ)) → AllAllowed allows words ss → AllAllowed allows (stored words ss) ts → AllAllowed allows words (ss ++ ts)
allowed-append allows words [] ts first second = second
allowed-append allows words (s ∷ ss) ts first second = (first.0, allowed-append allows (set words s.0 s.1) ss ts first.1 second)

-- words that allowed stores lead to, and then more
pub leads_on : (allows : List ℕ → ℕ → ℕ → Type 0) (old mid new : List ℕ) → Leads allows old mid → Leads allows mid new → Leads allows old new
leads_on allows old mid new first second = (
  first.0 ++ second.0,
  allowed-append allows old first.0 second.0 first.1 (subst (λ ws. AllAllowed allows ws second.0) first.2 second.1),
  second.2 ∙ ap (λ ws. stored ws second.0) first.2 ∙ sym (stored-append old first.0 second.0),
)

-- ---- where slots stand

module _ (pages : ℕ) (words : List ℕ) (tvm root leaves : ℕ) (pool : List ℕ) (tree : IsTree pages root leaves words) (of : AreGiven pages words tvm root pool) where
  pub given_in : (a : Slot) (place : ℕ) → IsSlot a → StandsAt pages root words a place → IsOwnPlace pages words tvm place
  given_in (At zero n) place slot at = record {
    page = root + n / 512;
    i = n % 512;
    below = let fits = tree.fits in omega arith;
    low = omega arith;
    at = omega arith;
    own = inl (of.root_is.roots (n / 512) (omega arith));
  }
  given_in (At (suc d) n) place slot (page, named, at) = record {
    page = page;
    i = n % 512;
    below = (named-outside pages root leaves words tree (At d (n / 512)) page (omega arith) named).0;
    low = omega arith;
    at = at;
    own = inr (of.linked (At d (n / 512)) page (omega arith) named);
  }

  -- a change at the place of a slot is lawful
  slot_lawful : (harts hart : ℕ) (old : List ℕ) (a : Slot) (place word : ℕ) → IsSlot a → StandsAt pages root words a place
      → TableChange pages harts words tvm old place (entry_at pages root words a) word → IsLawful pages harts hart old words place word
  slot_lawful harts hart old a place word slot at change =
      let own = given_in a place slot at in
      ChangesTable tvm own.page own.i own.below own.low own.at own.own
      (subst (λ w. TableChange pages harts words tvm old place w word) (entry-stands pages root words a place at) change)

  -- the place is past the page words
  slot_past : (a : Slot) (place : ℕ) → IsSlot a → StandsAt pages root words a place → pages ≤ place
  slot_past a place slot at = let own = given_in a place slot at in let is : place ≡ table_word pages own.page own.i = own.at in omega arith

-- ---- leaves

module _ (pages harts hart : ℕ) (old words : List ℕ) (tvm root leaves g : ℕ) (low : g < slots_at leaves) (tree : IsTree pages root leaves words) (of : AreGiven pages words tvm root []) where
  leaf_lawful : (word : ℕ) → leaf_at pages root leaves words g ≢ 0 → TableChange pages harts words tvm old (slot_place pages root words (At leaves g)) (leaf_at pages root leaves words g) word
      → AllAllowed (IsLawful pages harts hart old) words (leaf_stores pages root leaves words g word)
  leaf_lawful word some change =
      (slot_lawful pages words tvm root leaves [] tree of harts hart old (At leaves g) (slot_place pages root words (At leaves g)) word low (some-stands pages root words (At leaves g) some) change, tt)

pub block_is_lawful : BlockIsLawful
block_is_lawful pages harts hart old words tvm root leaves g page shared low small tree of leaf before =
    let some = present-some (leaf_at pages root leaves words g) page shared leaf in
    leaf_lawful pages harts hart old words tvm root leaves g low tree of (blocked (leaf_at pages root leaves words g) (number_in pages harts words tvm)) some
    (Blocks page shared root (At leaves g) small leaf refl of.root_is low (some-stands pages root words (At leaves g) some) (before ∙ sym leaf))

pub unblock_is_lawful : UnblockIsLawful
unblock_is_lawful pages harts hart old words tvm root leaves g page shared since low small tree of leaf =
    leaf_lawful pages harts hart old words tvm root leaves g low tree of (unblocked (leaf_at pages root leaves words g)) (blocked-some (leaf_at pages root leaves words g) page shared since leaf)
    (Unblocks page shared since small leaf (unblocked-blocked (leaf_at pages root leaves words g) page shared since small leaf))

pub unmap_is_lawful : UnmapIsLawful
unmap_is_lawful pages harts hart old words tvm root leaves g page shared since low small tree of leaf fenced above =
    leaf_lawful pages harts hart old words tvm root leaves g low tree of 0 (blocked-some (leaf_at pages root leaves words g) page shared since leaf)
    (Unmaps page shared since small leaf refl fenced above)

-- ---- clearing

kept_table : (pages : ℕ) (words : List ℕ) (tvm page i : ℕ) → page < pages → IsTableOf words tvm page → IsTableOf (set words (table_word pages page i) 0) tvm page
kept_table pages words tvm page i below (inl is) = inl (get_or-set_other words (table_word pages page i) page 0 0 (omega arith) ∙ is)
kept_table pages words tvm page i below (inr is) = inr (get_or-set_other words (table_word pages page i) page 0 0 (omega arith) ∙ is)

-- from a word of the page on, one after another
clears : (pages harts hart : ℕ) (old : List ℕ) (tvm page i n : ℕ) (words : List ℕ) → page < pages → i + n ≤ 512 → IsTableOf words tvm page → IsLeft pages harts words tvm → AllAllowed (IsLawful pages harts hart old) words (fills (table_word pages page i) n 0)
clears pages harts hart old tvm page i zero words below fits of left = tt
clears pages harts hart old tvm page i (suc n) words below fits of left =
    let next : table_word pages page i + 1 ≡ table_word pages page (i + 1) = omega arith in (
      ChangesTable tvm page i below (omega arith) refl of (Rewrites left),
      subst (λ p. AllAllowed (IsLawful pages harts hart old) (set words (table_word pages page i) 0) (fills p n 0)) (sym next)
          (clears pages harts hart old tvm page (i + 1) n (set words (table_word pages page i) 0) below (omega arith) (kept_table pages words tvm page i below of)
          (λ k on inside. left k on (inside.0, (inside.1.0, sym (get_or-set_other words (table_word pages page i) (hart_word pages harts k) 0 0 (omega arith)) ∙ inside.1.1)))),
    )

pub clear_is_lawful : ClearIsLawful
unfolding clear_stores
clear_is_lawful pages harts hart old words tvm page below of left = clears pages harts hart old tvm page 0 512 words below (omega arith) of left

-- ---- mapping

-- what is known of the tables of a TVM after one of the slots on the way was linked
pub record IsLinked (pages harts hart : ℕ) (old words new : List ℕ) (tvm root leaves : ℕ) (left : List ℕ) (a : Slot) (ss : List (ℕ × ℕ)) : Type 0 where
  pub allowed : AllAllowed (IsLawful pages harts hart old) words ss
  pub tree : IsTree pages root leaves new
  pub pool_is : IsPool pages root new left
  pub of : AreGiven pages new tvm root left
  pub page : ℕ
  pub links : LinksTable pages root leaves words new a page
  pub words_stay : (p : ℕ) → p < pages → get_or new p 0 ≡ get_or words p 0

module _ (pages harts hart : ℕ) (old words : List ℕ) (tvm root leaves : ℕ) (pool : List ℕ) (tree : IsTree pages root leaves words) (spare : IsPool pages root words pool) (of : AreGiven pages words tvm root pool) where
  -- the next page of the pool is linked
  module _ (a : Slot) (place : ℕ) (slot : IsLinkSlot leaves a) (at : StandsAt pages root words a place) (none : entry_at pages root words a ≡ 0) (some : 0 < length pool) where
    abbrev linked_words : List ℕ
    linked_words = set words place (next_table (next_page pool))

    link_change : TableChange pages harts words tvm old place (entry_at pages root words a) (next_table (next_page pool))
    link_change =
        let last = spare.each (length pool - 1) (omega arith) in
        Links (next_page pool) none refl last.outside.0 (of.spare (length pool - 1) (omega arith))
        (λ r b root_is b-slot named. last.unnamed b b-slot (subst (λ x. entry_at pages x words b ≡ next_table (next_page pool)) (one_root pages words tvm r root root_is of.root_is) named))
        last.zeros

    stays : (p : ℕ) → p < pages → get_or linked_words p 0 ≡ get_or words p 0
    stays p p-low =
        let past = slot_past pages words tvm root leaves pool tree of a place (link-slot leaves a slot) at in
        get_or-set_other words place p (next_table (next_page pool)) 0 (omega arith)

    new_links : LinksTable pages root leaves words linked_words a (next_page pool)
    new_links = links-none pages root leaves words a place pool tree slot at spare none some

    short : length (take (length pool - 1) pool) ≡ length pool - 1
    short = length-take-le (length pool - 1) pool (omega arith)

    given_again : AreGiven pages linked_words tvm root (take (length pool - 1) pool)
    given_again = record {
      root_is = record {
        fits = tree.fits;
        roots = λ i i-low. let fits = tree.fits in stays (root + i) (omega arith) ∙ of.root_is.roots i i-low;
        least = λ p p-low is. let fits = tree.fits in of.root_is.least p p-low (sym (stays p (omega arith)) ∙ is);
      };
      linked = λ b q b-slot named. elim (slot-cases b a) [
        | inl same ↦
            let is : next_table (next_page pool) ≡ next_table q = sym new_links.named ∙ ap (entry_at pages root linked_words) (sym same) ∙ named in
            let page : next_page pool ≡ q = omega arith in
            subst (λ p. get_or linked_words p 0 ≡ given tvm Table) page
            (stays (next_page pool) (spare.each (length pool - 1) (omega arith)).outside.0 ∙ of.spare (length pool - 1) (omega arith))
        | inr ne ↦
            let was = sym (new_links.others b b-slot ne) ∙ named in
            stays q (named-outside pages root leaves words tree b q b-slot was).0 ∙ of.linked b q b-slot was
      ];
      spare = λ k k-low.
          let under : k < length pool - 1 = omega (arith, short, k-low) in
          subst (λ p. get_or linked_words p 0 ≡ given tvm Table) (sym (get_or-take (length pool - 1) pool k 0 under))
          (stays (get_or pool k 0) (spare.each k (omega arith)).outside.0 ∙ of.spare k (omega arith));
    }

    one_linked : IsLinked pages harts hart old words linked_words tvm root leaves (take (length pool - 1) pool) a ((place, next_table (next_page pool)) ∷ [])
    one_linked = record {
      allowed = (slot_lawful pages words tvm root leaves pool tree of harts hart old a place (next_table (next_page pool)) (link-slot leaves a slot) at link_change, tt);
      tree = new_links.tree;
      pool_is = pool-none pages root leaves words a place pool tree slot at spare none some;
      of = given_again;
      page = next_page pool;
      links = new_links;
      words_stay = stays;
    }

  -- the slot is linked, or was so
  slot_linked : (a : Slot) → IsLinkSlot leaves a → StandsAt pages root words a (slot_place pages root words a) → (entry_at pages root words a ≡ 0 → 0 < length pool)
      → IsLinked pages harts hart old words (stored words (slot_stores pages root words pool a)) tvm root leaves (pool_after (entry_at pages root words a) pool) a (slot_stores pages root words pool a)
  slot_linked a slot at enough = go (entry_at pages root words a) refl
    where
      go : (entry : ℕ) → entry_at pages root words a ≡ entry
          → IsLinked pages harts hart old words (stored words (link_stores entry (slot_place pages root words a) pool)) tvm root leaves (pool_after entry pool) a (link_stores entry (slot_place pages root words a) pool)
      go zero e = one_linked a (slot_place pages root words a) slot at e (enough e)
      go (suc entry) e =
          let some : entry_at pages root words a ≢ 0 = λ none. let z = sym e ∙ none in omega arith in
          record {
            allowed = tt;
            tree = tree;
            pool_is = spare;
            of = of;
            page = entry_at pages root words a / 1024;
            links = links-some pages root leaves words a tree slot some;
            words_stay = λ p low. refl;
          }

-- what is known of them after the way to a slot was linked
pub record IsLinkedWay (pages harts hart : ℕ) (old words new : List ℕ) (tvm root leaves : ℕ) (left : List ℕ) (d n : ℕ) (ss : List (ℕ × ℕ)) : Type 0 where
  pub allowed : AllAllowed (IsLawful pages harts hart old) words ss
  pub tree : IsTree pages root leaves new
  pub pool_is : IsPool pages root new left
  pub of : AreGiven pages new tvm root left
  pub way : LinksWay pages root words new d n
  pub words_stay : (p : ℕ) → p < pages → get_or new p 0 ≡ get_or words p 0

module _ (pages harts hart : ℕ) (old words : List ℕ) (tvm root leaves : ℕ) (pool : List ℕ) (tree : IsTree pages root leaves words) (spare : IsPool pages root words pool) (of : AreGiven pages words tvm root pool) where
  abbrev WayTo : (d n : ℕ) → Type 0
  WayTo d n =
      IsLinkedWay pages harts hart old words (stored words (way_stores pages root words pool d n)) tvm root leaves (pool_left pages root words pool d n) d n
      (way_stores pages root words pool d n)

  -- one more table on the way
  module _ (d n : ℕ) (deep : suc d ≤ leaves) (low : n < slots_at (suc d)) (enough : tables_lacked pages root words (suc d) n 1 ≤ length pool) (above : WayTo d (n / 512)) where
    abbrev pub above_words : List ℕ
    above_words = stored words (way_stores pages root words pool d (n / 512))

    abbrev pub above_left : List ℕ
    above_left = pool_left pages root words pool d (n / 512)

    pub here_slot : IsLinkSlot leaves (At d (n / 512))
    here_slot = (deep, omega arith)

    pub here_same : entry_in pages root above_words d (n / 512) ≡ entry_in pages root words d (n / 512)
    here_same = way-itself pages root words above_words d (n / 512) here_slot.1 above.way

    pub here_stands : StandsAt pages root above_words (At d (n / 512)) (slot_place pages root above_words (At d (n / 512)))
    here_stands = way-stands pages root above_words d (n / 512) above.way.way

    abbrev pub here_stores : List (ℕ × ℕ)
    here_stores = slot_stores pages root above_words above_left (At d (n / 512))

    abbrev pub here_words : List ℕ
    here_words = stored above_words here_stores

    pub here : IsLinked pages harts hart old above_words here_words tvm root leaves (pool_after (entry_in pages root above_words d (n / 512)) above_left) (At d (n / 512)) here_stores
    here =
        slot_linked pages harts hart old above_words tvm root leaves above_left above.tree above.pool_is above.of (At d (n / 512)) here_slot here_stands
        (λ none. enough-here pages root words pool d n enough (sym here_same ∙ none))

    pub joined : stored words (way_stores pages root words pool (suc d) n) ≡ here_words
    joined = stored-append words (way_stores pages root words pool d (n / 512)) here_stores

    way_on : WayTo (suc d) n
    way_on =
        subst (λ ws. IsLinkedWay pages harts hart old words ws tvm root leaves (pool_left pages root words pool (suc d) n) (suc d) n (way_stores pages root words pool (suc d) n)) (sym joined)
        (subst (λ entry. IsLinkedWay pages harts hart old words here_words tvm root leaves (pool_after entry above_left) (suc d) n (way_stores pages root words pool (suc d) n)) here_same
        (record {
          allowed = allowed-append (IsLawful pages harts hart old) words (way_stores pages root words pool d (n / 512)) here_stores above.allowed here.allowed;
          tree = here.tree;
          pool_is = here.pool_is;
          of = here.of;
          way = way-next pages root leaves words above_words here_words d n here.page low above.way here.links;
          words_stay = λ p on. here.words_stay p on ∙ above.words_stay p on;
        }))

  pub way_linked : (d n : ℕ) → d ≤ leaves → n < slots_at d → tables_lacked pages root words d n 1 ≤ length pool → WayTo d n
  way_linked zero n deep low enough = record {
    allowed = tt;
    tree = tree;
    pool_is = spare;
    of = of;
    way = way-none pages root words n;
    words_stay = λ p on. refl;
  }
  way_linked (suc d) n deep low enough =
      way_on d n deep low enough (way_linked d (n / 512) (omega arith) (omega arith) (enough-above pages root words d n (length pool) enough))

behind_kept : (pages : ℕ) (words new : List ℕ) (tvm page : ℕ) (shared : Bool) → page < pages → ((p : ℕ) → p < pages → get_or new p 0 ≡ get_or words p 0) → IsBehindLeaf words tvm page shared → IsBehindLeaf new tvm page shared
behind_kept pages words new tvm page false below stay was = stay page below ∙ was
behind_kept pages words new tvm page true below stay was = (was.0, was.1, stay page below ∙ was.2)

-- a page is mapped that stands behind the leaf
pub map_is_lawful : MapIsLawful
map_is_lawful pages harts hart old words pool tvm root leaves g page shared low below tree spare of none enough behind =
    allowed-append (IsLawful pages harts hart old) words (way_stores pages root words pool leaves g) ((slot_place pages root linked (At leaves g), present page shared) ∷ []) way.allowed (
      slot_lawful pages linked tvm root leaves (pool_left pages root words pool leaves g) way.tree way.of harts hart old (At leaves g) (slot_place pages root linked (At leaves g)) (present page shared) low
          (way-stands pages root linked leaves g way.way.way)
          (Maps page shared (way-itself pages root words linked leaves g low way.way ∙ none) refl below (behind_kept pages words linked tvm page shared below way.words_stay behind)),
      tt,
    )
  where
    linked : List ℕ
    linked = stored words (way_stores pages root words pool leaves g)

    way : IsLinkedWay pages harts hart old words linked tvm root leaves (pool_left pages root words pool leaves g) leaves g (way_stores pages root words pool leaves g)
    way = way_linked pages harts hart old words tvm root leaves pool tree spare of leaves g (omega arith) low enough

-- ---- what the tables of the TVM are after the store of a leaf

leaf_given : (pages : ℕ) (words pool : List ℕ) (tvm root leaves g leaf place : ℕ) → g < slots_at leaves → IsLeaf leaf → IsTree pages root leaves words → IsPool pages root words pool → AreGiven pages words tvm root pool
    → StandsAt pages root words (At leaves g) place → AreGiven pages (set words place leaf) tvm root pool
leaf_given pages words pool tvm root leaves g leaf place low is tree spare of at = record {
  root_is = record {
    fits = tree.fits;
    roots = λ i i-low. let fits = tree.fits in stays (root + i) (omega arith) ∙ of.root_is.roots i i-low;
    least = λ p p-low e. let fits = tree.fits in of.root_is.least p p-low (sym (stays p (omega arith)) ∙ e);
  };
  linked = λ b q b-slot named.
      let was = sym (changes.1.links b (named-above pages root leaves (set words place leaf) changes.0.tree b q b-slot named)) ∙ named in
      stays q (named-outside pages root leaves words tree b q b-slot was).0 ∙ of.linked b q b-slot was;
  spare = λ k k-low. stays (get_or pool k 0) (spare.each k k-low).outside.0 ∙ of.spare k k-low;
}
  where
    changes : ChangesLeaf pages root leaves words (set words place leaf) g leaf × KeepsLinks pages root leaves words (set words place leaf)
    changes = leaf-changes pages root leaves words g leaf place tree low is at

    stays : (p : ℕ) → p < pages → get_or (set words place leaf) p 0 ≡ get_or words p 0
    stays p p-low =
        let past = slot_past pages words tvm root leaves pool tree of (At leaves g) place low at in
        get_or-set_other words place p leaf 0 (omega arith)

pub leaf_keeps_given : LeafKeepsGiven
leaf_keeps_given pages words pool tvm root leaves g leaf low is tree spare of some =
    leaf_given pages words pool tvm root leaves g leaf (slot_place pages root words (At leaves g)) low is tree spare of (some-stands pages root words (At leaves g) some)

pub map_keeps_given : MapKeepsGiven
map_keeps_given pages words pool tvm root leaves g page shared low small tree spare of enough =
    subst (λ ws. AreGiven pages ws tvm root (pool_left pages root words pool leaves g))
    (sym (stored-append words (way_stores pages root words pool leaves g) ((slot_place pages root linked (At leaves g), present page shared) ∷ [])))
    (leaf_given pages linked (pool_left pages root words pool leaves g) tvm root leaves g (present page shared) (slot_place pages root linked (At leaves g)) low (IsPresent page shared small refl)
    way.tree way.pool_is way.of (way-stands pages root linked leaves g way.way.way))
  where
    linked : List ℕ
    linked = stored words (way_stores pages root words pool leaves g)

    way : IsLinkedWay pages 0 0 words words linked tvm root leaves (pool_left pages root words pool leaves g) leaves g (way_stores pages root words pool leaves g)
    way = way_linked pages 0 0 words words tvm root leaves pool tree spare of leaves g (omega arith) low enough
