-- Where the stores of a mapping stand, and what they leave: every word that is none of the TVM's tables, the count of leaves
-- that name a page as shared, and each page of the pool, which is there still or serves a slot.
use Rattle.std.proofs.Common.{◌≡◌, ◌≢◌, ℕ, zero, suc, ◌+◌, ◌-◌, ◌/◌, ◌^◌, ◌<◌, ◌≤◌, ◌⊎◌, Bool, true, false, List, [], ◌∷◌, Contains, get_or, length, set, refl, sym, ap, subst, ◌∙◌, inl, inr, arith, get_or-set_other, length-set}
use Rattle.std.proofs.lemmas.Bool.{cases_eq, eq-eqb, ne_eqb}
use Rattle.std.proofs.lemmas.List.{get_or-take, get_or_default, length-take-le}
use Rattle.cove_base.proofs.StoreLemmas.{length-stored, stored-append}
use Rattle.cove_base.proofs.TreeLemmas.{entry-stands, named-above}
use Rattle.cove_model.specs.Machine.{all_words, table_word, AllAllowed, stored}
use Rattle.cove_base.specs.Tables.{Slot, At, IsPresent, IsLinkSlot, IsPool, IsSlot, IsTree, StandsAt, entry_at, leaf_at, next_table, present, slots_at}
use Rattle.cove_model.proofs.OwnedStores.{IsOwnPlace}
use Rattle.cove_model.proofs.SharedLeaves.{stores_count_shared}
use Rattle.cove_model.specs.TableLaw.{shared_leaves, shared_once}
use Rattle.cove_stage2.proofs.LackedLemmas.{enough-above}
use Rattle.cove_stage2.proofs.LawfulLemmas.{IsLinkedWay, allowed-append, given_in, here, here_same, here_stands, joined, way_linked}
use Rattle.cove_stage2.proofs.LeafLemmas.{leaf-changes, way-stands}
use Rattle.cove_stage2.proofs.LinkLemmas.{link-keeps, links-none, next-some, way-itself}
use Rattle.cove_stage2.proofs.SharedWords.{is_shared, not_shared, once_is}
use Rattle.cove_stage2.specs.Changes.{slot_place}
use Rattle.cove_stage2.specs.Lacked.{tables_lacked}
use Rattle.cove_stage2.specs.LawfulTables.{AreGiven}
use Rattle.cove_stage2.specs.MapStores.{link_stores, map_stores, next_page, pool_after, pool_left, slot_stores, way_stores}

-- ---- which words are leaves that name a page as shared

-- no link, and no private leaf
pub link_unshared : (q page : ℕ) → shared_once q (next_table page) ≡ 0
link_unshared q page = once_is q (next_table page) false (not_shared q (next_table page) 1 (omega arith) refl)

pub private_unshared : (q page : ℕ) → shared_once q (present page false) ≡ 0
private_unshared q page = once_is q (present page false) false (not_shared q (present page false) 223 (omega arith) refl)

-- a shared leaf names its page alone
pub shared_same : (q page : ℕ) → page < 2 ^ 16 → page ≡ q → shared_once q (present page true) ≡ 1
shared_same q page small is =
    once_is q (present page true) true (is_shared q page (present page true) 215 (omega arith) refl (omega arith) ∙ eq-eqb page q is)

pub shared_other : (q page : ℕ) → page < 2 ^ 16 → page ≢ q → shared_once q (present page true) ≡ 0
shared_other q page small off =
    once_is q (present page true) false (is_shared q page (present page true) 215 (omega arith) refl (omega arith) ∙ ne_eqb page q off)

zero_unshared : (q : ℕ) → shared_once q 0 ≡ 0
zero_unshared q = once_is q 0 false refl

-- ---- stores that link tables

-- a store in an empty word of a TVM's tables, of an entry that names a table
record IsOwnLink (pages : ℕ) (start : List ℕ) (tvm : ℕ) (words : List ℕ) (place word : ℕ) : Type 0 where
  own : IsOwnPlace pages start tvm place
  empty : get_or words place 0 ≡ 0
  page : ℕ
  names : word ≡ next_table page

module _ (pages : ℕ) (start : List ℕ) (tvm : ℕ) where
  elsewhere_links : (words : List ℕ) (ss : List (ℕ × ℕ)) → AllAllowed (IsOwnLink pages start tvm) words ss → (place : ℕ) → (IsOwnPlace pages start tvm place → ⊥)
      → get_or (stored words ss) place 0 ≡ get_or words place 0
  elsewhere_links words [] all place off = refl
  elsewhere_links words (s ∷ ss) all place off =
      elsewhere_links (set words s.0 s.1) ss all.1 place off
      ∙ get_or-set_other words s.0 place s.1 0 (λ e. off (subst (IsOwnPlace pages start tvm) (sym e) all.0.own))

  -- a store of a table word counts by what it writes
  count_store : (harts : ℕ) (words : List ℕ) (place word q : ℕ) → length words ≡ all_words pages harts → IsOwnPlace pages start tvm place → get_or words place 0 ≡ 0
      → shared_leaves pages (set words place word) q ≡ shared_leaves pages words q + shared_once q word
  count_store harts words place word q size own empty =
      let below = own.below in
      let low = own.low in
      let is : place ≡ table_word pages own.page own.i = own.at in
      let counts = (stores_count_shared pages harts words q size).1 place word (omega arith) (omega arith) in
      let was : shared_once q (get_or words place 0) ≡ 0 = ap (shared_once q) empty ∙ zero_unshared q in
      omega (arith, counts, was)

  count_links : (harts : ℕ) (words : List ℕ) (ss : List (ℕ × ℕ)) (q : ℕ) → length words ≡ all_words pages harts → AllAllowed (IsOwnLink pages start tvm) words ss
      → shared_leaves pages (stored words ss) q ≡ shared_leaves pages words q
  count_links harts words [] q size all = refl
  count_links harts words (s ∷ ss) q size all =
      let one = count_store harts words s.0 s.1 q size all.0.own all.0.empty in
      let link : shared_once q s.1 ≡ 0 = ap (shared_once q) all.0.names ∙ link_unshared q all.0.page in
      let rest = count_links harts (set words s.0 s.1) ss q (length-set words s.0 s.1 ∙ size) all.1 in
      omega (arith, one, link, rest)

-- a word of the TVM's tables is one where page words stay
own_again : (pages : ℕ) (words new : List ℕ) (tvm place : ℕ) → ((p : ℕ) → p < pages → get_or new p 0 ≡ get_or words p 0) → IsOwnPlace pages new tvm place → IsOwnPlace pages words tvm place
own_again pages words new tvm place stay own = record {
  page = own.page;
  i = own.i;
  below = own.below;
  low = own.low;
  at = own.at;
  own = elim own.own [ inl is ↦ inl (sym (stay own.page own.below) ∙ is) | inr is ↦ inr (sym (stay own.page own.below) ∙ is) ];
}

-- what links the table of a slot
one_link : (pages : ℕ) (start words : List ℕ) (tvm root leaves : ℕ) (pool : List ℕ) (a : Slot) → IsTree pages root leaves words → AreGiven pages words tvm root pool → IsSlot a
    → ((p : ℕ) → p < pages → get_or words p 0 ≡ get_or start p 0) → StandsAt pages root words a (slot_place pages root words a)
    → AllAllowed (IsOwnLink pages start tvm) words (slot_stores pages root words pool a)
one_link pages start words tvm root leaves pool a tree of slot stay at = go (entry_at pages root words a) refl
  where
    go : (entry : ℕ) → entry_at pages root words a ≡ entry → AllAllowed (IsOwnLink pages start tvm) words (link_stores entry (slot_place pages root words a) pool)
    go zero e = (
      record {
        own = own_again pages start words tvm (slot_place pages root words a) stay (given_in pages words tvm root leaves pool tree of a (slot_place pages root words a) slot at);
        empty = sym (entry-stands pages root words a (slot_place pages root words a) at) ∙ e;
        page = next_page pool;
        names = refl;
      },
      tt,
    )
    go (suc entry) e = tt

-- a page of the pool stays there, or serves the slot
still_found : (pages root leaves : ℕ) (words pool : List ℕ) (a : Slot) (page : ℕ) → IsTree pages root leaves words → IsPool pages root words pool → IsLinkSlot leaves a
    → StandsAt pages root words a (slot_place pages root words a) → Contains pool page
    → Contains (pool_after (entry_at pages root words a) pool) page ⊎ (entry_at pages root (stored words (slot_stores pages root words pool a)) a ≡ next_table page)
still_found pages root leaves words pool a page tree spare slot at there = go (entry_at pages root words a) refl
  where
    is : get_or pool there.0 0 ≡ page
    is = get_or_default pool there.0 0 page there.1 ∙ there.2

    go : (entry : ℕ) → entry_at pages root words a ≡ entry
        → Contains (pool_after entry pool) page ⊎ (entry_at pages root (stored words (link_stores entry (slot_place pages root words a) pool)) a ≡ next_table page)
    go zero e =
        let low = there.1 in
        let short = length-take-le (length pool - 1) pool (omega arith) in
        elim (cases_eq there.0 (length pool - 1)) [
          | inl last ↦ inr
              ((links-none pages root leaves words a (slot_place pages root words a) pool tree slot at spare e (omega arith)).named
              ∙ ap next_table (ap (λ k. get_or pool k 0) (sym last) ∙ is))
          | inr off ↦ inl (there.0, omega (arith, low, short, off), get_or-take (length pool - 1) pool there.0 page (omega (arith, low, off)) ∙ there.2)
        ]
    go (suc entry) e = inl there

-- ---- a mapping

-- what a mapping leaves beside its tree
pub record MapLeaves (pages harts root tvm : ℕ) (words new pool left : List ℕ) (leaf : ℕ) : Type 0 where
  pub elsewhere : (place : ℕ) → (IsOwnPlace pages words tvm place → ⊥) → get_or new place 0 ≡ get_or words place 0
  pub counted : (q : ℕ) → length words ≡ all_words pages harts → shared_leaves pages new q ≡ shared_leaves pages words q + shared_once q leaf
  pub found : (p : ℕ) → Contains pool p → Contains left p ⊎ ((a : Slot) × IsSlot a × (entry_at pages root new a ≡ next_table p))

module _ (pages : ℕ) (words pool : List ℕ) (tvm root leaves : ℕ) (tree : IsTree pages root leaves words) (spare : IsPool pages root words pool) (of : AreGiven pages words tvm root pool) where
  abbrev WayTo : (d n : ℕ) → Type 0
  WayTo d n =
      IsLinkedWay pages 0 0 words words (stored words (way_stores pages root words pool d n)) tvm root leaves (pool_left pages root words pool d n) d n
      (way_stores pages root words pool d n)

  -- what the links on the way to a slot leave
  record WayLeaves (d n : ℕ) : Type 0 where
    own : AllAllowed (IsOwnLink pages words tvm) words (way_stores pages root words pool d n)
    found :
        (p : ℕ) → Contains pool p
        → Contains (pool_left pages root words pool d n) p
        ⊎ ((a : Slot) × IsSlot a × (entry_at pages root (stored words (way_stores pages root words pool d n)) a ≡ next_table p))

  module _ (d n : ℕ) (deep : suc d ≤ leaves) (low : n < slots_at (suc d)) (enough : tables_lacked pages root words (suc d) n 1 ≤ length pool) (above : WayTo d (n / 512))
      (leaves_above : WayLeaves d (n / 512)) where
    abbrev mid : List ℕ
    mid = stored words (way_stores pages root words pool d (n / 512))

    abbrev left : List ℕ
    left = pool_left pages root words pool d (n / 512)

    stands : StandsAt pages root mid (At d (n / 512)) (slot_place pages root mid (At d (n / 512)))
    stands = here_stands pages 0 0 words words tvm root leaves pool tree spare of d n deep low enough above

    abbrev stores : List (ℕ × ℕ)
    stores = slot_stores pages root mid left (At d (n / 512))

    abbrev linked : List ℕ
    linked = stored mid stores

    found_on : (p : ℕ) → Contains pool p
        → Contains (pool_after (entry_at pages root mid (At d (n / 512))) left) p ⊎ ((b : Slot) × IsSlot b × (entry_at pages root linked b ≡ next_table p))
    found_on p there = elim (leaves_above.found p there) [
      | inl still ↦ elim (still_found pages root leaves mid left (At d (n / 512)) p above.tree above.pool_is (deep, omega arith) stands still) [
        | inl left_there ↦ inl left_there
        | inr named ↦ inr (At d (n / 512), omega arith, named)
      ]
      | inr (b, slot, named) ↦
          let one = here pages 0 0 words words tvm root leaves pool tree spare of d n deep low enough above in
          inr (b, slot, link-keeps pages root leaves mid linked (At d (n / 512)) one.page one.links b slot (next-some (entry_at pages root mid b) p named) ∙ named)
    ]

    leaves_on : WayLeaves (suc d) n
    leaves_on = record {
      own = allowed-append (IsOwnLink pages words tvm) words (way_stores pages root words pool d (n / 512)) stores leaves_above.own
          (one_link pages words mid tvm root leaves left (At d (n / 512)) above.tree above.of (omega arith) above.words_stay stands);
      found = λ p there.
          subst (λ ws. Contains (pool_left pages root words pool (suc d) n) p ⊎ ((b : Slot) × IsSlot b × (entry_at pages root ws b ≡ next_table p)))
          (sym (joined pages 0 0 words words tvm root leaves pool tree spare of d n deep low enough above))
          (subst (λ entry. Contains (pool_after entry left) p ⊎ ((b : Slot) × IsSlot b × (entry_at pages root linked b ≡ next_table p)))
          (here_same pages 0 0 words words tvm root leaves pool tree spare of d n deep low enough above) (found_on p there));
    }

  way_leaves : (d n : ℕ) → d ≤ leaves → n < slots_at d → tables_lacked pages root words d n 1 ≤ length pool → WayLeaves d n
  way_leaves zero n deep low enough = record { own = tt; found = λ p there. inl there }
  way_leaves (suc d) n deep low enough =
      let fits = enough-above pages root words d n (length pool) enough in
      leaves_on d n deep low enough (way_linked pages 0 0 words words tvm root leaves pool tree spare of d (n / 512) (omega arith) (omega arith) fits)
      (way_leaves d (n / 512) (omega arith) (omega arith) fits)

module _ (pages : ℕ) (words pool : List ℕ) (tvm root leaves g : ℕ) (low : g < slots_at leaves) (tree : IsTree pages root leaves words) (spare : IsPool pages root words pool) (of : AreGiven pages words tvm root pool)
    (enough : tables_lacked pages root words leaves g 1 ≤ length pool) where
  abbrev last : List ℕ
  last = stored words (way_stores pages root words pool leaves g)

  way : IsLinkedWay pages 0 0 words words last tvm root leaves (pool_left pages root words pool leaves g) leaves g (way_stores pages root words pool leaves g)
  way = way_linked pages 0 0 words words tvm root leaves pool tree spare of leaves g (omega arith) low enough

  links : WayLeaves pages words pool tvm root leaves tree spare of leaves g
  links = way_leaves pages words pool tvm root leaves tree spare of leaves g (omega arith) low enough

  module _ (page : ℕ) (shared : Bool) (small : page < 2 ^ 16) (none : leaf_at pages root leaves words g ≡ 0) where
    abbrev leaf_place : ℕ
    leaf_place = slot_place pages root last (At leaves g)

    leaf_stands : StandsAt pages root last (At leaves g) leaf_place
    leaf_stands = way-stands pages root last leaves g way.way.way

    leaf_own : IsOwnPlace pages words tvm leaf_place
    leaf_own =
        own_again pages words last tvm leaf_place way.words_stay
        (given_in pages last tvm root leaves (pool_left pages root words pool leaves g) way.tree way.of (At leaves g) leaf_place low leaf_stands)

    leaf_empty : get_or last leaf_place 0 ≡ 0
    leaf_empty = sym (entry-stands pages root last (At leaves g) leaf_place leaf_stands) ∙ way-itself pages root words last leaves g low way.way ∙ none

    abbrev done : List ℕ
    done = set last leaf_place (present page shared)

    done_is : stored words (map_stores pages root leaves words pool g (present page shared)) ≡ done
    done_is = stored-append words (way_stores pages root words pool leaves g) ((leaf_place, present page shared) ∷ [])

    found_again : (p : ℕ) → Contains pool p
        → Contains (pool_left pages root words pool leaves g) p ⊎ ((a : Slot) × IsSlot a × (entry_at pages root done a ≡ next_table p))
    found_again p there = elim (links.found p there) [
      | inl still ↦ inl still
      | inr (a, slot, named) ↦
          let kept = (leaf-changes pages root leaves last g (present page shared) leaf_place way.tree low (IsPresent page shared small refl) leaf_stands).1 in
          inr (a, slot, kept.links a (named-above pages root leaves last way.tree a p slot named) ∙ named)
    ]

    -- what the mapping leaves
    pub map_leaves : (harts : ℕ)
        → MapLeaves pages harts root tvm words (stored words (map_stores pages root leaves words pool g (present page shared))) pool (pool_left pages root words pool leaves g) (present page shared)
    map_leaves harts = subst (λ ws. MapLeaves pages harts root tvm words ws pool (pool_left pages root words pool leaves g) (present page shared)) (sym done_is) (record {
      elsewhere = λ place off.
          get_or-set_other last leaf_place place (present page shared) 0 (λ e. off (subst (IsOwnPlace pages words tvm) (sym e) leaf_own))
          ∙ elsewhere_links pages words tvm words (way_stores pages root words pool leaves g) links.own place off;
      counted = λ q size.
          count_store pages words tvm harts last leaf_place (present page shared) q (length-stored words (way_stores pages root words pool leaves g) ∙ size) leaf_own leaf_empty
          ∙ ap (λ n. n + shared_once q (present page shared)) (count_links pages words tvm harts words (way_stores pages root words pool leaves g) q size links.own);
      found = found_again;
    })
