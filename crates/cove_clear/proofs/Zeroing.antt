-- What is left of a TVM's tables after one of their words became 0, while it is destroyed.
use Rattle.std.proofs.Common.{◌≡◌, ◌≢◌, ℕ, ◌+◌, ◌*◌, ◌^◌, ◌<◌, ◌≤◌, ◌⊎◌, ◌∙◌, Bool, true, false, true≢false, eqb, eqb-true, eq-eqb, List, [], ◌∷◌, ◌++◌, get_or, length, length-set, set, refl, sym, ap, subst, inl, inr, arith, get_or-set_other, get_or-set_same}
use Rattle.std.proofs.lemmas.Bool.{cases_Bool, cases_eq, or_cases, or_left}
use Rattle.cove_base.proofs.SlotStores.{zero-moves}
use Rattle.cove_base.proofs.TableLemmas.{below-absent, below-named}
use Rattle.cove_base.proofs.TreeLemmas.{entry-stands, slot-cases}
use Rattle.cove_base.proofs.TreeStores.{OnlyAt, slot-store}
use Rattle.cove_model.specs.Machine.{given, hart_word, table_word, Table, Data, AreOwned, ChangesTable, IsLawful, IsRoot, IsTableOf, Rewrites, has}
use Rattle.cove_base.specs.Tables.{Slot, At, IsAbsent, IsLeaf, IsLink, NoTable, IsSlot, IsTree, Names, ByBlocked, ByPresent, StandsAt, below, entry_at, next_table}
use Rattle.cove_clear.specs.Clearing.{AreCounted, AreGathered, Clears, IsClearable}
use Rattle.cove_model.proofs.Distinct.{distinct_append, has_left, has_right}
use Rattle.cove_model.proofs.GuestStores.{zeros_keep_owned}
use Rattle.cove_model.proofs.LeafWords.{blocked_named, given_role, next_named, none_named, present_named}
use Rattle.cove_model.proofs.Members.{has_append}
use Rattle.cove_model.proofs.OwnedStores.{IsOwnPlace, stands_in}
use Rattle.cove_model.proofs.SharedLeaves.{stores_count_shared}
use Rattle.cove_model.specs.TableLaw.{shared_leaves, shared_once}

-- a leaf names one page
pub one_named : (p q : ℕ) (s r : Bool) (leaf : ℕ) → p < 2 ^ 16 → q < 2 ^ 16 → Names p s leaf → Names q r leaf → (p ≡ q) × (s ≡ r)
one_named p q s r leaf lp lq named (ByPresent is) = present_named p s leaf q r is named
one_named p q s r leaf lp lq named (ByBlocked since is) = blocked_named p s leaf q r since lp lq is named

pub one_has : (x p : ℕ) → has p (x ∷ []) ≡ true → x ≡ p
one_has x p e = elim (or_cases (eqb x p) (has p []) e) [
  | inl here ↦ eqb-true x p here
  | inr there ↦ absurd (true≢false (sym there))
]

has_one : (x p : ℕ) → x ≡ p → has p (x ∷ []) ≡ true
has_one x p e = or_left (eqb x p) (has p []) (eq-eqb x p e)

-- a page that is in neither part is not in both
has_none : (x p : ℕ) (pool : List ℕ) → has p pool ≡ false → (x ≡ p → ⊥) → has p (pool ++ x ∷ []) ≡ false
has_none x p pool out off = elim (cases_Bool (has p (pool ++ x ∷ []))) [
  | inl there ↦ elim (has_append p pool (x ∷ []) there) [
    | inl old ↦ absurd (true≢false (sym old ∙ out))
    | inr new ↦ absurd (off (one_has x p new))
  ]
  | inr none ↦ none
]

module _ (pages harts : ℕ) (words : List ℕ) (t root leaves : ℕ) (clearable : IsClearable pages harts words t root leaves) (a : Slot) (place : ℕ) (slot : IsSlot a)
    (at : StandsAt pages root words a place) where
  abbrev next : List ℕ
  next = set words place 0

  mine : AreOwned pages words t root
  mine = clearable.owned t root clearable.root_is

  own : IsOwnPlace pages words t place
  own = stands_in pages words t root mine a place slot at

  within : (pages ≤ place) × (place < 513 * pages)
  within =
      let under = own.below in
      let low = own.low in
      let is : place ≡ table_word pages own.page own.i = own.at in
      (omega arith, omega arith)

  fits : place < length words
  fits = let size = clearable.size in let high = within.1 in omega arith

  pub page_stays : (p : ℕ) → p < pages → get_or next p 0 ≡ get_or words p 0
  page_stays p low = let past = within.0 in get_or-set_other words place p 0 0 (omega arith)

  behind : (k : ℕ) → 513 * pages ≤ k → get_or next k 0 ≡ get_or words k 0
  behind k past = let high = within.1 in get_or-set_other words place k 0 0 (omega arith)

  -- the store is lawful
  pub zero_lawful : (hart : ℕ) (old : List ℕ) → IsLawful pages harts hart old words place 0
  zero_lawful hart old = ChangesTable t own.page own.i own.below own.low own.at own.own (Rewrites clearable.left)

  -- ---- an entry stays, or is 0

  moves : (r : ℕ) (b : Slot) → (entry_at pages r next b ≡ entry_at pages r words b) ⊎ (entry_at pages r next b ≡ 0)
  moves r b = zero-moves pages r words place fits b

  link_was : (r : ℕ) (b : Slot) (q : ℕ) → entry_at pages r next b ≡ next_table q → entry_at pages r words b ≡ next_table q
  link_was r b q named = elim (moves r b) [
    | inl same ↦ sym same ∙ named
    | inr gone ↦ let e = sym gone ∙ named in absurd (omega arith)
  ]

  name_was : (r : ℕ) (b : Slot) (p : ℕ) (s : Bool) → Names p s (entry_at pages r next b) → Names p s (entry_at pages r words b)
  name_was r b p s named = elim (moves r b) [
    | inl same ↦ subst (Names p s) same named
    | inr gone ↦ absurd (none_named p s (entry_at pages r next b) gone named)
  ]

  root_was : (u r : ℕ) → IsRoot pages next u r → IsRoot pages words u r
  root_was u r is = record {
    fits = is.fits;
    roots = λ i low. let fit = is.fits in sym (page_stays (r + i) (omega arith)) ∙ is.roots i low;
    least = λ p low e. let fit = is.fits in is.least p low (page_stays p (omega arith) ∙ e);
  }

  next_tree : IsTree pages root leaves next
  next_tree = record {
    fits = clearable.tree.fits;
    size = subst (λ n. 513 * pages ≤ n) (sym (length-set words place 0)) clearable.tree.size;
    links = λ b h. elim (moves root b) [
      | inl same ↦ subst (IsLink pages root) (sym same) (clearable.tree.links b h)
      | inr gone ↦ NoTable gone
    ];
    leaf = λ g h. elim (moves root (At leaves g)) [
      | inl same ↦ subst IsLeaf (sym same) (clearable.tree.leaf g h)
      | inr gone ↦ IsAbsent gone
    ];
    apart = λ b c q hb hc nb nc. clearable.tree.apart b c q hb hc (link_was root b q nb) (link_was root c q nc);
  }

  pub next_open : IsClearable pages harts next t root leaves
  next_open = record {
    few = clearable.few;
    size = length-set words place 0 ∙ clearable.size;
    left = λ hart on inside. clearable.left hart on (inside.0, (inside.1.0, sym (behind (hart_word pages harts hart) (omega arith)) ∙ inside.1.1));
    root_is = record {
      fits = clearable.root_is.fits;
      roots = λ i low. let fit = clearable.root_is.fits in page_stays (root + i) (omega arith) ∙ clearable.root_is.roots i low;
      least = λ p low e. let fit = clearable.root_is.fits in clearable.root_is.least p low (sym (page_stays p (omega arith)) ∙ e);
    };
    tree = next_tree;
    owned = λ u r is.
        subst (λ k. AreOwned pages (set words k 0) u r) (sym own.at)
        (zeros_keep_owned pages harts words own.page own.i u r clearable.size own.below own.low (clearable.owned u r (root_was u r is)));
    once = λ b c p hb hc on first second. clearable.once b c p hb hc on (name_was root b p false first) (name_was root c p false second);
  }

  pub next_clears : Clears pages words next t
  next_clears = record {
    size = length-set words place 0;
    tables = λ p i on low. elim (cases_eq (table_word pages p i) place) [
      | inl here ↦
          let is : place ≡ table_word pages own.page own.i = own.at in
          let small = own.low in
          let same : own.page ≡ p = omega arith in
          inr (subst (IsTableOf words t) same own.own, ap (λ k. get_or next k 0) here ∙ get_or-set_same words place 0 0 fits)
      | inr off ↦ inl (get_or-set_other words place (table_word pages p i) 0 0 off)
    ];
    page = λ p on. inl (page_stays p on);
    behind = λ k past. behind k past;
  }

  -- the leaves that share a page are as many less as the word did
  pub next_shares : (p : ℕ) → shared_leaves pages next p + shared_once p (entry_at pages root words a) ≡ shared_leaves pages words p
  next_shares p =
      let step = (stores_count_shared pages harts words p clearable.size).1 place 0 within.0 within.1 in
      let was : shared_once p (entry_at pages root words a) ≡ shared_once p (get_or words place 0) = ap (shared_once p) (entry-stands pages root words a place at) in
      let none : shared_once p 0 ≡ 0 = refl in
      omega arith

  -- ---- one entry goes, where nothing stands under it

  module _ (bare : (i : ℕ) → i < 512 → below pages words (entry_at pages root words a) i ≡ 0) where
    pub only : OnlyAt pages root words next a 0
    only =
        slot-store pages root leaves words place 0 a (record { tree = clearable.tree; slot = slot; at = at })
        (λ i low. below-absent pages next i ∙ sym (ap (λ k. below pages words k i) (sym (entry-stands pages root words a place at)) ∙ bare i low))

    module _ (pool : List ℕ) (gathered : AreGathered pages words t root pool) where
      zero_stays : (p i : ℕ) → get_or words (table_word pages p i) 0 ≡ 0 → get_or next (table_word pages p i) 0 ≡ 0
      zero_stays p i was = elim (cases_eq (table_word pages p i) place) [
        | inl here ↦ ap (λ k. get_or next k 0) here ∙ get_or-set_same words place 0 0 fits
        | inr off ↦ get_or-set_other words place (table_word pages p i) 0 0 off ∙ was
      ]

      own_stays : (p : ℕ) → has p pool ≡ true → (get_or next p 0 ≡ given t Table) ⊎ (get_or next p 0 ≡ given t Data)
      own_stays p there = elim (gathered.own p there) [
        | inl is ↦ inl (page_stays p (gathered.on_board p there) ∙ is)
        | inr is ↦ inr (page_stays p (gathered.on_board p there) ∙ is)
      ]

      -- ---- a shared leaf goes: no page is gathered

      module _ (q : ℕ) (small : q < 2 ^ 16) (names : Names q true (entry_at pages root words a)) where
        no_table : (p : ℕ) → entry_at pages root words a ≡ next_table p → ⊥
        no_table p e = next_named q true (entry_at pages root words a) p e names

        not_own : (p : ℕ) → p < pages → Names p false (entry_at pages root words a) → ⊥
        not_own p on named =
            let few = clearable.few in
            true≢false (sym (one_named p q false true (entry_at pages root words a) (omega arith) small named names).1)

        pub shared_gathered : AreGathered pages next t root pool
        shared_gathered = record {
          differ = gathered.differ;
          on_board = gathered.on_board;
          own = own_stays;
          empty = λ p i there is i-low. zero_stays p i (gathered.empty p i there (sym (page_stays p (gathered.on_board p there)) ∙ is) i-low);
          unlinked = λ b p h named. gathered.unlinked b p h (link_was root b p named);
          unmapped = λ b p h on named. gathered.unmapped b p h on (name_was root b p false named);
          tables = λ p on is. elim (gathered.tables p on (sym (page_stays p on) ∙ is)) [
            | inl there ↦ inl there
            | inr linked ↦
                let off : linked.0 ≢ a = λ e. no_table p (ap (entry_at pages root words) (sym e) ∙ linked.2) in
                inr (linked.0, linked.1, only.others linked.0 linked.1 off ∙ linked.2)
          ];
          memory = λ p on is. elim (gathered.memory p on (sym (page_stays p on) ∙ is)) [
            | inl there ↦ inl there
            | inr mapped ↦
                let off : mapped.0 ≢ a = λ e. not_own p on (subst (λ b. Names p false (entry_at pages root words b)) e mapped.2) in
                inr (mapped.0, mapped.1, subst (Names p false) (sym (only.others mapped.0 mapped.1 off)) mapped.2)
          ];
        }

      -- ---- a table or a page of memory goes: it is gathered

      module _ (x : ℕ) (on : x < pages) (taken : (entry_at pages root words a ≡ next_table x) ⊎ Names x false (entry_at pages root words a)) where
        x-small : x < 2 ^ 16
        x-small = let few = clearable.few in omega arith

        -- its word
        linked_word : (b : Slot) → IsSlot b → entry_at pages root words b ≡ next_table x → get_or words x 0 ≡ given t Table
        linked_word b h named = (mine.linked b x h named).1

        mapped_word : (b : Slot) → IsSlot b → Names x false (entry_at pages root words b) → get_or words x 0 ≡ given t Data
        mapped_word b h named = (mine.backed b x false h x-small named).1

        not_both : get_or words x 0 ≡ given t Table → get_or words x 0 ≡ given t Data → ⊥
        not_both table is = absurd (omega (arith, given_role t t Table Data (sym table ∙ is)))

        fresh : has x pool ≡ false
        fresh = elim taken [
          | inl link ↦ gathered.unlinked a x slot link
          | inr leaf ↦ gathered.unmapped a x slot on leaf
        ]

        x_word : (get_or next x 0 ≡ given t Table) ⊎ (get_or next x 0 ≡ given t Data)
        x_word = elim taken [
          | inl link ↦ inl (page_stays x on ∙ linked_word a slot link)
          | inr leaf ↦ inr (page_stays x on ∙ mapped_word a slot leaf)
        ]

        x_empty : (i : ℕ) → i < 512 → get_or words x 0 ≡ given t Table → get_or words (table_word pages x i) 0 ≡ 0
        x_empty i low is = elim taken [
          | inl link ↦ sym (below-named pages words (entry_at pages root words a) x i link) ∙ bare i low
          | inr leaf ↦ absurd (not_both is (mapped_word a slot leaf))
        ]

        -- no entry that is left names it
        no_link : (b : Slot) → IsSlot b → entry_at pages root next b ≡ next_table x → ⊥
        no_link b h named = elim taken [
          | inl link ↦
              let same = clearable.tree.apart b a x h slot (link_was root b x named) link in
              let none : 0 ≡ next_table x = sym (ap (entry_at pages root next) same ∙ only.here) ∙ named in
              omega arith
          | inr leaf ↦ not_both (linked_word b h (link_was root b x named)) (mapped_word a slot leaf)
        ]

        no_leaf : (b : Slot) → IsSlot b → Names x false (entry_at pages root next b) → ⊥
        no_leaf b h named = elim taken [
          | inl link ↦ not_both (linked_word a slot link) (mapped_word b h (name_was root b x false named))
          | inr leaf ↦
              let same = clearable.once b a x h slot on (name_was root b x false named) leaf in
              none_named x false (entry_at pages root next b) (ap (entry_at pages root next) same ∙ only.here) named
        ]

        abbrev more : List ℕ
        more = pool ++ x ∷ []

        x_there : (p : ℕ) → x ≡ p → has p more ≡ true
        x_there p e = has_right p pool (x ∷ []) (has_one x p e)

        tables_left : (p : ℕ) (b : Slot) → IsSlot b → entry_at pages root words b ≡ next_table p
            → (has p more ≡ true) ⊎ ((c : Slot) × IsSlot c × (entry_at pages root next c ≡ next_table p))
        tables_left p b h named = elim (slot-cases b a) [
          | inr off ↦ inr (b, h, only.others b h off ∙ named)
          | inl same ↦
              let here : entry_at pages root words a ≡ next_table p = ap (entry_at pages root words) (sym same) ∙ named in
              elim taken [
                | inl link ↦ let both : next_table x ≡ next_table p = sym link ∙ here in inl (x_there p (omega arith))
                | inr leaf ↦ absurd (next_named x false (entry_at pages root words a) p here leaf)
              ]
        ]

        memory_left : (p : ℕ) (b : Slot) → p < pages → IsSlot b → Names p false (entry_at pages root words b)
            → (has p more ≡ true) ⊎ ((c : Slot) × IsSlot c × Names p false (entry_at pages root next c))
        memory_left p b p-on h named = elim (slot-cases b a) [
          | inr off ↦ inr (b, h, subst (Names p false) (sym (only.others b h off)) named)
          | inl same ↦
              let few = clearable.few in
              let here = subst (λ c. Names p false (entry_at pages root words c)) same named in
              elim taken [
                | inl link ↦ absurd (next_named p false (entry_at pages root words a) x link here)
                | inr leaf ↦ inl (x_there p (one_named x p false false (entry_at pages root words a) x-small (omega arith) leaf here).0)
              ]
        ]

        pub taken_gathered : AreGathered pages next t root (pool ++ x ∷ [])
        taken_gathered = record {
          differ = distinct_append pool (x ∷ []) gathered.differ (refl, tt) (λ k e. subst (λ n. has n pool ≡ false) (one_has x k e) fresh);
          on_board = λ p there. elim (has_append p pool (x ∷ []) there) [
            | inl old ↦ gathered.on_board p old
            | inr new ↦ subst (λ n. n < pages) (one_has x p new) on
          ];
          own = λ p there. elim (has_append p pool (x ∷ []) there) [
            | inl old ↦ own_stays p old
            | inr new ↦ subst (λ n. (get_or next n 0 ≡ given t Table) ⊎ (get_or next n 0 ≡ given t Data)) (one_has x p new) x_word
          ];
          empty = λ p i there is low. elim (has_append p pool (x ∷ []) there) [
            | inl old ↦ zero_stays p i (gathered.empty p i old (sym (page_stays p (gathered.on_board p old)) ∙ is) low)
            | inr new ↦
                let same = one_has x p new in
                let was : get_or words x 0 ≡ given t Table = sym (page_stays x on) ∙ ap (λ n. get_or next n 0) same ∙ is in
                zero_stays p i (subst (λ n. get_or words (table_word pages n i) 0 ≡ 0) same (x_empty i low was))
          ];
          unlinked = λ b p h named.
              has_none x p pool (gathered.unlinked b p h (link_was root b p named))
              (λ same. no_link b h (named ∙ ap next_table (sym same)));
          unmapped = λ b p h p-on named.
              has_none x p pool (gathered.unmapped b p h p-on (name_was root b p false named))
              (λ same. no_leaf b h (subst (λ n. Names n false (entry_at pages root next b)) (sym same) named));
          tables = λ p p-on is. elim (gathered.tables p p-on (sym (page_stays p p-on) ∙ is)) [
            | inl there ↦ inl (has_left p pool (x ∷ []) there)
            | inr linked ↦ tables_left p linked.0 linked.1 linked.2
          ];
          memory = λ p p-on is. elim (gathered.memory p p-on (sym (page_stays p p-on) ∙ is)) [
            | inl there ↦ inl (has_left p pool (x ∷ []) there)
            | inr mapped ↦ memory_left p mapped.0 p-on mapped.1 mapped.2
          ];
        }

  -- counts stay where the word shared no page
  pub counts_stay : ((p : ℕ) → shared_once p (entry_at pages root words a) ≡ 0) → AreCounted pages words → AreCounted pages next
  counts_stay plain counted p maps on is =
      let was = counted p maps on (sym (page_stays p on) ∙ is) in
      let less = next_shares p in
      let none = plain p in
      omega arith
