-- The tables of a TVM that a hart is inside stay owned by every lawful store.
use Rattle.std.proofs.Common.{◌≡◌, ◌≢◌, ℕ, zero, suc, ◌+◌, ◌-◌, ◌*◌, ◌/◌, ◌%◌, ◌^◌, ◌<◌, ◌≤◌, Bool, true, false, List, get_or, length, set, refl, sym, ap, subst, ◌∙◌, inl, inr, ◌⊎◌, arith, get_or-set_other, get_or-set_same}
use Rattle.std.proofs.lemmas.Bool.{cases_eq, cases_lt}
use Rattle.cove_base.proofs.SlotStores.{EntryMoves, entries-stay, entry-moves, under-empty}
use Rattle.cove_base.proofs.TreeLemmas.{entry-stands, places-apart}
use Rattle.cove_model.specs.Machine.{converting, given, host, all_words, table_word, Role, Root, Table, Vcpu, Data, AreOwned, IsBehindLeaf, IsLawful, ChangesPage, ChangesTable, Answers, Begins, FencesTvm, ChangesHart, PageChange, Counts, Converts, Frees, Gives, TakesBack, Removes, IsFreeIn, IsLeft, IsRoot, IsTableOf, LeafNames, TableChange, Links, Maps, Blocks, Unblocks, Unmaps, Rewrites, FreeStands, number_in}
use Rattle.cove_base.specs.TableWords.{blocked}
use Rattle.cove_base.specs.Tables.{Slot, At, IsSlot, Names, StandsAt, entry_at, next_table, present}
use Rattle.cove_base.specs.Tables.{ByBlocked, ByPresent}
use Rattle.cove_base.specs.declared.numbers.Role.TheVariants.{State}
use Rattle.cove_model.proofs.LeafWords.{blocked_named, blocked_next, given_host, given_number, given_role, next_named, none_named, present_named, present_next, role_small}
use Rattle.cove_model.specs.TableLaw.{StoresKeepOwned}

-- ---- where slots stand

-- the word of a slot stands in a page that is given to the TVM for its tables
pub record IsOwnPlace (pages : ℕ) (words : List ℕ) (tvm place : ℕ) : Type 0 where
  pub page : ℕ
  pub i : ℕ
  pub below : page < pages
  pub low : i < 512
  pub at : place ≡ table_word pages page i
  pub own : IsTableOf words tvm page

module _ (pages : ℕ) (words : List ℕ) (tvm root : ℕ) (owned : AreOwned pages words tvm root) where
  pub root_word : (n : ℕ) → n < 2048 → get_or words (root + n / 512) 0 ≡ given tvm Root
  root_word n low = owned.root_is.roots (n / 512) (omega arith)

  pub stands_in : (a : Slot) (place : ℕ) → IsSlot a → StandsAt pages root words a place → IsOwnPlace pages words tvm place
  stands_in (At zero n) place slot at = record {
    page = root + n / 512;
    i = n % 512;
    below = let fits = owned.root_is.fits in omega arith;
    low = omega arith;
    at = omega arith;
    own = inl (root_word n slot);
  }
  stands_in (At (suc d) n) place slot at =
      let table = owned.linked (At d (n / 512)) at.0 (omega arith) at.1 in
      record { page = at.0; i = n % 512; below = table.0; low = omega arith; at = at.2; own = inr table.1 }

  -- a table that a slot names is none of the root's pages
  pub table_outside : (a : Slot) (page : ℕ) → IsSlot a → entry_at pages root words a ≡ next_table page → (page < root) ⊎ (root + 4 ≤ page)
  table_outside a page slot named = elim (cases_lt page root) [
    | inl before ↦ inl before
    | inr from ↦ elim (cases_lt page (root + 4)) [
      | inr past ↦ inr past
      | inl within ↦
          let at : root + (page - root) ≡ page = omega arith in
          let is : given tvm Root ≡ given tvm Table = sym (owned.root_is.roots (page - root) (omega arith)) ∙ ap (λ p. get_or words p 0) at ∙ (owned.linked a page slot named).1 in
          absurd (omega arith)
    ]
  ]

  -- slots at one place are one
  pub slots_apart : (a b : Slot) (place : ℕ) → IsSlot a → IsSlot b → StandsAt pages root words a place → StandsAt pages root words b place → a ≡ b
  slots_apart = places-apart pages root words table_outside owned.apart

  -- ---- where every entry stays

  module _ (new : List ℕ) (same : (a : Slot) → IsSlot a → entry_at pages root new a ≡ entry_at pages root words a)
      (roots : (p : ℕ) → p < pages → get_or words p 0 ≡ given tvm Root → get_or new p 0 ≡ given tvm Root)
      (least : (p : ℕ) → p < root → get_or new p 0 ≢ given tvm Root)
      (tables : (p : ℕ) → p < pages → get_or words p 0 ≡ given tvm Table → get_or new p 0 ≡ given tvm Table)
      (behind : (a : Slot) (page : ℕ) (shared : Bool) → IsSlot a → page < pages → Names page shared (entry_at pages root words a) → IsBehindLeaf words tvm page shared → IsBehindLeaf new tvm page shared) where
    pub owned_again : AreOwned pages new tvm root
    owned_again = record {
      root_is = record {
        fits = owned.root_is.fits;
        roots = λ i low. let fits = owned.root_is.fits in roots (root + i) (omega arith) (owned.root_is.roots i low);
        least = least;
      };
      linked = λ a page slot named.
          let was = owned.linked a page slot (sym (same a slot) ∙ named) in
          (was.0, tables page was.0 was.1);
      apart = λ a b page sa sb na nb. owned.apart a b page sa sb (sym (same a sa) ∙ na) (sym (same b sb) ∙ nb);
      backed = λ a page shared slot small named.
          let leaf = subst (Names page shared) (same a slot) named in
          let was = owned.backed a page shared slot small leaf in
          (was.0, behind a page shared slot was.0 leaf was.1);
    }

  -- ---- a store of a page word

  module _ (place word : ℕ) (inside : place < pages)
      (no_root : get_or words place 0 ≢ given tvm Root) (new_root : word ≢ given tvm Root) (no_table : get_or words place 0 ≢ given tvm Table)
      (behind : (a : Slot) (shared : Bool) → IsSlot a → Names place shared (entry_at pages root words a) → IsBehindLeaf words tvm place shared → IsBehindLeaf (set words place word) tvm place shared) where
    abbrev stored : List ℕ
    stored = set words place word

    other_word : (p : ℕ) → p ≢ place → get_or stored p 0 ≡ get_or words p 0
    other_word p ne = get_or-set_other words place p word 0 ne

    keeps : (p w : ℕ) → get_or words place 0 ≢ w → get_or words p 0 ≡ w → get_or stored p 0 ≡ w
    keeps p w off is = other_word p (λ e. off (ap (λ q. get_or words q 0) (sym e) ∙ is)) ∙ is

    behind_other : (p : ℕ) (shared : Bool) → p ≢ place → IsBehindLeaf words tvm p shared → IsBehindLeaf stored tvm p shared
    behind_other p false ne was = other_word p ne ∙ was
    behind_other p true ne was = (was.0, was.1, other_word p ne ∙ was.2)

    pub page_stored : place < length words → AreOwned pages stored tvm root
    page_stored within =
        owned_again stored
        (entries-stay pages root words place word (λ a slot at. let own = stands_in a place slot at in let is : place ≡ table_word pages own.page own.i = own.at in omega arith))
        (λ p low is. keeps p (given tvm Root) no_root is)
        (λ p low is. elim (cases_eq p place) [
          | inl here ↦ new_root (sym (ap (λ q. get_or stored q 0) here ∙ get_or-set_same words place word 0 within) ∙ is)
          | inr off ↦ owned.root_is.least p low (sym (other_word p off) ∙ is)
        ])
        (λ p low is. keeps p (given tvm Table) no_table is)
        (λ a page shared slot on named was. elim (cases_eq page place) [
          | inl here ↦ subst (λ p. IsBehindLeaf stored tvm p shared) (sym here)
              (behind a shared slot (subst (λ p. Names p shared (entry_at pages root words a)) here named) (subst (λ p. IsBehindLeaf words tvm p shared) here was))
          | inr off ↦ behind_other page shared off was
        ])

  -- ---- a store of a word that is no page word

  module _ (place word : ℕ) (past : pages ≤ place) where
    abbrev stored_past : List ℕ
    stored_past = set words place word

    pub page_word_stays : (p : ℕ) → p < pages → get_or stored_past p 0 ≡ get_or words p 0
    page_word_stays p low = get_or-set_other words place p word 0 (omega arith)

    pub behind_stays : (page : ℕ) (shared : Bool) → page < pages → IsBehindLeaf words tvm page shared → IsBehindLeaf stored_past tvm page shared
    behind_stays page false low was = page_word_stays page low ∙ was
    behind_stays page true low was = (was.0, was.1, page_word_stays page low ∙ was.2)

    root_stays : IsRoot pages stored_past tvm root
    root_stays =
        let fits = owned.root_is.fits in
        record {
          fits = fits;
          roots = λ i low. page_word_stays (root + i) (omega arith) ∙ owned.root_is.roots i low;
          least = λ p low is. owned.root_is.least p low (sym (page_word_stays p (omega arith)) ∙ is);
        }

    -- where no slot stands there
    pub elsewhere_stored : ((a : Slot) → IsSlot a → StandsAt pages root words a place → ⊥) → AreOwned pages stored_past tvm root
    elsewhere_stored none =
        owned_again stored_past (entries-stay pages root words place word none)
        (λ p low is. page_word_stays p low ∙ is) (λ p low. root_stays.least p low) (λ p low is. page_word_stays p low ∙ is)
        (λ a page shared slot on named was. behind_stays page shared on was)

    -- A slot may stand there, and its entry becomes the word.
    module _ (moves : (a : Slot) → IsSlot a → EntryMoves pages root words place word a)
        (linked : (page : ℕ) → word ≡ next_table page → (page < pages) × (get_or words page 0 ≡ given tvm Table) × ((b : Slot) → IsSlot b → entry_at pages root words b ≢ next_table page))
        (backed : (a : Slot) (page : ℕ) (shared : Bool) → IsSlot a → page < 2 ^ 16 → StandsAt pages root words a place → Names page shared word → (page < pages) × IsBehindLeaf words tvm page shared) where
      new_linked : (a : Slot) (page : ℕ) → IsSlot a → entry_at pages root stored_past a ≡ next_table page → (page < pages) × (get_or stored_past page 0 ≡ given tvm Table)
      new_linked a page slot named = elim (moves a slot) [
        | inl same ↦ let was = owned.linked a page slot (sym same ∙ named) in (was.0, page_word_stays page was.0 ∙ was.1)
        | inr moved ↦ let new = linked page (sym moved.1 ∙ named) in (new.0, page_word_stays page new.0 ∙ new.1)
      ]

      new_apart : (a b : Slot) (page : ℕ) → IsSlot a → IsSlot b → entry_at pages root stored_past a ≡ next_table page → entry_at pages root stored_past b ≡ next_table page → a ≡ b
      new_apart a b page sa sb na nb = elim (moves a sa) [
        | inl same ↦ elim (moves b sb) [
          | inl also ↦ owned.apart a b page sa sb (sym same ∙ na) (sym also ∙ nb)
          | inr moved ↦ absurd ((linked page (sym moved.1 ∙ nb)).2 a sa (sym same ∙ na))
        ]
        | inr moved ↦ elim (moves b sb) [
          | inl also ↦ absurd ((linked page (sym moved.1 ∙ na)).2 b sb (sym also ∙ nb))
          | inr both ↦ slots_apart a b place sa sb moved.0 both.0
        ]
      ]

      new_backed : (a : Slot) (page : ℕ) (shared : Bool) → IsSlot a → page < 2 ^ 16 → Names page shared (entry_at pages root stored_past a) → (page < pages) × IsBehindLeaf stored_past tvm page shared
      new_backed a page shared slot small named = elim (moves a slot) [
        | inl same ↦ let was = owned.backed a page shared slot small (subst (Names page shared) same named) in (was.0, behind_stays page shared was.0 was.1)
        | inr moved ↦ let was = backed a page shared slot small moved.0 (subst (Names page shared) moved.1 named) in (was.0, behind_stays page shared was.0 was.1)
      ]

      pub slot_stored : AreOwned pages stored_past tvm root
      slot_stored = record { root_is = root_stays; linked = new_linked; apart = new_apart; backed = new_backed }

-- ---- the root by the words is one

pub one_root : (pages : ℕ) (words : List ℕ) (tvm a b : ℕ) → IsRoot pages words tvm a → IsRoot pages words tvm b → a ≡ b
one_root pages words tvm a b ra rb = elim (cases_lt a b) [
  | inl lt ↦ absurd (rb.least a lt (from_first ra))
  | inr le ↦ elim (cases_lt b a) [
    | inl lt ↦ absurd (ra.least b lt (from_first rb))
    | inr ge ↦ omega arith
  ]
]
  where
    from_first : {r : ℕ} → IsRoot pages words tvm r → get_or words r 0 ≡ given tvm Root
    from_first {r} is = let at : r + 0 ≡ r = omega arith in ap (λ p. get_or words p 0) (sym at) ∙ is.roots 0 (omega arith)

-- ---- every lawful store

pub free_given : {harts : ℕ} {numbers : ℕ → ℕ} (word t : ℕ) (role : Role) → FreeStands harts numbers word → word ≢ given t role
free_given word t role (inl is) e = let a = role_small role in omega arith
free_given word t role (inr pends) e = let a = role_small role in let is : word ≡ converting pends.0 = pends.1 in omega arith

free_host : {harts : ℕ} {numbers : ℕ → ℕ} (word maps : ℕ) → FreeStands harts numbers word → word ≢ host maps
free_host word maps (inl is) e = omega arith
free_host word maps (inr pends) e = let is : word ≡ converting pends.0 = pends.1 in omega arith

-- a page has words of the tables of one TVM alone
pub one_owner : (words : List ℕ) (u t p : ℕ) → IsTableOf words u p → IsTableOf words t p → u ≡ t
one_owner words u t p (inl a) (inl b) = given_number u t Root Root (sym a ∙ b)
one_owner words u t p (inl a) (inr b) = given_number u t Root Table (sym a ∙ b)
one_owner words u t p (inr a) (inl b) = given_number u t Table Root (sym a ∙ b)
one_owner words u t p (inr a) (inr b) = given_number u t Table Table (sym a ∙ b)

-- nothing stands behind a leaf at such a word
not_behind : (words : List ℕ) (tvm place : ℕ) (shared : Bool) → get_or words place 0 ≢ given tvm Data → ((maps : ℕ) → 0 < maps → get_or words place 0 ≢ host maps) → IsBehindLeaf words tvm place shared → ⊥
not_behind words tvm place false no_data no_maps was = no_data was
not_behind words tvm place true no_data no_maps was = no_maps was.0 was.1 was.2

-- ---- what a store in tables does to the entries of a TVM

-- no slot stands there, or one may, whose entry changes so
pub data Touches (pages harts : ℕ) (old words : List ℕ) (place word tvm root : ℕ) : Type 0 where
  Apart : ((a : Slot) → IsSlot a → StandsAt pages root words a place → ⊥) → Touches pages harts old words place word tvm root
  Within :
      TableChange pages harts words tvm old place (get_or words place 0) word
      → ((a : Slot) → IsSlot a → EntryMoves pages root words place word a)
      → Touches pages harts old words place word tvm root

module _ (pages harts : ℕ) (old words : List ℕ) (place word tvm root : ℕ) (size : length words ≡ all_words pages harts) (owned : AreOwned pages words tvm root) (not_left : IsLeft pages harts words tvm → ⊥) where
  abbrev Change : Type 0
  Change = TableChange pages harts words tvm old place (get_or words place 0) word

  low_apart : place < pages → (a : Slot) → IsSlot a → StandsAt pages root words a place → ⊥
  low_apart below a slot at =
      let own = stands_in pages words tvm root owned a place slot at in
      let is : place ≡ table_word pages own.page own.i = own.at in
      omega arith

  high_apart : 513 * pages ≤ place → (a : Slot) → IsSlot a → StandsAt pages root words a place → ⊥
  high_apart above a slot at =
      let own = stands_in pages words tvm root owned a place slot at in
      let is : place ≡ table_word pages own.page own.i = own.at in
      let b = own.below in
      let l = own.low in
      omega arith

  -- the leaf that is blocked is the one that was there
  now_blocked : (leaf : ℕ) → get_or words place 0 ≡ leaf → word ≡ blocked (get_or words place 0) (number_in pages harts words tvm) → word ≡ blocked leaf (number_in pages harts words tvm)
  now_blocked leaf was is = is ∙ ap (λ w. blocked w (number_in pages harts words tvm)) was

  -- no table is named there before
  pub no_longer : Change → (q : ℕ) → get_or words place 0 ≢ next_table q
  no_longer (Links p none is q-below q-given unnamed zeros) q named = let e = sym none ∙ named in absurd (omega arith)
  no_longer (Maps p s none is p-below behind) q named = let e = sym none ∙ named in absurd (omega arith)
  no_longer (Blocks p s r a p-small was is root_is slot stands before) q named = present_next p s q (sym was ∙ named)
  no_longer (Unblocks p s since p-small was is) q named = blocked_next p s since q (sym was ∙ named)
  no_longer (Unmaps p s since p-small was is fenced above) q named = blocked_next p s since q (sym was ∙ named)
  no_longer (Rewrites left) q named = not_left left

  -- a table that is named there then is given for tables, and no slot named it
  linked_then : Change → (q : ℕ) → word ≡ next_table q → (q < pages) × (get_or words q 0 ≡ given tvm Table) × ((b : Slot) → IsSlot b → entry_at pages root words b ≢ next_table q)
  linked_then (Links p none is p-below p-given unnamed zeros) q named =
      let same : q ≡ p = omega arith in
      subst (λ k. (k < pages) × (get_or words k 0 ≡ given tvm Table) × ((b : Slot) → IsSlot b → entry_at pages root words b ≢ next_table k)) (sym same) (p-below, p-given, λ b. unnamed root b owned.root_is)
  linked_then (Maps p s none is p-below behind) q named = absurd (present_next p s q (sym is ∙ named))
  linked_then (Blocks p s r a p-small was is root_is slot stands before) q named =
      absurd (blocked_next p s (number_in pages harts words tvm) q (sym (now_blocked (present p s) was is) ∙ named))
  linked_then (Unblocks p s since p-small was is) q named = absurd (present_next p s q (sym is ∙ named))
  linked_then (Unmaps p s since p-small was is fenced above) q named = let e = sym is ∙ named in absurd (omega arith)
  linked_then (Rewrites left) q named = absurd (not_left left)

  -- what an entry named before stands behind a leaf
  named_before : (a : Slot) (x : ℕ) (shared : Bool) (p : ℕ) (s : Bool) → IsSlot a → x < 2 ^ 16 → (x ≡ p) × (shared ≡ s) → Names p s (entry_at pages root words a) → (x < pages) × IsBehindLeaf words tvm x shared
  named_before a x shared p s slot x-low same leaf =
      owned.backed a x shared slot x-low
      (subst (λ t. Names x t (entry_at pages root words a)) (sym same.1) (subst (λ y. Names y s (entry_at pages root words a)) (sym same.0) leaf))

  -- and so does what is named there then
  backed_then : Change → (a : Slot) (x : ℕ) (shared : Bool) → IsSlot a → x < 2 ^ 16 → StandsAt pages root words a place → Names x shared word → (x < pages) × IsBehindLeaf words tvm x shared
  backed_then (Links q none is q-below q-given unnamed zeros) a x shared slot x-low here named = absurd (next_named x shared word q is named)
  backed_then (Maps p s none is p-below behind) a x shared slot x-low here named =
      let same = present_named x shared word p s is named in
      subst (λ y. (y < pages) × IsBehindLeaf words tvm y shared) (sym same.0) (p-below, subst (IsBehindLeaf words tvm p) (sym same.1) behind)
  backed_then (Blocks p s r b p-small was is root_is b-slot stands before) a x shared slot x-low here named =
      named_before a x shared p s slot x-low (blocked_named x shared word p s (number_in pages harts words tvm) x-low p-small (now_blocked (present p s) was is) named)
      (ByPresent (entry-stands pages root words a place here ∙ was))
  backed_then (Unblocks p s since p-small was is) a x shared slot x-low here named =
      named_before a x shared p s slot x-low (present_named x shared word p s is named) (ByBlocked since (entry-stands pages root words a place here ∙ was))
  backed_then (Unmaps p s since p-small was is fenced above) a x shared slot x-low here named = absurd (none_named x shared word is named)
  backed_then (Rewrites left) a x shared slot x-low here named = absurd (not_left left)

  touched_owned : pages ≤ place → Touches pages harts old words place word tvm root → AreOwned pages (set words place word) tvm root
  touched_owned past (Apart none) = elsewhere_stored pages words tvm root owned place word past none
  touched_owned past (Within change moves) = slot_stored pages words tvm root owned place word past moves (linked_then change) (backed_then change)

  module _ (page i : ℕ) (below : page < pages) (low : i < 512) (at : place ≡ table_word pages page i) where
    within : place < length words
    within = omega arith

    -- the page has words of the TVM's tables where a slot stands there
    own_page : (a : Slot) → IsSlot a → StandsAt pages root words a place → IsTableOf words tvm page
    own_page a slot stands =
        let own = stands_in pages words tvm root owned a place slot stands in
        let is : place ≡ table_word pages own.page own.i = own.at in
        let l = own.low in
        let same : own.page ≡ page = omega arith in
        subst (IsTableOf words tvm) same own.own

    -- no slot stands in a page that none names
    unnamed_apart : get_or words page 0 ≡ given tvm Table → ((a : Slot) → IsSlot a → entry_at pages root words a ≢ next_table page) → (a : Slot) → IsSlot a → StandsAt pages root words a place → ⊥
    unnamed_apart for_tables unnamed (At zero n) slot stands =
        let here : root + n / 512 ≡ page = omega arith in
        let is : given tvm Root ≡ given tvm Table = sym (root_word pages words tvm root owned n slot) ∙ ap (λ p. get_or words p 0) here ∙ for_tables in
        absurd (omega arith)
    unnamed_apart for_tables unnamed (At (suc d) n) slot stands =
        let there : place ≡ table_word pages stands.0 (n % 512) = stands.2 in
        let here : stands.0 ≡ page = omega arith in
        unnamed (At d (n / 512)) (omega arith) (stands.1 ∙ ap next_table here)

    -- a word that names no table in place of one that names none
    plain : Change → ((q : ℕ) → word ≢ next_table q) → Touches pages harts old words place word tvm root
    plain change is =
        Within change (entry-moves pages root words place word within (under-empty pages root words place word (no_longer change) (λ q j named j-low. absurd (is q named))))

    linked : Change → (q : ℕ) → word ≡ next_table q → ((j : ℕ) → j < 512 → get_or words (table_word pages q j) 0 ≡ 0) → Touches pages harts old words place word tvm root
    linked change q is zeros = elim (cases_eq page q) [
      | inl same ↦
          let then = linked_then change page (is ∙ ap next_table (sym same)) in
          Apart (unnamed_apart then.1 then.2)
      | inr off ↦ Within change
          (entry-moves pages root words place word within (under-empty pages root words place word (no_longer change)
          (λ p j named j-low.
          let p-is : p ≡ q = omega arith in
          (subst (λ k. get_or words (table_word pages k j) 0 ≡ 0) (sym p-is) (zeros j j-low), λ e. off (omega arith)))))
    ]

    own_touches : Change → Touches pages harts old words place word tvm root
    own_touches (Links q none is q-below q-given unnamed zeros) = linked (Links q none is q-below q-given unnamed zeros) q is zeros
    own_touches (Maps p s none is p-below behind) = plain (Maps p s none is p-below behind) (λ q named. present_next p s q (sym is ∙ named))
    own_touches (Blocks p s r a p-small was is root_is slot stands before) =
        plain (Blocks p s r a p-small was is root_is slot stands before)
        (λ q named. blocked_next p s (number_in pages harts words tvm) q (sym (now_blocked (present p s) was is) ∙ named))
    own_touches (Unblocks p s since p-small was is) = plain (Unblocks p s since p-small was is) (λ q named. present_next p s q (sym is ∙ named))
    own_touches (Unmaps p s since p-small was is fenced above) =
        plain (Unmaps p s since p-small was is fenced above) (λ q named. let e = sym is ∙ named in absurd (omega arith))
    own_touches (Rewrites left) = absurd (not_left left)

    pub table_touches : (u : ℕ) → IsTableOf words u page → TableChange pages harts words u old place (get_or words place 0) word → Touches pages harts old words place word tvm root
    table_touches u of change = elim (cases_eq u tvm) [
      | inl same ↦ own_touches (subst (λ t. TableChange pages harts words t old place (get_or words place 0) word) same change)
      | inr ne ↦ Apart (λ a slot stands. ne (one_owner words u tvm page of (own_page a slot stands)))
    ]

  pub lawful_touches : {hart : ℕ} → IsLawful pages harts hart old words place word → Touches pages harts old words place word tvm root
  lawful_touches (ChangesPage page is at change) = Apart (low_apart (omega arith))
  lawful_touches (ChangesTable u page i is under at of change) = table_touches page i is under at u of change
  lawful_touches (Answers is at new) = Apart (high_apart (omega arith))
  lawful_touches (Begins at room new all) = Apart (high_apart (omega arith))
  lawful_touches (FencesTvm u some few at room new all) = Apart (high_apart (omega arith))
  lawful_touches (ChangesHart is at change) = Apart (high_apart (omega arith))

  -- ---- page words

  module _ (page : ℕ) (inside : page < pages) where
    -- the page that a leaf of the TVM names is named
    named_by : (a : Slot) (shared : Bool) → IsSlot a → Names page shared (entry_at pages root words a) → LeafNames pages words tvm page
    named_by a shared slot named = (root, owned.root_is, (a, slot, (shared, named)))

    free_owned : IsFreeIn pages harts words page → word ≢ given tvm Root → AreOwned pages (set words page word) tvm root
    free_owned free new =
        page_stored pages words tvm root owned page word inside
        (free_given _ tvm Root free) new (free_given _ tvm Table free)
        (λ a shared slot named was. absurd (not_behind words tvm page shared (free_given _ tvm Data free) (λ maps some. free_host _ maps free) was))
        (omega arith)

    pub page_owned : PageChange pages harts old words page word → AreOwned pages (set words page word) tvm root
    page_owned (Counts before after was new few) =
        page_stored pages words tvm root owned page word inside
        (λ e. given_host tvm before Root (sym e ∙ was)) (λ e. given_host tvm after Root (sym e ∙ new)) (λ e. given_host tvm before Table (sym e ∙ was))
        (λ a shared slot named behind. counted after new shared behind (λ none. few none tvm (named_by a shared slot named)))
        (omega arith)
      where
        counted : (n : ℕ) → word ≡ host n → (shared : Bool) → IsBehindLeaf words tvm page shared → (n ≡ 0 → ⊥) → IsBehindLeaf (set words page word) tvm page shared
        counted n is false behind some = absurd (given_host tvm before Data (sym behind ∙ was))
        counted n is true behind some = (n, omega (arith, some), get_or-set_same words page word 0 (omega arith) ∙ is)
    page_owned (Converts then now new) =
        page_stored pages words tvm root owned page word inside
        (λ e. given_host tvm 0 Root (sym e ∙ now)) (λ e. let is = sym e ∙ new in absurd (omega arith)) (λ e. given_host tvm 0 Table (sym e ∙ now))
        (λ a shared slot named behind. absurd (not_behind words tvm page shared (λ e. given_host tvm 0 Data (sym e ∙ now)) (λ maps some e. let is = sym e ∙ now in absurd (omega arith)) behind))
        (omega arith)
    page_owned (Frees free new) = free_owned free (λ e. elim new [ inl is ↦ given_host tvm 0 Root (sym e ∙ is) | inr is ↦ let x = sym e ∙ is in absurd (omega arith) ])
    page_owned (Gives u role low high free new left) = free_owned free (λ e. as_root role left (sym new ∙ e))
      where
        as_root : (role : Role) → (role ≡ Root → IsLeft pages harts words u) → given u role ≡ given tvm Root → ⊥
        as_root Root left e = not_left (subst (IsLeft pages harts words) (given_number u tvm Root Root e) (left refl))
        as_root Table left e = absurd (omega (arith, given_role u tvm Table Root e))
        as_root Data left e = absurd (omega (arith, given_role u tvm Data Root e))
        as_root State left e = absurd (omega (arith, given_role u tvm State Root e))
        as_root Vcpu left e = absurd (omega (arith, given_role u tvm Vcpu Root e))
    page_owned (TakesBack u role was new left) =
        page_stored pages words tvm root owned page word inside
        (others Root) (λ e. let is = sym e ∙ new in absurd (omega arith)) (others Table)
        (λ a shared slot named behind. absurd (not_behind words tvm page shared (others Data) (λ maps some e. given_host u maps role (sym was ∙ e)) behind))
        (omega arith)
      where
        others : (r : Role) → get_or words page 0 ≢ given tvm r
        others r e = not_left (subst (IsLeft pages harts words) (given_number u tvm role r (sym was ∙ e)) left)
    page_owned (Removes u was new none) =
        page_stored pages words tvm root owned page word inside
        (λ e. absurd (omega (arith, given_role u tvm Data Root (sym was ∙ e)))) (λ e. let is = sym e ∙ new in absurd (omega arith))
        (λ e. absurd (omega (arith, given_role u tvm Data Table (sym was ∙ e))))
        (λ a shared slot named behind. absurd (not_behind words tvm page shared
        (λ e. none (subst (λ t. LeafNames pages words t page) (sym (given_number u tvm Data Data (sym was ∙ e))) (named_by a shared slot named)))
        (λ maps some e. given_host u maps Data (sym was ∙ e)) behind))
        (omega arith)

  -- ---- every lawful store

  pub owned_store : {hart : ℕ} → IsLawful pages harts hart old words place word → AreOwned pages (set words place word) tvm root
  owned_store (ChangesPage page is at change) = subst (λ p. AreOwned pages (set words p word) tvm root) (sym at) (page_owned page is change)
  owned_store (ChangesTable u page i is under at of change) = touched_owned (omega arith) (table_touches page i is under at u of change)
  owned_store (Answers is at new) = touched_owned (omega arith) (Apart (high_apart (omega arith)))
  owned_store (Begins at room new all) = touched_owned (omega arith) (Apart (high_apart (omega arith)))
  owned_store (FencesTvm u low high at room new all) = touched_owned (omega arith) (Apart (high_apart (omega arith)))
  owned_store (ChangesHart is at change) = touched_owned (omega arith) (Apart (high_apart (omega arith)))

pub stores_keep_owned : StoresKeepOwned
stores_keep_owned pages harts hart other old words place word tvm root small size on inside owned lawful =
    owned_store pages harts old words place word tvm root size owned (λ left. left other on inside) lawful
