-- The steps by which a TVM that is being destroyed goes.
use Rattle.std.proofs.Common.{◌≡◌, ◌≢◌, ℕ, zero, suc, ◌+◌, ◌-◌, ◌*◌, ◌/◌, ◌%◌, ◌^◌, ◌<◌, ◌≤◌, ◌∙◌, ◌⊎◌, Bool, true, false, cond, eqb, eq-eqb, List, [], ◌∷◌, ◌++◌, get_or, length, length-append, length-set, set, refl, sym, ap, subst, inl, inr, arith, get_or-set_other, get_or-set_same}
use Rattle.std.proofs.lemmas.Bool.{cases_eq, ne_eqb}
use Rattle.cove_base.proofs.TableLemmas.{below-named, below-none, leaf≢table}
use Rattle.cove_base.proofs.TreeLemmas.{entry-stands, slot-depth, stands-within}
use Rattle.cove_model.specs.Machine.{given, host, table_word, PAGE_LIMIT, Role, Root, Table, IsLawful, IsTableOf}
use Rattle.cove_base.specs.Modes.{leaves_of}
use Rattle.cove_base.specs.declared.modes.Mode.{Mode}
use Rattle.cove_base.specs.declared.modes.Mode.TheVariants.{Sv39x4, Sv48x4}
use Rattle.cove_base.specs.Tables.{Slot, At, IsLeaf, IsLink, NoTable, ATable, IsSlot, Names, ByBlocked, ByPresent, StandsAt, below, entry_at, entry_in, leaf_at, next_table, slots_at}
use Rattle.cove_clear.proofs.Counting.{count_lawful, entries, few_pages, now_clears, now_counted, now_gathered, now_open}
use Rattle.cove_clear.proofs.Zeroing.{counts_stay, next_clears, next_open, next_shares, only, page_stays, shared_gathered, taken_gathered, zero_lawful}
use Rattle.cove_clear.specs.Clearing.{AreGathered, Clears, Goes, IsBeingCleared, IsClearable, IsEmptyTable, KeepsAbove, LeafStands, MayBeCleared, NamesOwn, NamesShared, Proceeds}
use Rattle.cove_model.proofs.LeafWords.{given_host, next_named}
use Rattle.cove_model.proofs.OwnedStores.{stands_in}
use Rattle.cove_model.specs.TableLaw.{is_shared_leaf, shared_leaves, shared_once}
use Rattle.cove_stage2.proofs.LawfulLemmas.{leads_on}
use Rattle.cove_stage2.proofs.SharedWords.{is_shared, not_shared, once_is}

-- ---- one step after another

clears_role : (pages : ℕ) (old new : List ℕ) (t p : ℕ) (role : Role) → Clears pages old new t → p < pages → get_or new p 0 ≡ given t role → get_or old p 0 ≡ given t role
clears_role pages old new t p role clears on is = elim (clears.page p on) [
  | inl same ↦ sym same ∙ is
  | inr hosts ↦ absurd (given_host t hosts.1 role (sym is ∙ hosts.3))
]

clears_table : (pages : ℕ) (old new : List ℕ) (t p : ℕ) → Clears pages old new t → p < pages → IsTableOf new t p → IsTableOf old t p
clears_table pages old new t p clears on (inl is) = inl (clears_role pages old new t p Root clears on is)
clears_table pages old new t p clears on (inr is) = inr (clears_role pages old new t p Table clears on is)

clears_on : (pages : ℕ) (old mid new : List ℕ) (t : ℕ) → Clears pages old mid t → Clears pages mid new t → Clears pages old new t
clears_on pages old mid new t one two = record {
  size = two.size ∙ one.size;
  tables = λ p i on low. elim (two.tables p i on low) [
    | inl same ↦ elim (one.tables p i on low) [
      | inl before ↦ inl (same ∙ before)
      | inr gone ↦ inr (gone.0, same ∙ gone.1)
    ]
    | inr gone ↦ inr (clears_table pages old mid t p one on gone.0, gone.1)
  ];
  page = λ p on. elim (two.page p on) [
    | inl same ↦ elim (one.page p on) [
      | inl before ↦ inl (same ∙ before)
      | inr hosts ↦ inr (hosts.0, hosts.1, hosts.2, same ∙ hosts.3)
    ]
    | inr hosts ↦ elim (one.page p on) [
      | inl before ↦ inr (hosts.0, hosts.1, sym before ∙ hosts.2, hosts.3)
      | inr first ↦ inr (first.0, hosts.1, first.2, hosts.3)
    ]
  ];
  behind = λ place past. two.behind place past ∙ one.behind place past;
}

pub clears_none : (pages : ℕ) (words : List ℕ) (t : ℕ) → Clears pages words words t
clears_none pages words t = record {
  size = refl;
  tables = λ p i on low. inl refl;
  page = λ p on. inl refl;
  behind = λ place past. refl;
}

-- a word that is 0 stays 0
pub zero_still : (pages : ℕ) (old new : List ℕ) (t p i : ℕ) → Clears pages old new t → p < pages → i < 512
    → get_or old (table_word pages p i) 0 ≡ 0 → get_or new (table_word pages p i) 0 ≡ 0
zero_still pages old new t p i clears on low was = elim (clears.tables p i on low) [
  | inl same ↦ same ∙ was
  | inr gone ↦ gone.1
]

pub proceeds_none : (pages root leaves : ℕ) (words pool : List ℕ) → Proceeds pages root leaves words pool words pool
proceeds_none pages root leaves words pool harts t leaving = record {
  leaving = leaving;
  clears = clears_none pages words t;
  lawful = λ hart last. ([], tt, refl);
}

pub proceeds_on : (pages root leaves : ℕ) (old pool mid between new left : List ℕ)
    → Proceeds pages root leaves old pool mid between → Proceeds pages root leaves mid between new left → Proceeds pages root leaves old pool new left
proceeds_on pages root leaves old pool mid between new left one two harts t leaving =
    let first = one harts t leaving in
    let second = two harts t first.leaving in
    record {
      leaving = second.leaving;
      clears = clears_on pages old mid new t first.clears second.clears;
      lawful = λ hart last. leads_on (IsLawful pages harts hart last) old mid new (first.lawful hart last) (second.lawful hart last);
    }

-- ---- what a loop keeps

-- the words allow the stores that are left
pub may_on : (allows : List ℕ → ℕ → ℕ → Type 0) (pages root leaves : ℕ) (old pool new left : List ℕ)
    → MayBeCleared allows pages root leaves old pool → Proceeds pages root leaves old pool new left → MayBeCleared allows pages root leaves new left
may_on allows pages root leaves old pool new left may on = (may.0, may.1, may.2, may.3, (on may.0 may.1 may.4).leaving, may.5)

-- what is 0 stays so
pub zero_on : (allows : List ℕ → ℕ → ℕ → Type 0) (pages root leaves : ℕ) (old pool new left : List ℕ) → MayBeCleared allows pages root leaves old pool → Proceeds pages root leaves old pool new left
    → (p i : ℕ) → p < pages → i < 512 → get_or old (table_word pages p i) 0 ≡ 0 → get_or new (table_word pages p i) 0 ≡ 0
zero_on allows pages root leaves old pool new left may on p i board low was = zero_still pages old new may.1 p i (on may.0 may.1 may.4).clears board low was

-- one more word of a table is 0
pub empty_more : (allows : List ℕ → ℕ → ℕ → Type 0) (pages root leaves : ℕ) (old pool new left : List ℕ) → MayBeCleared allows pages root leaves old pool → Proceeds pages root leaves old pool new left
    → (p i : ℕ) → p < pages → i < 512 → ((j : ℕ) → j < i → get_or old (table_word pages p j) 0 ≡ 0) → get_or new (table_word pages p i) 0 ≡ 0
    → (j : ℕ) → j < i + 1 → get_or new (table_word pages p j) 0 ≡ 0
empty_more allows pages root leaves old pool new left may on p i board low before here j under = elim (cases_eq j i) [
  | inl same ↦ ap (λ k. get_or new (table_word pages p k) 0) same ∙ here
  | inr off ↦ zero_on allows pages root leaves old pool new left may on p j board (omega arith) (before j (omega arith))
]

-- one more word of the root is 0
pub root_more : (allows : List ℕ → ℕ → ℕ → Type 0) (pages root leaves : ℕ) (old pool new left : List ℕ) → MayBeCleared allows pages root leaves old pool → Proceeds pages root leaves old pool new left
    → (n : ℕ) → n < 2048 → ((j : ℕ) → j < n → get_or old (table_word pages root j) 0 ≡ 0) → get_or new (table_word pages root n) 0 ≡ 0
    → (j : ℕ) → j < n + 1 → get_or new (table_word pages root j) 0 ≡ 0
root_more allows pages root leaves old pool new left may on n low before here j under = elim (cases_eq j n) [
  | inl same ↦ ap (λ k. get_or new (table_word pages root k) 0) same ∙ here
  | inr off ↦
      let fit = may.4.clearable.root_is.fits in
      let at : table_word pages (root + j / 512) (j % 512) ≡ table_word pages root j = omega arith in
      ap (λ k. get_or new k 0) (sym at)
      ∙ zero_on allows pages root leaves old pool new left may on (root + j / 512) (j % 512) (omega arith) (omega arith) (ap (λ k. get_or old k 0) at ∙ before j (omega arith))
]

pub above_none : (pages root depth : ℕ) (words : List ℕ) → KeepsAbove pages root depth words words
above_none pages root depth words d n up low = refl

pub above_on : (pages root depth : ℕ) (old mid new : List ℕ) → KeepsAbove pages root depth old mid → KeepsAbove pages root depth mid new → KeepsAbove pages root depth old new
above_on pages root depth old mid new one two d n up low = two d n up low ∙ one d n up low

-- what is kept below a depth is kept above it
pub above_less : (pages root depth : ℕ) (old new : List ℕ) → KeepsAbove pages root (depth + 1) old new → KeepsAbove pages root depth old new
above_less pages root depth old new keeps d n up low = keeps d n (omega arith) low

-- a slot stands where it stood
pub stands_on : (pages root depth n : ℕ) (old new : List ℕ) (place : ℕ) → n < slots_at depth → KeepsAbove pages root (depth + 1) old new
    → StandsAt pages root old (At depth n) place → StandsAt pages root new (At depth n) place
stands_on pages root zero n old new place slot keeps at = at
stands_on pages root (suc d) n old new place slot keeps (page, named, at) = (page, keeps d (n / 512) (omega arith) (omega arith) ∙ named, at)

-- ---- the slots of a table

-- the slots of the table that a slot names
pub slot_under : (pages root d n i page place : ℕ) (words : List ℕ) → i < 512 → n < slots_at d → entry_in pages root words d n ≡ next_table page → place ≡ table_word pages page i
    → (512 * n + i < slots_at (d + 1)) × StandsAt pages root words (At (d + 1) (512 * n + i)) place
slot_under pages root d n i page place words low slot named at =
    let next : suc d ≡ d + 1 = omega arith in
    let above : n ≡ (512 * n + i) / 512 = omega arith in
    let here : i ≡ (512 * n + i) % 512 = omega arith in
    subst (λ e. (512 * n + i < slots_at e) × StandsAt pages root words (At e (512 * n + i)) place) next
    (omega arith, (page, subst (λ k. entry_in pages root words d k ≡ next_table page) above named, at ∙ ap (table_word pages page) here))

-- there are fewer slots above the leaves than a number of 64 bits holds 512 times
pub few_slots : (mode : Mode) (d n : ℕ) → d < leaves_of mode → n < slots_at d → n < 2 ^ 38
few_slots mode zero n up low = omega arith
few_slots mode (suc zero) n up low = omega arith
few_slots mode (suc (suc zero)) n up low = omega arith
few_slots Sv39x4 (suc (suc (suc d))) n up low = absurd (omega arith)
few_slots Sv48x4 (suc (suc (suc d))) n up low = absurd (omega arith)

-- ---- what the words say of a slot

module _ (allows : List ℕ → ℕ → ℕ → Type 0) (pages root leaves : ℕ) (words pool : List ℕ) (may : MayBeCleared allows pages root leaves words pool) where
  -- a slot stands at one of the words
  pub slot_fits : (a : Slot) (place : ℕ) → IsSlot a → StandsAt pages root words a place → place < length words
  slot_fits a place slot at = stands-within pages root leaves words may.4.clearable.tree a place slot at

  -- the word of a leaf
  pub leaf_word_is : (place word : ℕ) → LeafStands pages root leaves words place → word ≡ get_or words place 0 → IsLeaf word
  leaf_word_is place word (g, low, at) is = subst IsLeaf (entry-stands pages root words (At leaves g) place at ∙ sym is) (may.4.clearable.tree.leaf g low)

  -- what it names
  names_there : (place word page : ℕ) (shared kind : Bool) (leaf : LeafStands pages root leaves words place) → word ≡ get_or words place 0 → Names page shared word → shared ≡ kind
      → Names page kind (leaf_at pages root leaves words leaf.0)
  names_there place word page shared kind (g, low, at) is named same =
      subst (λ s. Names page s (leaf_at pages root leaves words g)) same
      (subst (Names page shared) (is ∙ sym (entry-stands pages root words (At leaves g) place at)) named)

  pub leaf_shared : (place word page : ℕ) (shared : Bool) → LeafStands pages root leaves words place → word ≡ get_or words place 0 → page < 2 ^ 16 → Names page shared word → shared ≡ true
      → NamesShared pages root words place page
  leaf_shared place word page shared leaf is small named same = (At leaves leaf.0, leaf.1, leaf.2, small, names_there place word page shared true leaf is named same)

  pub leaf_own : (place word page : ℕ) (shared : Bool) → LeafStands pages root leaves words place → word ≡ get_or words place 0 → page < 2 ^ 16 → Names page shared word → shared ≡ false
      → NamesOwn pages root words place page
  leaf_own place word page shared leaf is small named same = (At leaves leaf.0, leaf.1, leaf.2, inr (small, names_there place word page shared false leaf is named same))

  -- the word of a link that is there names a table
  pub link_word : (d n place word : ℕ) → d < leaves → n < slots_at d → StandsAt pages root words (At d n) place → word ≡ get_or words place 0 → word ≢ 0
      → (entry_in pages root words d n ≡ next_table (word / 1024)) × (word / 1024 < pages) × (word / 1024 < PAGE_LIMIT)
  link_word d n place word up slot at is some = go (may.4.clearable.tree.links (At d n) (up, slot))
    where
      same : entry_in pages root words d n ≡ word
      same = entry-stands pages root words (At d n) place at ∙ sym is

      go : IsLink pages root (entry_in pages root words d n) → (entry_in pages root words d n ≡ next_table (word / 1024)) × (word / 1024 < pages) × (word / 1024 < PAGE_LIMIT)
      go (NoTable e) = absurd (some (sym same ∙ e))
      go (ATable page out e) =
          let few = may.4.clearable.few in
          let word_is : word ≡ 1024 * page + 1 = sym same ∙ e in
          let page_is : word / 1024 ≡ page = omega arith in
          let on = subst (λ k. k < pages) (sym page_is) out.0 in
          (e ∙ ap next_table (sym page_is), on, omega arith)

  -- the store that clears a slot under which nothing stands keeps those above it
  zero_above : (d n place : ℕ) → n < slots_at d → StandsAt pages root words (At d n) place
      → ((i : ℕ) → i < 512 → below pages words (entry_in pages root words d n) i ≡ 0) → KeepsAbove pages root d words (set words place 0)
  zero_above d n place slot at bare c m up low =
      (only pages may.0 words may.1 root leaves may.4.clearable (At d n) place slot at bare).others (At c m) low
      (λ e. let same : c ≡ d = slot-depth c d m n e in omega arith)

  pub leaf_above : (place : ℕ) → LeafStands pages root leaves words place → KeepsAbove pages root leaves words (set words place 0)
  leaf_above place (g, low, at) =
      zero_above leaves g place low at
      (λ i _. below-none pages (leaf_at pages root leaves words g) (λ q. leaf≢table (leaf_at pages root leaves words g) q (may.4.clearable.tree.leaf g low)) words i)

  pub link_above : (d n place page : ℕ) → n < slots_at d → StandsAt pages root words (At d n) place → entry_in pages root words d n ≡ next_table page → IsEmptyTable pages words page
      → KeepsAbove pages root d words (set words place 0)
  link_above d n place page slot at named empty =
      zero_above d n place slot at (λ i low. below-named pages words (entry_in pages root words d n) page i named ∙ empty i low)

-- ---- an entry goes, and the page of the TVM's that it named is gathered

module _ (pages root leaves : ℕ) (words pool : List ℕ) (place page : ℕ) (own : NamesOwn pages root words place page) where
  abbrev entry : ℕ
  entry = entry_at pages root words own.0

  taken : (entry ≡ next_table page) ⊎ Names page false entry
  taken = elim own.3 [ inl table ↦ inl table.0 | inr leaf ↦ inr leaf.1 ]

  bare : (i : ℕ) → i < 512 → below pages words entry i ≡ 0
  bare i low = elim own.3 [
    | inl table ↦ below-named pages words entry page i table.0 ∙ table.1 i low
    | inr leaf ↦ below-none pages entry (λ q e. next_named page false entry q e leaf.1) words i
  ]

  private_off : (p leaf : ℕ) → Names page false leaf → is_shared_leaf p leaf ≡ false
  private_off p leaf (ByPresent is) = let word : leaf ≡ 1024 * page + 223 = is in not_shared p leaf 223 (omega arith) refl
  private_off p leaf (ByBlocked since is) = let word : leaf ≡ 1024 * page + 223 + 255 + 2 ^ 26 * since = is in not_shared p leaf 478 (omega arith) refl

  -- it counted for no page of the host's
  uncounted : (p : ℕ) → shared_once p entry ≡ 0
  uncounted p = once_is p entry false (elim taken [
    | inl named ↦ not_shared p entry 1 (omega arith) refl
    | inr named ↦ private_off p entry named
  ])

  module _ (harts t : ℕ) (leaving : IsBeingCleared pages harts words t root leaves pool) where
    own_on : page < pages
    own_on =
        let tables = leaving.clearable.owned t root leaving.clearable.root_is in
        elim own.3 [
          | inl table ↦ (tables.linked own.0 page own.1 table.0).0
          | inr leaf ↦ (tables.backed own.0 page false own.1 leaf.0 leaf.1).0
        ]

    pub own_fits : place < length words
    own_fits = stands-within pages root leaves words leaving.clearable.tree own.0 place own.1 own.2

    pub own_lawful : (hart : ℕ) (last : List ℕ) → IsLawful pages harts hart last words place 0
    own_lawful = zero_lawful pages harts words t root leaves leaving.clearable own.0 place own.1 own.2

    own_gathered : AreGathered pages (set words place 0) t root (pool ++ page ∷ [])
    own_gathered = taken_gathered pages harts words t root leaves leaving.clearable own.0 place own.1 own.2 bare pool leaving.gathered page own_on taken

    pub own_room : length pool < pages
    own_room =
        let few = few_pages pages (pool ++ page ∷ []) own_gathered.differ own_gathered.on_board in
        let long = length-append pool (page ∷ []) in
        omega arith

    pub own_goes : Goes pages harts t root leaves words pool (set words place 0) (pool ++ page ∷ [])
    own_goes = record {
      leaving = record {
        clearable = next_open pages harts words t root leaves leaving.clearable own.0 place own.1 own.2;
        gathered = own_gathered;
        counted = counts_stay pages harts words t root leaves leaving.clearable own.0 place own.1 own.2 uncounted leaving.counted;
      };
      clears = next_clears pages harts words t root leaves leaving.clearable own.0 place own.1 own.2;
      lawful = λ hart last. ((place, 0) ∷ [], (own_lawful hart last, tt), refl);
    }

-- ---- a leaf of a page of the host's goes, and then the page's count is lower

module _ (pages root leaves : ℕ) (words pool : List ℕ) (place page : ℕ) (shared : NamesShared pages root words place page) where
  abbrev cleared : List ℕ
  cleared = set words place 0

  abbrev leaf : ℕ
  leaf = entry_at pages root words shared.0

  shares_by : (p word : ℕ) → Names page true word → is_shared_leaf p word ≡ eqb page p
  shares_by p word (ByPresent is) = let e : word ≡ 1024 * page + 215 = is in let small = shared.3 in is_shared p page word 215 (omega arith) refl (omega arith)
  shares_by p word (ByBlocked since is) =
      let e : word ≡ 1024 * page + 215 + 255 + 2 ^ 26 * since = is in let small = shared.3 in is_shared p page word 470 (omega arith) refl (omega arith)

  shares : (p : ℕ) (b : Bool) → eqb page p ≡ b → shared_once p leaf ≡ cond b 1 0
  shares p b e = once_is p leaf b (shares_by p leaf shared.4 ∙ e)

  module _ (harts t : ℕ) (leaving : IsBeingCleared pages harts words t root leaves pool) where
    behind : (page < pages) × ((count : ℕ) × (0 < count) × (get_or words page 0 ≡ host count))
    behind = (leaving.clearable.owned t root leaving.clearable.root_is).backed shared.0 page true shared.1 shared.3 shared.4

    pub shared_fits : place < length words
    shared_fits = stands-within pages root leaves words leaving.clearable.tree shared.0 place shared.1 shared.2

    pub shared_lawful : (hart : ℕ) (last : List ℕ) → IsLawful pages harts hart last words place 0
    shared_lawful = zero_lawful pages harts words t root leaves leaving.clearable shared.0 place shared.1 shared.2

    shared_open : IsClearable pages harts cleared t root leaves
    shared_open = next_open pages harts words t root leaves leaving.clearable shared.0 place shared.1 shared.2

    stays : (p : ℕ) → p < pages → get_or cleared p 0 ≡ get_or words p 0
    stays = page_stays pages harts words t root leaves leaving.clearable shared.0 place shared.1 shared.2

    fewer : (p : ℕ) → shared_leaves pages cleared p + shared_once p leaf ≡ shared_leaves pages words p
    fewer = next_shares pages harts words t root leaves leaving.clearable shared.0 place shared.1 shared.2

    -- the count in the page word, and what it becomes
    still : get_or cleared page 0 ≡ host behind.1.0
    still = stays page behind.0 ∙ behind.1.2

    pub count_word : get_or cleared page 0 ≡ 8 * (shared_leaves pages cleared page) + 8
    count_word =
        let is = still in
        let count = leaving.counted page behind.1.0 behind.0 behind.1.2 in
        let step = fewer page in
        let once = shares page true (eq-eqb page page refl) in
        omega arith

    abbrev lowered : List ℕ
    lowered = set cleared page (host (shared_leaves pages cleared page))

    pub lower_lawful : (hart : ℕ) (last : List ℕ) → IsLawful pages harts hart last cleared page (host (shared_leaves pages cleared page))
    lower_lawful = count_lawful pages harts cleared t root leaves shared_open page behind.1.0 (shared_leaves pages cleared page) behind.0 still refl

    pub count_fits : page < length cleared
    count_fits = let on = behind.0 in let size = leaving.clearable.size in let same = length-set words place 0 in omega arith

    pub count_less : (count : ℕ) → count ≡ get_or cleared page 0 → (8 ≤ count) × (count - 8 ≡ host (shared_leaves pages cleared page))
    count_less count is = let word = count_word in (omega arith, omega arith)

    pub shared_empty : get_or lowered place 0 ≡ 0
    shared_empty =
        let on = behind.0 in
        let own = stands_in pages words t root (leaving.clearable.owned t root leaving.clearable.root_is) shared.0 place shared.1 shared.2 in
        let is : place ≡ table_word pages own.page own.i = own.at in
        get_or-set_other cleared page place (host (shared_leaves pages cleared page)) 0 (omega arith) ∙ get_or-set_same words place 0 0 shared_fits

    pub lowered_above : (depth : ℕ) → KeepsAbove pages root depth cleared lowered
    lowered_above depth d n up low = entries pages harts cleared t root leaves shared_open page behind.1.0 (shared_leaves pages cleared page) behind.0 still refl (At d n) low

    pub shared_goes : Goes pages harts t root leaves words pool lowered pool
    shared_goes = record {
      leaving = record {
        clearable = now_open pages harts cleared t root leaves shared_open page behind.1.0 (shared_leaves pages cleared page) behind.0 still refl;
        gathered = now_gathered pages harts cleared t root leaves shared_open page behind.1.0 (shared_leaves pages cleared page) behind.0 still refl pool
            (shared_gathered pages harts words t root leaves leaving.clearable shared.0 place shared.1 shared.2
            (λ i _. below-none pages leaf (λ q e. next_named page true leaf q e shared.4) words i) pool leaving.gathered page shared.3 shared.4);
        counted = now_counted pages harts cleared t root leaves shared_open page behind.1.0 (shared_leaves pages cleared page) behind.0 still refl others;
      };
      clears = clears_on pages words cleared lowered t
          (next_clears pages harts words t root leaves leaving.clearable shared.0 place shared.1 shared.2)
          (now_clears pages harts cleared t root leaves shared_open page behind.1.0 (shared_leaves pages cleared page) behind.0 still refl);
      lawful = λ hart last.
          ((place, 0) ∷ (page, host (shared_leaves pages cleared page)) ∷ [], (shared_lawful hart last, (lower_lawful hart last, tt)), refl);
    } where
      others : (p count : ℕ) → p < pages → p ≢ page → get_or cleared p 0 ≡ host count → count ≡ shared_leaves pages cleared p
      others p count on off is =
          let was = leaving.counted p count on (sym (stays p on) ∙ is) in
          let step = fewer p in
          let none = shares p false (ne_eqb page p (λ e. off (sym e))) in
          omega arith
