-- What is left of a TVM's tables after the count of a page of the host's changed, while it is destroyed; and how many pages are gathered.
use Rattle.std.proofs.Common.{◌≡◌, ◌≢◌, ℕ, zero, suc, ◌+◌, ◌*◌, ◌/◌, ◌%◌, ◌^◌, ◌<◌, ◌≤◌, ◌∙◌, ◌||◌, not, Bool, true, false, true≢false, cond, eqb, eqb-true, eq-eqb, List, [], ◌∷◌, drop, get_or, length, length-set, set, take, refl, sym, ap, subst, inl, inr, arith, get_or-set_other, get_or-set_same}
use Rattle.std.proofs.lemmas.Bool.{cases_eq, or_left}
use Rattle.std.proofs.lemmas.List.{get_or-drop, get_or-take, length-drop, length-take}
use Rattle.std.proofs.lemmas.List.Sums.{get_or-le-sum_by}
use Rattle.cove_base.proofs.SlotStores.{entries-stay}
use Rattle.cove_base.proofs.TableLemmas.{below-named, next-cases}
use Rattle.cove_base.proofs.TreeLemmas.{link-slot}
use Rattle.cove_model.specs.Machine.{given, host, hart_word, table_word, Role, Root, Table, Data, AreOwned, ChangesPage, Counts, IsBehindLeaf, IsLawful, IsRoot, LeafNames, AreDistinct, has, without}
use Rattle.cove_base.specs.Tables.{Slot, At, IsLeaf, IsLink, IsSlot, IsTree, Names, ByBlocked, ByPresent, entry_at, entry_in, next_table}
use Rattle.cove_clear.specs.Clearing.{AreCounted, AreGathered, Clears, IsClearable}
use Rattle.cove_model.proofs.Distinct.{distinct_filter}
use Rattle.cove_model.proofs.LeafWords.{given_host, none_named}
use Rattle.cove_model.proofs.Members.{false-true, has_not, has_with}
use Rattle.cove_model.proofs.OwnedStores.{page_stored, stands_in}
use Rattle.cove_model.proofs.SharedLeaves.{stores_count_shared}
use Rattle.cove_model.specs.TableLaw.{is_shared_leaf, shared_leaves}
use Rattle.cove_stage2.proofs.SharedWords.{is_shared}

abbrev flag : Bool → ℕ
flag b = cond b 1 0

-- ---- a page that a leaf shares is counted

shares_page : (q leaf : ℕ) → q < 2 ^ 16 → Names q true leaf → is_shared_leaf q leaf ≡ true
shares_page q leaf small (ByPresent is) =
    let word : leaf ≡ 1024 * q + 215 = is in
    is_shared q q leaf 215 (omega arith) refl (omega arith) ∙ eq-eqb q q refl
shares_page q leaf small (ByBlocked since is) =
    let word : leaf ≡ 1024 * q + 215 + 255 + 2 ^ 26 * since = is in
    is_shared q q leaf 470 (omega arith) refl (omega arith) ∙ eq-eqb q q refl

word_counts : (pages : ℕ) (words : List ℕ) (q p i : ℕ) → 513 * pages ≤ length words → p < pages → i < 512
    → is_shared_leaf q (get_or words (table_word pages p i) 0) ≡ true → 0 < shared_leaves pages words q
word_counts pages words q p i size on low is =
    let within : 512 * p + i < length (take (512 * pages) (drop pages words)) =
    omega (arith, length-take (512 * pages) (drop pages words), length-drop pages words) in
    let word : get_or (take (512 * pages) (drop pages words)) (512 * p + i) 0 ≡ get_or words (table_word pages p i) 0 =
    get_or-take (512 * pages) (drop pages words) (512 * p + i) 0 (omega arith) ∙ get_or-drop pages words (512 * p + i) 0
    ∙ ap (λ n. get_or words n 0) (omega arith) in
    let one : flag (is_shared_leaf q (get_or (take (512 * pages) (drop pages words)) (512 * p + i) 0)) ≡ 1 =
    ap flag (ap (is_shared_leaf q) word ∙ is) in
    let most = get_or-le-sum_by (λ w. flag (is_shared_leaf q w)) (take (512 * pages) (drop pages words)) (512 * p + i) 0 within in
    omega arith

pub leaf_counts : (pages : ℕ) (words : List ℕ) (r : ℕ) → 513 * pages ≤ length words → r + 4 ≤ pages
    → ((b : Slot) (page : ℕ) → IsSlot b → entry_at pages r words b ≡ next_table page → page < pages)
    → (a : Slot) (q : ℕ) → IsSlot a → q < 2 ^ 16 → Names q true (entry_at pages r words a) → 0 < shared_leaves pages words q
leaf_counts pages words r size fits board (At zero n) q slot small named =
    let at : table_word pages r n ≡ table_word pages (r + n / 512) (n % 512) = omega arith in
    word_counts pages words q (r + n / 512) (n % 512) size (omega arith) (omega arith)
    (ap (λ k. is_shared_leaf q (get_or words k 0)) (sym at) ∙ shares_page q (get_or words (table_word pages r n) 0) small named)
leaf_counts pages words r size fits board (At (suc d) n) q slot small named = elim (next-cases pages (entry_in pages r words d (n / 512))) [
  | inl (table, link) ↦
      let leaf = below-named pages words (entry_in pages r words d (n / 512)) table (n % 512) link in
      word_counts pages words q table (n % 512) size (board (At d (n / 512)) table (omega arith) link) (omega arith)
      (ap (is_shared_leaf q) (sym leaf) ∙ shares_page q (entry_in pages r words (suc d) n) small named)
  | inr none ↦ absurd (none_named q true (entry_in pages r words (suc d) n) (none words (n % 512)) named)
]

-- ---- a list of different pages of the board is no longer than the board

without_one : (k : ℕ) (ps : List ℕ) → has k ps ≡ false → without k ps ≡ ps
without_one k [] e = refl
without_one k (p ∷ ps) e = go (eqb p k) e (without_one k ps)
  where
    go : (b : Bool) → (b || has k ps) ≡ false → (has k ps ≡ false → without k ps ≡ ps) → cond (not b) (p ∷ without k ps) (without k ps) ≡ p ∷ ps
    go true q rest = absurd (true≢false q)
    go false q rest = ap (λ list. p ∷ list) (rest q)

one_less : (k : ℕ) (ps : List ℕ) → AreDistinct ps → length ps ≤ length (without k ps) + 1
one_less k [] apart = omega arith
one_less k (p ∷ ps) apart = go (eqb p k) refl (one_less k ps apart.1)
  where
    go : (b : Bool) → eqb p k ≡ b → length ps ≤ length (without k ps) + 1 → length (p ∷ ps) ≤ length (cond (not b) (p ∷ without k ps) (without k ps)) + 1
    go true is rest =
        let same = ap length (without_one k ps (subst (λ n. has n ps ≡ false) (eqb-true p k is) apart.0)) in
        omega arith
    go false is rest = omega arith

pub few_pages : (n : ℕ) (ps : List ℕ) → AreDistinct ps → ((k : ℕ) → has k ps ≡ true → k < n) → length ps ≤ n
few_pages zero [] apart low = omega arith
few_pages zero (p ∷ ps) apart low = absurd (let under = low p (or_left (eqb p p) (has p ps) (eq-eqb p p refl)) in omega arith)
few_pages (suc n) ps apart low =
    let rest = few_pages n (without n ps) (distinct_filter (λ other. not (eqb other n)) ps apart) (λ k there. less k there (low k (has_with n k ps there))) in
    let one = one_less n ps apart in
    omega arith
  where
    less : (k : ℕ) → has k (without n ps) ≡ true → k < suc n → k < n
    less k there under = elim (cases_eq k n) [
      | inl same ↦ false-true (sym (has_not n ps) ∙ subst (λ j. has j (without n ps) ≡ true) same there)
      | inr off ↦ omega arith
    ]

-- ---- the count of a page of the host's

module _ (pages harts : ℕ) (words : List ℕ) (t root leaves : ℕ) (clearable : IsClearable pages harts words t root leaves) (q before after : ℕ) (on : q < pages)
    (was : get_or words q 0 ≡ host before) (counts : after ≡ shared_leaves pages words q) where
  abbrev now : List ℕ
  now = set words q (host after)

  mine : AreOwned pages words t root
  mine = clearable.owned t root clearable.root_is

  size : 513 * pages ≤ length words
  size = let is = clearable.size in omega arith

  small : q < 2 ^ 16
  small = let few = clearable.few in omega arith

  other_page : (p : ℕ) → p ≢ q → get_or now p 0 ≡ get_or words p 0
  other_page p off = get_or-set_other words q p (host after) 0 off

  -- a leaf of a TVM that names the page shares it
  leaf_shares : (u r : ℕ) (a : Slot) (shared : Bool) → AreOwned pages words u r → IsSlot a → Names q shared (entry_at pages r words a) → (shared ≡ true) × (0 < after)
  leaf_shares u r a false owned slot named = absurd (given_host u before Data (sym (owned.backed a q false slot small named).1 ∙ was))
  leaf_shares u r a true owned slot named =
      let some = leaf_counts pages words r size owned.root_is.fits (λ b page h link. (owned.linked b page h link).0) a q slot small named in
      (refl, omega arith)

  -- the store is lawful
  pub count_lawful : (hart : ℕ) (old : List ℕ) → IsLawful pages harts hart old words q (host after)
  count_lawful hart old = ChangesPage q on refl (Counts before after was refl (λ none u names. unnamed none u names))
    where
      unnamed : after ≡ 0 → (u : ℕ) → LeafNames pages words u q → ⊥
      unnamed none u names =
          let some = (leaf_shares u names.0 names.2.0 names.2.2.0 (clearable.owned u names.0 names.1) names.2.1 names.2.2.1).1 in
          omega arith

  -- page words that give a page to a TVM stay
  given_stays : (p u : ℕ) (role : Role) → get_or words p 0 ≡ given u role → get_or now p 0 ≡ given u role
  given_stays p u role is = other_page p (λ e. given_host u before role (sym is ∙ ap (λ k. get_or words k 0) e ∙ was)) ∙ is

  given_was : (p u : ℕ) (role : Role) → get_or now p 0 ≡ given u role → get_or words p 0 ≡ given u role
  given_was p u role is = elim (cases_eq p q) [
    | inl same ↦ absurd (given_host u after role (sym is ∙ ap (λ k. get_or now k 0) same ∙ get_or-set_same words q (host after) 0 (let long = size in omega arith)))
    | inr off ↦ sym (other_page p off) ∙ is
  ]

  pub entries : (b : Slot) → IsSlot b → entry_at pages root now b ≡ entry_at pages root words b
  entries =
      entries-stay pages root words q (host after)
      (λ b slot at.
      let own = stands_in pages words t root mine b q slot at in
      let is : q ≡ table_word pages own.page own.i = own.at in
      omega arith)

  root_was : (u r : ℕ) → IsRoot pages now u r → IsRoot pages words u r
  root_was u r is = record {
    fits = is.fits;
    roots = λ i low. given_was (r + i) u Root (is.roots i low);
    least = λ p low e. is.least p low (given_stays p u Root e);
  }

  behind_again : (u r : ℕ) → AreOwned pages words u r → (a : Slot) (shared : Bool) → IsSlot a → Names q shared (entry_at pages r words a)
      → IsBehindLeaf words u q shared → IsBehindLeaf now u q shared
  behind_again u r owned a false slot named behind = absurd (given_host u before Data (sym behind ∙ was))
  behind_again u r owned a true slot named behind =
      (after, (leaf_shares u r a true owned slot named).1, get_or-set_same words q (host after) 0 (let long = size in omega arith))

  owned_now : (u r : ℕ) → IsRoot pages now u r → AreOwned pages now u r
  owned_now u r is =
      let owned = clearable.owned u r (root_was u r is) in
      page_stored pages words u r owned q (host after) on
      (λ e. given_host u before Root (sym e ∙ was)) (λ e. given_host u after Root (sym e)) (λ e. given_host u before Table (sym e ∙ was))
      (behind_again u r owned) (let long = size in omega arith)

  tree_now : IsTree pages root leaves now
  tree_now = record {
    fits = clearable.tree.fits;
    size = subst (λ n. 513 * pages ≤ n) (sym (length-set words q (host after))) clearable.tree.size;
    links = λ b h. subst (IsLink pages root) (sym (entries b (link-slot leaves b h))) (clearable.tree.links b h);
    leaf = λ g h. subst IsLeaf (sym (entries (At leaves g) h)) (clearable.tree.leaf g h);
    apart = λ b c p hb hc nb nc. clearable.tree.apart b c p hb hc (sym (entries b hb) ∙ nb) (sym (entries c hc) ∙ nc);
  }

  past : (k : ℕ) → pages ≤ k → get_or now k 0 ≡ get_or words k 0
  past k high = get_or-set_other words q k (host after) 0 (omega arith)

  pub now_open : IsClearable pages harts now t root leaves
  now_open = record {
    few = clearable.few;
    size = length-set words q (host after) ∙ clearable.size;
    left = λ hart h-on inside. clearable.left hart h-on (inside.0, (inside.1.0, sym (past (hart_word pages harts hart) (omega arith)) ∙ inside.1.1));
    root_is = record {
      fits = clearable.root_is.fits;
      roots = λ i low. given_stays (root + i) t Root (clearable.root_is.roots i low);
      least = λ p low e. clearable.root_is.least p low (given_was p t Root e);
    };
    tree = tree_now;
    owned = owned_now;
    once = λ b c p hb hc p-on first second. clearable.once b c p hb hc p-on (subst (Names p false) (entries b hb) first) (subst (Names p false) (entries c hc) second);
  }

  pub now_gathered : (pool : List ℕ) → AreGathered pages words t root pool → AreGathered pages now t root pool
  now_gathered pool gathered = record {
    differ = gathered.differ;
    on_board = gathered.on_board;
    own = λ p there. elim (gathered.own p there) [ inl is ↦ inl (given_stays p t Table is) | inr is ↦ inr (given_stays p t Data is) ];
    empty = λ p i there is low. past (table_word pages p i) (omega arith) ∙ gathered.empty p i there (given_was p t Table is) low;
    unlinked = λ b p h named. gathered.unlinked b p h (sym (entries b h) ∙ named);
    unmapped = λ b p h p-on named. gathered.unmapped b p h p-on (subst (Names p false) (entries b h) named);
    tables = λ p p-on is. elim (gathered.tables p p-on (given_was p t Table is)) [
      | inl there ↦ inl there
      | inr linked ↦ inr (linked.0, linked.1, entries linked.0 linked.1 ∙ linked.2)
    ];
    memory = λ p p-on is. elim (gathered.memory p p-on (given_was p t Data is)) [
      | inl there ↦ inl there
      | inr mapped ↦ inr (mapped.0, mapped.1, subst (Names p false) (sym (entries mapped.0 mapped.1)) mapped.2)
    ];
  }

  shares_same : (p : ℕ) → shared_leaves pages now p ≡ shared_leaves pages words p
  shares_same p = (stores_count_shared pages harts words p clearable.size).2 q (host after) (inl on)

  -- every page counts, where the others did
  pub now_counted : ((p maps : ℕ) → p < pages → p ≢ q → get_or words p 0 ≡ host maps → maps ≡ shared_leaves pages words p) → AreCounted pages now
  now_counted others p maps p-on is = elim (cases_eq p q) [
    | inl same ↦
        let here : host maps ≡ host after = sym is ∙ ap (λ k. get_or now k 0) same ∙ get_or-set_same words q (host after) 0 (let long = size in omega arith) in
        let count = shares_same p in
        let own = ap (shared_leaves pages words) same in
        omega arith
    | inr off ↦
        let count = shares_same p in
        let was_counted = others p maps p-on off (sym (other_page p off) ∙ is) in
        omega arith
  ]

  pub now_clears : Clears pages words now t
  now_clears = record {
    size = length-set words q (host after);
    tables = λ p i p-on low. inl (past (table_word pages p i) (omega arith));
    page = λ p p-on. elim (cases_eq p q) [
      | inl same ↦ inr (before, after, ap (λ k. get_or words k 0) same ∙ was, ap (λ k. get_or now k 0) same ∙ get_or-set_same words q (host after) 0 (let long = size in omega arith))
      | inr off ↦ inl (other_page p off)
    ];
    behind = λ k high. past k (omega arith);
  }
