-- What holds of a TVM before it is destroyed.
use Rattle.std.proofs.Common.{◌≡◌, ℕ, zero, suc, ◌+◌, ◌*◌, ◌/◌, ◌%◌, ◌^◌, ◌<◌, ◌≤◌, ◌⊎◌, ◌∙◌, ◌||◌, Bool, true, false, true≢false, cond, eqb, eqb-true, eq-eqb, List, [], ◌∷◌, get_or, length, map, Option, Some, None, refl, sym, ap, subst, inl, inr, arith}
use Rattle.std.proofs.lemmas.Bool.{cases_Bool, cases_lt, eq-eqb, ne_eqb, or_cases, or_left, or_right}
use Rattle.std.proofs.lemmas.List.{get_or_default}
use Rattle.std.proofs.lemmas.Option.{none-some}
use Rattle.std.specs.Prelude.{Contains}
use Rattle.cove_base.proofs.TableLemmas.{next-cases}
use Rattle.cove_base.proofs.TreeLemmas.{named-above, named-outside}
use Rattle.cove_base.specs.Modes.{leaves_of}
use Rattle.cove_model.specs.Machine.{given, host, hart_word, Root, Table, Data, at, AreOwned, IsBehindLeaf, IsLeft, IsRoot, mapping_of, page_under, AreDistinct, IsOrderly, AsData, Converting, Free, Given, Host, Owner, Purpose, has, page_at, IsBacked, IsSound, IsSoundMapping, IsSoundTvm, PageStands, answered_in, epoch_in, maps_of, role_of}
use Rattle.cove_base.specs.Tables.{Slot, At, ATable, IsLink, IsSlot, Names, NoTable, entry_at, entry_in, leaf_at, next_table, present, slots_at}
use Rattle.cove_clear.proofs.Counting.{leaf_counts}
use Rattle.cove_clear.specs.Clearing.{AreCounted, AreGathered, IsBeingCleared}
use Rattle.cove_host.specs.HartsInside.{is_inside}
use Rattle.cove_model.proofs.KeyedLemmas.{at_key}
use Rattle.cove_model.proofs.LeafWords.{blocked_named, given_host, given_role, next_named, none_named, present_named}
use Rattle.cove_model.proofs.Lists.{all_at}
use Rattle.cove_model.proofs.OwnedStores.{one_root}
use Rattle.cove_model.proofs.StandLemmas.{host_page}
use Rattle.cove_model.specs.States.{State as MonitorState, find_tvm, harts_inside}
use Rattle.cove_model.specs.Tvms.{Backing, HostPage, Mapping, OwnPage, Standing, Blocked, Present, Tvm as ModelTvm}
use Rattle.cove_tvm.proofs.GivenPages.{given_owner}
use Rattle.cove_tvm.specs.LeafStands.{LeafStands, StandingStands, leaf_of}
use Rattle.cove_tvm.specs.Stands.{Stands}
use Rattle.cove_tvm.specs.TvmStands.{LiveStands, TvmStands}
use Rattle.cove_tvm.specs.TvmTables.{live_at}
use Rattle.cove_tvm.specs.declared.ground.Ground.{Ground}
use Rattle.cove_tvm.specs.declared.machines.Tvm.{Tvm}

-- ---- lists

has_index : (p : ℕ) (ps : List ℕ) → has p ps ≡ true → (k : ℕ) × (k < length ps) × (get_or ps k 0 ≡ p)
has_index p [] e = absurd (true≢false (sym e))
has_index p (q ∷ ps) e = elim (or_cases (eqb q p) (has p ps) e) [
  | inl here ↦ (0, omega arith, eqb-true q p here)
  | inr there ↦ let one = has_index p ps there in (suc one.0, (let low = one.1 in omega arith), one.2)
]

index_has : (ps : List ℕ) (k : ℕ) → k < length ps → has (get_or ps k 0) ps ≡ true
index_has [] k low = absurd (omega arith)
index_has (q ∷ ps) zero low = or_left (eqb q q) (has q ps) (eq-eqb q q refl)
index_has (q ∷ ps) (suc k) low = or_right (eqb q (get_or ps k 0)) (has (get_or ps k 0) ps) (index_has ps k (omega arith))

distinct_from : (ps : List ℕ) → ((j k : ℕ) → j < length ps → k < length ps → get_or ps j 0 ≡ get_or ps k 0 → j ≡ k) → AreDistinct ps
distinct_from [] differ = tt
distinct_from (p ∷ ps) differ = (
  elim (cases_Bool (has p ps)) [
    | inl there ↦
        let one = has_index p ps there in
        absurd (let low = one.1 in let same : 0 ≡ suc one.0 = differ 0 (suc one.0) (omega arith) (omega arith) (sym one.2) in omega arith)
    | inr none ↦ none
  ],
  distinct_from ps (λ j k j-low k-low e. let same : suc j ≡ suc k = differ (suc j) (suc k) (omega arith) (omega arith) e in omega arith),
)

has_found : (t : ℕ) (tvms : List ModelTvm) → has t (map (λ (tvm : ModelTvm). tvm.number) tvms) ≡ true → (v : ModelTvm) × (at (λ (tvm : ModelTvm). tvm.number) t tvms ≡ Some v)
has_found t [] e = absurd (true≢false (sym e))
has_found t (x ∷ xs) e = go (eqb x.number t) e (has_found t xs)
  where
    go : (b : Bool) → (b || has t (map (λ (tvm : ModelTvm). tvm.number) xs)) ≡ true
        → (has t (map (λ (tvm : ModelTvm). tvm.number) xs) ≡ true → (v : ModelTvm) × (at (λ (tvm : ModelTvm). tvm.number) t xs ≡ Some v))
        → (v : ModelTvm) × (cond b (Some x) (at (λ (tvm : ModelTvm). tvm.number) t xs) ≡ Some v)
    go true q more = (x, refl)
    go false q more = more q

data_guest : (t g u h : ℕ) → Given t (AsData g) ≡ Given u (AsData h) → g ≡ h
data_guest t g u h e = ap guest_in e
  where
    guest_of : Purpose → ℕ
    guest_of (AsData guest) = guest
    guest_of purpose = 0

    guest_in : Owner → ℕ
    guest_in (Given tvm purpose) = guest_of purpose
    guest_in owner = 0

-- ---- a state that words and ground stand for

module _ (words : List ℕ) (G : Ground) (S : MonitorState) (stands : Stands words G S) (sound : IsSound S) (few : G.pages ≤ 2 ^ 16) where
  page_is : (p : ℕ) → p < G.pages → PageStands G.harts (epoch_in G.pages words) (answered_in G.pages words) (maps_of S p) (get_or words p 0) (page_at S.pages p)
  page_is p on = stands.words_stand.stands.owners.page p on

  long : 513 * G.pages ≤ length words
  long = let size = stands.words_stand.stands.size in omega arith

  -- a page of the host's counts its leaves
  host_counts : (p maps : ℕ) → p < G.pages → (o : Owner)
      → PageStands G.harts (epoch_in G.pages words) (answered_in G.pages words) (maps_of S p) (get_or words p 0) o → get_or words p 0 ≡ host maps → maps ≡ maps_of S p
  host_counts p maps on (Host ws) is word = let both = sym word ∙ is in omega arith
  host_counts p maps on (Converting held waiting ws) pends word = absurd (let is = pends.is in omega arith)
  host_counts p maps on Free (inl is) word = absurd (omega arith)
  host_counts p maps on Free (inr is) word = absurd (let conv : get_or words p 0 ≡ 8 * is.0 + 1 = is.1 in omega arith)
  host_counts p maps on (Given u purpose) is word = absurd (given_host u maps (role_of purpose) (sym is.2 ∙ word))

  pub counted : AreCounted G.pages words
  counted p maps on word = host_counts p maps on (page_at S.pages p) (page_is p on) word ∙ sym (stands.counted p on)

  -- ---- a live TVM

  module _ (u : ℕ) (tvm : Tvm) (model : ModelTvm) (live : LiveStands G.pages G.harts words u S.seats G.files tvm model) (found : find_tvm S u ≡ Some model) where
    abbrev root : ℕ
    root = tvm.tables.root.0

    abbrev leaves : ℕ
    leaves = leaves_of tvm.tables.mode

    -- an entry that names a page as a leaf is at the depth of the leaves
    link_unnamed : (p entry : ℕ) (s : Bool) → IsLink G.pages root entry → Names p s entry → ⊥
    link_unnamed p entry s (NoTable e) named = none_named p s entry e named
    link_unnamed p entry s (ATable q out e) named = next_named p s entry q e named

    not_deeper : (d n p : ℕ) (s : Bool) → leaves < d → n < slots_at d → Names p s (entry_in G.pages root words d n) → ⊥
    not_deeper zero n p s deep slot named = omega arith
    not_deeper (suc d) n p s deep slot named = elim (next-cases G.pages (entry_in G.pages root words d (n / 512))) [
      | inl (q, link) ↦ let above = (named-above G.pages root leaves words live.tables.tree (At d (n / 512)) q (omega arith) link).0 in omega (arith, above)
      | inr none ↦ none_named p s (entry_in G.pages root words (suc d) n) (none words (n % 512)) named
    ]

    leaf_depth : (d n p : ℕ) (s : Bool) → n < slots_at d → Names p s (entry_in G.pages root words d n) → d ≡ leaves
    leaf_depth d n p s slot named = elim (cases_lt d leaves) [
      | inl above ↦ absurd (link_unnamed p (entry_in G.pages root words d n) s (live.tables.tree.links (At d n) (above, slot)) named)
      | inr low ↦ elim (cases_lt leaves d) [ inl deep ↦ absurd (not_deeper d n p s deep slot named) | inr high ↦ omega (arith, low, high) ]
    ]

    -- what is behind a leaf that names a page
    record Maps (g p : ℕ) (shared : Bool) : Type 0 where
      on : p < G.pages
      behind : IsBehindLeaf words u p shared
      own : shared ≡ false → page_at S.pages p ≡ Given u (AsData g)

    board_link : (a : Slot) (page : ℕ) → IsSlot a → entry_at G.pages root words a ≡ next_table page → page < G.pages
    board_link a page slot named = (named-outside G.pages root leaves words live.tables.tree a page slot named).0

    sound_mapping : (g : ℕ) (m : Mapping) → mapping_of model g ≡ Some m → IsBacked S.pages u g m.backing
    sound_mapping g m maps =
        let all = all_at (IsSoundTvm S) (λ (tvm : ModelTvm). tvm.number) u S.tvms model found sound.tvms_sound in
        let one = all_at (IsSoundMapping S.pages (harts_inside S model.number) model.number) (λ (x : Mapping). x.guest) g model.mappings m maps all in
        let number = at_key (λ (tvm : ModelTvm). tvm.number) u S.tvms model found in
        let guest = at_key (λ (x : Mapping). x.guest) g model.mappings m maps in
        subst (λ n. IsBacked S.pages n g m.backing) number (subst (λ n. IsBacked S.pages model.number n m.backing) guest one.backed)

    module _ (g p : ℕ) (shared : Bool) (low : g < slots_at leaves) (small : p < 2 ^ 16) (named : Names p shared (leaf_at G.pages root leaves words g)) where
      same_page : (q : ℕ) (kind : Bool) (s : Standing) → q < 2 ^ 16
          → StandingStands G.pages G.harts words u (present q kind) (leaf_at G.pages root leaves words g) s → (p ≡ q) × (shared ≡ kind)
      same_page q kind Present q-small is = present_named p shared (leaf_at G.pages root leaves words g) q kind is named
      same_page q kind (Blocked held waiting) q-small is = blocked_named p shared (leaf_at G.pages root leaves words g) q kind is.since small q-small is.is named

      own_maps : (own : List ℕ) → p < G.pages → IsBacked S.pages u g (OwnPage p own) → shared ≡ false → Maps g p shared
      own_maps own on backed kind =
          let word = (subst (PageStands G.harts (epoch_in G.pages words) (answered_in G.pages words) (maps_of S p) (get_or words p 0)) backed.0 (page_is p on)).2 in
          record {
            on = on;
            behind = subst (IsBehindLeaf words u p) (sym kind) word;
            own = λ e. backed.0;
          }

      host_maps : p < G.pages → IsBacked S.pages u g (HostPage p) → shared ≡ true → Maps g p shared
      host_maps on backed kind =
          let held = host_page (page_at S.pages p) backed in
          let word : get_or words p 0 ≡ host (maps_of S p) =
          subst (PageStands G.harts (epoch_in G.pages words) (answered_in G.pages words) (maps_of S p) (get_or words p 0)) held.1 (page_is p on) in
          let some = leaf_counts G.pages words root long live.tables.tree.fits board_link (At leaves g) p low small (subst (λ s. Names p s (leaf_at G.pages root leaves words g)) kind named) in
          let count = stands.counted p on in
          record {
            on = on;
            behind = subst (IsBehindLeaf words u p) (sym kind) (maps_of S p, omega arith, word);
            own = λ e. absurd (true≢false (sym kind ∙ e));
          }

      by_backing : (b : Backing) (s : Standing) → (page_under b < G.pages) × StandingStands G.pages G.harts words u (leaf_of b) (leaf_at G.pages root leaves words g) s
          → IsBacked S.pages u g b → Maps g p shared
      by_backing (OwnPage page own) s st backed =
          let on : page < G.pages = st.0 in
          let same = same_page page false s (omega arith) st.1 in
          own_maps own (subst (λ k. k < G.pages) (sym same.0) on) (subst (λ k. IsBacked S.pages u g (OwnPage k own)) (sym same.0) backed) same.1
      by_backing (HostPage page) s st backed =
          let on : page < G.pages = st.0 in
          let same = same_page page true s (omega arith) st.1 in
          host_maps (subst (λ k. k < G.pages) (sym same.0) on) (subst (λ k. IsBacked S.pages u g (HostPage k)) (sym same.0) backed) same.1

      leaf_maps : Maps g p shared
      leaf_maps = go (mapping_of model g) refl (live.mappings.leaf g low)
        where
          go : (m : Option Mapping) → mapping_of model g ≡ m → LeafStands G.pages G.harts words u (leaf_at G.pages root leaves words g) m → Maps g p shared
          go None is stand = absurd (none_named p shared (leaf_at G.pages root leaves words g) stand named)
          go (Some m) is stand = by_backing m.backing m.standing stand (sound_mapping g m is)

    -- an entry that names a page as a leaf is the leaf of a guest page
    slot_maps : (a : Slot) (p : ℕ) (shared : Bool) → IsSlot a → p < 2 ^ 16 → Names p shared (entry_at G.pages root words a) → (g : ℕ) × (a ≡ At leaves g) × Maps g p shared
    slot_maps (At d n) p shared slot small named =
        let deep = leaf_depth d n p shared slot named in (
          n,
          ap (λ k. At k n) deep,
          leaf_maps n p shared (subst (λ k. n < slots_at k) deep slot) small (subst (λ k. Names p shared (entry_in G.pages root words k n)) deep named),
        )

    live_owned : AreOwned G.pages words u root
    live_owned = record {
      root_is = live.tables.given.root_is;
      linked = λ a page slot named. (board_link a page slot named, live.tables.given.linked a page slot named);
      apart = live.tables.tree.apart;
      backed = λ a page shared slot small named. let maps = (slot_maps a page shared slot small named).2 in (maps.on, maps.behind);
    }

    live_once : (a b : Slot) (p : ℕ) → IsSlot a → IsSlot b → p < G.pages → Names p false (entry_at G.pages root words a) → Names p false (entry_at G.pages root words b) → a ≡ b
    live_once a b p slot other on first second =
        let one = slot_maps a p false slot (omega arith) first in
        let two = slot_maps b p false other (omega arith) second in
        one.1 ∙ ap (At leaves) (data_guest u one.0 u two.0 (sym (one.2.own refl) ∙ two.2.own refl)) ∙ sym two.1

    no_data : (p : ℕ) → get_or words p 0 ≡ given u Table → get_or words p 0 ≡ given u Data → ⊥
    no_data p table is = absurd (omega (arith, given_role u u Table Data (sym table ∙ is)))

    pool_table : (p : ℕ) → has p tvm.pool.pages ≡ true → (p < G.pages) × (get_or words p 0 ≡ given u Table)
    pool_table p there =
        let one = has_index p tvm.pool.pages there in (
          subst (λ k. k < G.pages) one.2 (live.tables.spare.each one.0 one.1).outside.0,
          ap (λ k. get_or words k 0) (sym one.2) ∙ live.tables.given.spare one.0 one.1,
        )

    not_pooled : (p : ℕ) → (has p tvm.pool.pages ≡ true → ⊥) → has p tvm.pool.pages ≡ false
    not_pooled p out = elim (cases_Bool (has p tvm.pool.pages)) [ inl there ↦ absurd (out there) | inr none ↦ none ]

    live_gathered : AreGathered G.pages words u root tvm.pool.pages
    live_gathered = record {
      differ = distinct_from tvm.pool.pages live.tables.spare.differ;
      on_board = λ p there. (pool_table p there).0;
      own = λ p there. inl (pool_table p there).1;
      empty = λ p i there is low.
          let one = has_index p tvm.pool.pages there in
          subst (λ k. get_or words (G.pages + 512 * k + i) 0 ≡ 0) one.2 ((live.tables.spare.each one.0 one.1).zeros i low);
      unlinked = λ a p slot named. not_pooled p (λ there.
          let one = has_index p tvm.pool.pages there in
          (live.tables.spare.each one.0 one.1).unnamed a slot (named ∙ ap next_table (sym one.2)));
      unmapped = λ a p slot on named. not_pooled p (λ there. no_data p (pool_table p there).1 (slot_maps a p false slot (omega arith) named).2.behind);
      tables = λ p on is. from_table p (live.owned.found p Table on is);
      memory = λ p on is. let found = live.owned.found p Data on is in inr (At leaves found.0, found.1, found.2);
    } where
      from_table : (p : ℕ) → Contains tvm.pool.pages p ⊎ ((a : Slot) × IsSlot a × (entry_at G.pages root words a ≡ next_table p))
          → (has p tvm.pool.pages ≡ true) ⊎ ((a : Slot) × IsSlot a × (entry_at G.pages root words a ≡ next_table p))
      from_table p (inl pooled) =
          let same : get_or tvm.pool.pages pooled.0 0 ≡ p = get_or_default tvm.pool.pages pooled.0 0 p pooled.1 ∙ pooled.2 in
          inl (subst (λ k. has k tvm.pool.pages ≡ true) same (index_has tvm.pool.pages pooled.0 pooled.1))
      from_table p (inr linked) = inr linked

  -- ---- every TVM

  every_owned : IsOrderly S → (u r : ℕ) → IsRoot G.pages words u r → AreOwned G.pages words u r
  every_owned orderly u r is = go (live_at G.tvms u) (find_tvm S u) refl (stands.tvm u)
    where
      first : get_or words r 0 ≡ given u Root
      first = let at : r + 0 ≡ r = omega arith in ap (λ p. get_or words p 0) (sym at) ∙ is.roots 0 (omega arith)

      there : (v : ModelTvm) × (find_tvm S u ≡ Some v)
      there =
          let fits = is.fits in
          let owner = given_owner G.harts (epoch_in G.pages words) (answered_in G.pages words) (maps_of S r) (get_or words r 0) u Root (page_at S.pages r) (page_is r (omega arith)) first in
          has_found u S.tvms (orderly.given r u owner.0 owner.1)

      go : (x : Option Tvm) (v : Option ModelTvm) → find_tvm S u ≡ v → TvmStands G.pages G.harts words u S.seats G.files x v → AreOwned G.pages words u r
      go None None e stand = absurd (none-some there.0 (sym e ∙ there.1))
      go None (Some v) e stand = absurd stand
      go (Some x) None e stand = absurd stand
      go (Some x) (Some v) e stand =
          subst (AreOwned G.pages words u) (one_root G.pages words u x.tables.root.0 r stand.tables.given.root_is is) (live_owned u x v stand e)

  -- ---- nobody inside

  none_inside : (t : ℕ) → 1 ≤ t → ((hart : ℕ) → hart < G.harts → is_inside G.pages G.harts words t hart ≡ false) → IsLeft G.pages G.harts words t
  none_inside t low none hart on inside =
      let small = inside.1.0 in
      let word = inside.1.1 in
      let some = ne_eqb (get_or words (hart_word G.pages G.harts hart) 0) 0 (λ e. omega arith) in
      let number : get_or words (hart_word G.pages G.harts hart) 0 / 2 ^ 32 ≡ t = omega arith in
      true≢false
      (sym (ap (λ b. cond b false (eqb (get_or words (hart_word G.pages G.harts hart) 0 / 2 ^ 32) t)) some ∙ eq-eqb (get_or words (hart_word G.pages G.harts hart) 0 / 2 ^ 32) t number)
      ∙ none hart on)

  pub begins_leaving : IsOrderly S → (t : ℕ) (tvm : Tvm) (model : ModelTvm) → 1 ≤ t → LiveStands G.pages G.harts words t S.seats G.files tvm model → find_tvm S t ≡ Some model
      → ((hart : ℕ) → hart < G.harts → is_inside G.pages G.harts words t hart ≡ false)
      → IsBeingCleared G.pages G.harts words t tvm.tables.root.0 (leaves_of tvm.tables.mode) tvm.pool.pages
  begins_leaving orderly t tvm model low live found none = record {
    clearable = record {
      few = let limit = tvm.tables.limit in let board = live.board in omega arith;
      size = stands.words_stand.stands.size;
      left = none_inside t low none;
      root_is = live.tables.given.root_is;
      tree = live.tables.tree;
      owned = every_owned orderly;
      once = live_once t tvm model live found;
    };
    gathered = live_gathered t tvm model live found;
    counted = counted;
  }
