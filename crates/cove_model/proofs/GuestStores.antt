-- Lawful stores of one hart leave what every other hart inside a TVM relies on.
use Rattle.std.proofs.Common.{◌≡◌, ◌≢◌, ℕ, ◌+◌, ◌*◌, ◌^◌, ◌<◌, ◌≤◌, Bool, true, false, List, [], ◌∷◌, get_or, length, set, length-set, sym, ap, subst, ◌∙◌, inl, inr, ◌⊎◌, arith, get_or-set_other, get_or-set_same}
use Rattle.std.proofs.lemmas.Bool.{cases_eq}
use Rattle.cove_base.proofs.SlotStores.{entries-stay, zero-moves}
use Rattle.cove_base.proofs.TreeLemmas.{entry-stands}
use Rattle.cove_model.specs.Machine.{Holding, all_words, count_word, hart_word, table_word, tvm_word, AllAllowed, stored, ENTRY_LIMIT, TVM_LIMIT, AreOwned, HasEntered, IsBehindLeaf, IsLawful, ChangesPage, ChangesTable, Answers, Begins, FencesTvm, ChangesHart, Enters, Leaves, IsLeft, TableChange, Links, Maps, Blocks, Unblocks, Unmaps, Rewrites, FencesWithin, number_in}
use Rattle.cove_base.specs.TableWords.{blocked}
use Rattle.cove_base.specs.Tables.{Slot, At, IsSlot, Names, StandsAt, entry_at, next_table, present}
use Rattle.cove_model.proofs.LeafWords.{blocked_none, blocked_same, none_named, present_blocked, present_none}
use Rattle.cove_model.proofs.OwnedStores.{Touches, Apart, Within, elsewhere_stored, lawful_touches, no_longer, one_root, owned_store, slots_apart, stands_in}
use Rattle.cove_model.proofs.StoreLawProofs.{stores_keep_fences}
use Rattle.cove_model.specs.TableLaw.{CountsKeepGuests, EntersWithin, IsGuestLive, ListsKeepGuests, MayReach, StoresKeepEntered, StoresKeepGuests, StoresKeepPresent, ZerosKeepOwned}

-- ---- words of harts and numbers of TVMs

-- the number of a TVM never falls
pub number_grows : (pages harts hart : ℕ) (old words : List ℕ) (place word t : ℕ) → length words ≡ all_words pages harts → 1 ≤ t → t ≤ TVM_LIMIT → IsLawful pages harts hart old words place word → number_in pages harts words t ≤ number_in pages harts (set words place word) t
number_grows pages harts hart old words place word t size low high lawful = go lawful
  where
    apart : tvm_word pages harts t ≢ place → number_in pages harts words t ≤ number_in pages harts (set words place word) t
    apart ne = let same = get_or-set_other words place (tvm_word pages harts t) word 0 ne in omega arith

    go : IsLawful pages harts hart old words place word → number_in pages harts words t ≤ number_in pages harts (set words place word) t
    go (ChangesPage page is at change) = apart (omega arith)
    go (ChangesTable tvm page i is under at of change) = apart (omega arith)
    go (Answers is at new) = apart (omega arith)
    go (Begins at room new all) = apart (omega arith)
    go (FencesTvm u some few at room new all) = elim (cases_eq u t) [
      | inl same ↦
          let there : tvm_word pages harts t ≡ place = omega arith in
          let inside : place < length words = omega arith in
          let is : number_in pages harts (set words place word) t ≡ word = ap (λ p. get_or (set words place word) p 0) there ∙ get_or-set_same words place word 0 inside in
          let was : number_in pages harts words u ≡ number_in pages harts words t = ap (number_in pages harts words) same in
          omega arith
      | inr ne ↦ apart (omega arith)
    ]
    go (ChangesHart is at change) = apart (omega arith)

-- a lawful store is none of the word of another hart
pub hart_apart : (pages harts hart : ℕ) (old words : List ℕ) (place word k : ℕ) → k < harts → k ≢ hart → IsLawful pages harts hart old words place word → hart_word pages harts k ≢ place
hart_apart pages harts hart old words place word k on ne (ChangesPage page is at change) = omega arith
hart_apart pages harts hart old words place word k on ne (ChangesTable tvm page i is under at of change) = omega arith
hart_apart pages harts hart old words place word k on ne (Answers is at new) = omega arith
hart_apart pages harts hart old words place word k on ne (Begins at room new all) = omega arith
hart_apart pages harts hart old words place word k on ne (FencesTvm u some few at room new all) = omega arith
hart_apart pages harts hart old words place word k on ne (ChangesHart is at change) = omega arith

-- the word of the hart itself becomes that of a TVM with its number, or 0
own_word : (pages harts hart : ℕ) (old words : List ℕ) (place word : ℕ) → hart < harts → place ≡ hart_word pages harts hart → IsLawful pages harts hart old words place word
    → ((tvm : ℕ) × (1 ≤ tvm) × (tvm ≤ TVM_LIMIT) × (word ≡ 2 ^ 32 * tvm + number_in pages harts words tvm)) ⊎ (word ≡ 0)
own_word pages harts hart old words place word on here (ChangesPage page is at change) = absurd (omega arith)
own_word pages harts hart old words place word on here (ChangesTable tvm page i is under at of change) = absurd (omega arith)
own_word pages harts hart old words place word on here (Answers is at new) = absurd (omega arith)
own_word pages harts hart old words place word on here (Begins at room new all) = absurd (omega arith)
own_word pages harts hart old words place word on here (FencesTvm u some few at room new all) = absurd (omega arith)
own_word pages harts hart old words place word on here (ChangesHart is at (Enters tvm root some few out new owned)) = inl (tvm, some, few, new)
own_word pages harts hart old words place word on here (ChangesHart is at (Leaves tvm was new)) = inr new

pub stores_keep_entered : StoresKeepEntered
stores_keep_entered pages harts hart old words place word size fences within lawful tvm k number low high on entered =
    elim (cases_eq place (hart_word pages harts k)) [
      | inl here ↦ elim (cases_eq k hart) [
        | inl own ↦ own_case here own
        | inr ne ↦ absurd (hart_apart pages harts hart old words place word k on ne lawful (sym here))
      ]
      | inr off ↦
          let was : HasEntered pages harts words tvm k number = (entered.0, sym (get_or-set_other words place (hart_word pages harts k) word 0 (λ e. off (sym e))) ∙ entered.1) in
          let before = within tvm k number low high on was in
          let more = number_grows pages harts hart old words place word tvm size low high lawful in
          omega arith
    ]
  where
    own_case : place ≡ hart_word pages harts k → k ≡ hart → number ≤ number_in pages harts (set words place word) tvm
    own_case here own =
        let inside : place < length words = omega arith in
        let is : word ≡ 2 ^ 32 * tvm + number = sym (get_or-set_same words place word 0 inside) ∙ ap (λ p. get_or (set words place word) p 0) here ∙ entered.1 in
        let small : number < 2 ^ 32 = entered.0 in
        elim (own_word pages harts hart old words place word (subst (λ n. n < harts) own on) (here ∙ ap (hart_word pages harts) own) lawful) [
          | inl enters ↦
              let most = fences.numbers enters.0 enters.1 enters.2 in
              let new : word ≡ 2 ^ 32 * enters.0 + number_in pages harts words enters.0 = enters.3 in
              let same : enters.0 ≡ tvm = omega arith in
              let more = number_grows pages harts hart old words place word tvm size low high lawful in
              let at : number_in pages harts words enters.0 ≡ number_in pages harts words tvm = ap (number_in pages harts words) same in
              omega arith
          | inr left ↦ absurd (omega arith)
        ]

-- ---- what a lawful store leaves of the entries of a TVM that a hart is inside

module _ (pages harts other : ℕ) (old words : List ℕ) (place word tvm root number : ℕ) (size : length words ≡ all_words pages harts) (on : other < harts) (entered : HasEntered pages harts words tvm other number) (owned : AreOwned pages words tvm root) where
  abbrev after_store : List ℕ
  after_store = set words place word

  not_left : IsLeft pages harts words tvm → ⊥
  not_left left = left other on (number, entered)

  touches : {hart : ℕ} → IsLawful pages harts hart old words place word → Touches pages harts old words place word tvm root
  touches lawful = lawful_touches pages harts old words place word tvm root size owned not_left lawful

  -- ---- leaves that the hart may reach

  reach_changed : number ≤ number_in pages harts words tvm → (page : ℕ) (shared : Bool) → page < 2 ^ 16 → TableChange pages harts words tvm old place (get_or words place 0) word → MayReach number page shared (get_or words place 0) → MayReach number page shared word
  reach_changed most page shared small (Links q none is q-below q-given unnamed zeros) reach = absurd (elim reach.1 [ inl e ↦ present_none page shared (sym e ∙ none) | inr b ↦ blocked_none page shared b.0 (sym b.2 ∙ none) ])
  reach_changed most page shared small (Maps p s none is p-below behind) reach = absurd (elim reach.1 [ inl e ↦ present_none page shared (sym e ∙ none) | inr b ↦ blocked_none page shared b.0 (sym b.2 ∙ none) ])
  reach_changed most page shared small (Blocks p s r a p-small was is root_is slot stands before) reach =
      (small, inr (number_in pages harts words tvm, most, is ∙ ap (λ w. blocked w (number_in pages harts words tvm)) (named reach.1)))
    where
      named : ((get_or words place 0 ≡ present page shared) ⊎ ((since : ℕ) × (number ≤ since) × (get_or words place 0 ≡ blocked (present page shared) since))) → get_or words place 0 ≡ present page shared
      named (inl e) = e
      named (inr b) = absurd (present_blocked p s page shared b.0 (sym was ∙ b.2))
  reach_changed most page shared small (Unblocks p s since p-small was is) reach = (small, inl (is ∙ sym (same reach.1)))
    where
      same : ((get_or words place 0 ≡ present page shared) ⊎ ((b : ℕ) × (number ≤ b) × (get_or words place 0 ≡ blocked (present page shared) b))) → present page shared ≡ present p s
      same (inl e) = absurd (present_blocked page shared p s since (sym e ∙ was))
      same (inr b) = let eq = blocked_same page shared b.0 p s since small p-small (sym b.2 ∙ was) in ap (λ q. present q shared) eq.0 ∙ ap (present p) eq.1
  reach_changed most page shared small (Unmaps p s since p-small was is fenced above) reach = absurd (gone reach.1)
    where
      gone : ((get_or words place 0 ≡ present page shared) ⊎ ((b : ℕ) × (number ≤ b) × (get_or words place 0 ≡ blocked (present page shared) b))) → ⊥
      gone (inl e) = present_blocked page shared p s since (sym e ∙ was)
      gone (inr b) =
          let eq = blocked_same page shared b.0 p s since small p-small (sym b.2 ∙ was) in
          let later = above other number on entered in
          let since-is : b.0 ≡ since = eq.2 in
          let held : number ≤ b.0 = b.1 in
          omega arith
  reach_changed most page shared small (Rewrites left) reach = absurd (not_left left)

  reach_by : number ≤ number_in pages harts words tvm → Touches pages harts old words place word tvm root → (a : Slot) (page : ℕ) (shared : Bool) → IsSlot a → MayReach number page shared (entry_at pages root words a) → MayReach number page shared (entry_at pages root after_store a)
  reach_by most (Apart none) a page shared slot reach = subst (MayReach number page shared) (sym (entries-stay pages root words place word none a slot)) reach
  reach_by most (Within change moves) a page shared slot reach = elim (moves a slot) [
    | inl same ↦ subst (MayReach number page shared) (sym same) reach
    | inr moved ↦ subst (MayReach number page shared) (sym moved.1)
        (reach_changed most page shared reach.0 change (subst (MayReach number page shared) (entry-stands pages root words a place moved.0) reach))
  ]

  -- ---- tables that slots name

  link_by : Touches pages harts old words place word tvm root → (a : Slot) (q : ℕ) → IsSlot a → entry_at pages root words a ≡ next_table q → entry_at pages root after_store a ≡ next_table q
  link_by (Apart none) a q slot named = entries-stay pages root words place word none a slot ∙ named
  link_by (Within change moves) a q slot named = elim (moves a slot) [
    | inl same ↦ same ∙ named
    | inr moved ↦ absurd (no_longer pages harts old words place word tvm root size owned not_left change q (sym (entry-stands pages root words a place moved.0) ∙ named))
  ]

  -- ---- entries by which a page is mapped

  present_by : Touches pages harts old words place word tvm root → (a : Slot) (page : ℕ) (shared : Bool) → IsSlot a → entry_at pages root words a ≡ present page shared
      → (entry_at pages root after_store a ≡ present page shared) ⊎ (entry_at pages root old a ≡ present page shared)
  present_by (Apart none) a page shared slot is = inl (entries-stay pages root words place word none a slot ∙ is)
  present_by (Within change moves) a page shared slot is = elim (moves a slot) [
    | inl same ↦ inl (same ∙ is)
    | inr moved ↦ inr (before change moved.0 (sym (entry-stands pages root words a place moved.0) ∙ is))
  ]
    where
      before : TableChange pages harts words tvm old place (get_or words place 0) word → StandsAt pages root words a place → get_or words place 0 ≡ present page shared → entry_at pages root old a ≡ present page shared
      before (Links p none is q-below q-given unnamed zeros) here was = absurd (present_none page shared (sym was ∙ none))
      before (Maps p s none is p-below behind) here was = absurd (present_none page shared (sym was ∙ none))
      before (Blocks p s r b p-small then is root_is b-slot stands at_last) here was =
          let same = one_root pages words tvm r root root_is owned.root_is in
          let one = slots_apart pages words tvm root owned b a place b-slot slot (subst (λ x. StandsAt pages x words b place) same stands) here in
          ap (λ x. entry_at pages x old a) (sym same) ∙ ap (entry_at pages r old) (sym one) ∙ at_last ∙ was
      before (Unblocks p s since p-small then is) here was = absurd (present_blocked page shared p s since (sym was ∙ then))
      before (Unmaps p s since p-small then is fenced above) here was = absurd (present_blocked page shared p s since (sym was ∙ then))
      before (Rewrites left) here was = absurd (not_left left)

pub stores_keep_present : StoresKeepPresent
stores_keep_present pages harts hart other old words place word tvm root page a shared size on inside owned lawful slot is =
    present_by pages harts other old words place word tvm root inside.0 size on inside.1 owned
    (touches pages harts other old words place word tvm root inside.0 size on inside.1 owned lawful) a page shared slot is

-- ---- the whole

pub stores_keep_guests : StoresKeepGuests
stores_keep_guests pages harts hart old words place word tvm root leaves number other small size within ne lawful live =
    let moves = touches pages harts other.hart old words place word tvm root number size live.on_board live.entered live.owned lawful in
    let most = within tvm other.hart number live.low live.high live.on_board live.entered in
    let reach = reach_by pages harts other.hart old words place word tvm root number size live.on_board live.entered live.owned most moves in
    let links = link_by pages harts other.hart old words place word tvm root number size live.on_board live.entered live.owned moves in
    record {
      low = live.low;
      high = live.high;
      on_board = live.on_board;
      entered = (live.entered.0, get_or-set_other words place (hart_word pages harts other.hart) word 0 (hart_apart pages harts hart old words place word other.hart live.on_board ne lawful) ∙ live.entered.1);
      owned = owned_store pages harts old words place word tvm root size live.owned (not_left pages harts other.hart old words place word tvm root number size live.on_board live.entered live.owned) lawful;
      way = λ way is.
          let by = live.way way is in
          record {
            root_is = by.root_is;
            named = λ page among. let at = by.named page among in (at.0, at.1, links at.0 page at.1 at.2);
          };
      fetches = λ g page named. let was = live.fetches g page named in (was.0, reach (At leaves g) page.0 false was.0 was.1);
      accesses = λ g page named. let was = live.accesses g page named in (was.0, (was.1.0, reach (At leaves g) page.0 was.1.0 was.0 was.1.1));
    }

guests_from : (pages harts hart : ℕ) (old : List ℕ) (ss : List (ℕ × ℕ)) (words : List ℕ) (tvm root leaves number : ℕ) (other : Holding) → pages ≤ 2 ^ 16 → length words ≡ all_words pages harts → FencesWithin pages harts words ENTRY_LIMIT → EntersWithin pages harts words → (other.hart ≡ hart → ⊥)
    → AllAllowed (IsLawful pages harts hart old) words ss → IsGuestLive pages harts words tvm root leaves number other → IsGuestLive pages harts (stored words ss) tvm root leaves number other
guests_from pages harts hart old [] words tvm root leaves number other small size fences within ne all live = live
guests_from pages harts hart old (s ∷ ss) words tvm root leaves number other small size fences within ne all live =
    guests_from pages harts hart old ss (set words s.0 s.1) tvm root leaves number other small (length-set words s.0 s.1 ∙ size)
    (stores_keep_fences pages harts hart old words s.0 s.1 size fences all.0)
    (stores_keep_entered pages harts hart old words s.0 s.1 size fences within all.0) ne all.1
    (stores_keep_guests pages harts hart old words s.0 s.1 tvm root leaves number other small size within ne all.0 live)

pub lists_keep_guests : ListsKeepGuests
lists_keep_guests pages harts hart old words new tvm root leaves number other small size fences within ne leads live =
    subst (λ ws. IsGuestLive pages harts ws tvm root leaves number other) (sym leads.2)
    (guests_from pages harts hart old leads.0 words tvm root leaves number other small size fences within ne leads.1 live)

-- the store of the count is to no word of tables, pages or harts
pub counts_keep_guests : CountsKeepGuests
counts_keep_guests pages harts words tvm root leaves number other live =
    let place = count_word pages harts in
    let word = get_or words place 0 + 1 in
    let none : (a : Slot) → IsSlot a → StandsAt pages root words a place → ⊥ = λ a slot at.
    let own = stands_in pages words tvm root live.owned a place slot at in
    let is : place ≡ table_word pages own.page own.i = own.at in
    let below = own.below in
    let low = own.low in
    omega arith in
    let same = entries-stay pages root words place word none in
    let number_apart : hart_word pages harts other.hart ≢ place = let on = live.on_board in omega arith in
    record {
      low = live.low;
      high = live.high;
      on_board = live.on_board;
      entered = (live.entered.0, get_or-set_other words place (hart_word pages harts other.hart) word 0 number_apart ∙ live.entered.1);
      owned = elsewhere_stored pages words tvm root live.owned place word (omega arith) none;
      way = λ way is.
          let by = live.way way is in
          record {
            root_is = by.root_is;
            named = λ page among. let at = by.named page among in (at.0, at.1, same at.0 at.1 ∙ at.2);
          };
      fetches = λ g page named. let was = live.fetches g page named in (was.0, subst (MayReach number page.0 false) (sym (same (At leaves g) was.0)) was.1);
      accesses = λ g page named. let was = live.accesses g page named in (was.0, (was.1.0, subst (MayReach number page.0 was.1.0) (sym (same (At leaves g) was.0)) was.1.1));
    }

-- ---- words that become 0

module _ (pages harts : ℕ) (words : List ℕ) (page i tvm root : ℕ) (size : length words ≡ all_words pages harts) (under : page < pages) (low : i < 512) (owned : AreOwned pages words tvm root) where
  abbrev after_zero : List ℕ
  after_zero = set words (table_word pages page i) 0

  gone_or_not : (a : Slot) → (entry_at pages root after_zero a ≡ entry_at pages root words a) ⊎ (entry_at pages root after_zero a ≡ 0)
  gone_or_not = zero-moves pages root words (table_word pages page i) (omega arith)

  stays : (p : ℕ) → p < pages → get_or after_zero p 0 ≡ get_or words p 0
  stays p p-low = get_or-set_other words (table_word pages page i) p 0 0 (omega arith)

  behind : (q : ℕ) (shared : Bool) → q < pages → IsBehindLeaf words tvm q shared → IsBehindLeaf after_zero tvm q shared
  behind q false q-low was = stays q q-low ∙ was
  behind q true q-low was = (was.0, was.1, stays q q-low ∙ was.2)

  link : (a : Slot) (q : ℕ) → entry_at pages root after_zero a ≡ next_table q → entry_at pages root words a ≡ next_table q
  link a q named = elim (gone_or_not a) [
    | inl same ↦ sym same ∙ named
    | inr gone ↦ let e = sym gone ∙ named in absurd (omega arith)
  ]

  zero_owned : AreOwned pages after_zero tvm root
  zero_owned = record {
    root_is = record {
      fits = owned.root_is.fits;
      roots = λ j j-low. let fits = owned.root_is.fits in stays (root + j) (omega arith) ∙ owned.root_is.roots j j-low;
      least = λ p p-low is. let fits = owned.root_is.fits in owned.root_is.least p p-low (sym (stays p (omega arith)) ∙ is);
    };
    linked = λ a q slot named. let was = owned.linked a q slot (link a q named) in (was.0, stays q was.0 ∙ was.1);
    apart = λ a b q sa sb na nb. owned.apart a b q sa sb (link a q na) (link b q nb);
    backed = λ a q shared slot q-low named. elim (gone_or_not a) [
      | inl same ↦ let was = owned.backed a q shared slot q-low (subst (Names q shared) same named) in (was.0, behind q shared was.0 was.1)
      | inr gone ↦ absurd (none_named q shared (entry_at pages root after_zero a) gone named)
    ];
  }

pub zeros_keep_owned : ZerosKeepOwned
zeros_keep_owned pages harts words page i tvm root size below low owned = zero_owned pages harts words page i tvm root size below low owned
