-- What is left after the pages of a TVM were taken back.
use Rattle.std.proofs.Common.{◌≡◌, ◌≢◌, ℕ, zero, suc, ◌+◌, ◌-◌, ◌*◌, ◌^◌, ◌<◌, ◌≤◌, ◌⊎◌, ◌∙◌, true, false, true≢false, eqb, eqb-true, eq-eqb, List, [], ◌∷◌, ◌++◌, get_or, length, length-set, set, Option, Some, None, refl, sym, ap, subst, inl, inr, arith, get_or-set_other, get_or-set_same}
use Rattle.std.proofs.lemmas.Bool.{cases_Bool, cases_eq, or_cases, or_left, or_right}
use Rattle.std.proofs.lemmas.List.{map-append}
use Rattle.std.proofs.lemmas.List.Folds.{list_any_at}
use Rattle.std.proofs.lemmas.Option.{none-some, same_Some}
use Rattle.std.specs.List.{range_with_len}
use Rattle.cove_base.proofs.StoreLemmas.{AllAllowed-split, length-stored, stored-append}
use Rattle.cove_base.specs.Modes.{leaves_of}
use Rattle.cove_model.specs.Machine.{given, host, released, hart_word, page_word, table_word, AllAllowed, stored, Role, Root, Table, Vcpu, Data, ChangesPage, Frees, IsLawful, IsLeft, IsTableOf, TakesBack, has, Seat, find_cpu}
use Rattle.cove_base.specs.Tables.{Slot, IsSlot, Names, entry_at, next_table}
use Rattle.cove_base.specs.declared.numbers.Role.TheVariants.{State}
use Rattle.cove_clear.specs.Clearing.{Clears, IsBeingCleared}
use Rattle.cove_host.specs.Released.{all_cpu_pages, cpu_pages, release_stores}
use Rattle.cove_model.proofs.Distinct.{has_left, has_right}
use Rattle.cove_model.proofs.LeafWords.{given_host, none_named}
use Rattle.cove_model.proofs.Members.{has_append, has_range, range_has}
use Rattle.cove_model.specs.TableLaw.{shared_leaves, is_shared_leaf}
use Rattle.cove_model.specs.Tvms.{Cpu, Tvm as ModelTvm}
use Rattle.cove_imsic.specs.FileTables.{FileTable}
use Rattle.cove_stage2.proofs.ZeroLemmas.{empty-entries}
use Rattle.cove_tvm.proofs.KeptGround.{window_same}
use Rattle.cove_tvm.specs.DestroyedTvms.{Destroys}
use Rattle.cove_tvm.specs.Slots.{slot_at}
use Rattle.cove_tvm.specs.TvmStands.{LiveStands}
use Rattle.cove_tvm.specs.VcpuStands.{SlotStands}
use Rattle.cove_tvm.specs.declared.machines.Tvm.{Tvm}
use Rattle.cove_tvm.specs.declared.vcpus.VcpuSlot.{VcpuSlot}

-- ---- lists of stores

release_append : (xs ys : List ℕ) → release_stores (xs ++ ys) ≡ release_stores xs ++ release_stores ys
release_append xs ys = map-append (λ p. (page_word p, released)) xs ys

pub release_split : (allows : List ℕ → ℕ → ℕ → Type 0) (words xs ys : List ℕ) → AllAllowed allows words (release_stores (xs ++ ys))
    → AllAllowed allows words (release_stores xs) × AllAllowed allows (stored words (release_stores xs)) (release_stores ys)
release_split allows words xs ys all =
    AllAllowed-split allows words (release_stores xs) (release_stores ys) (subst (AllAllowed allows words) (release_append xs ys) all)

pub release_both : (words xs ys : List ℕ) → stored words (release_stores (xs ++ ys)) ≡ stored (stored words (release_stores xs)) (release_stores ys)
release_both words xs ys = ap (stored words) (release_append xs ys) ∙ stored-append words (release_stores xs) (release_stores ys)

pub release_out : (ps words : List ℕ) (p : ℕ) → has p ps ≡ false → get_or (stored words (release_stores ps)) p 0 ≡ get_or words p 0
release_out [] words p out = refl
release_out (q ∷ ps) words p out = go (cases_Bool (eqb q p)) (cases_Bool (has p ps)) (release_out ps (set words q 3) p)
  where
    go : (eqb q p ≡ true) ⊎ (eqb q p ≡ false) → (has p ps ≡ true) ⊎ (has p ps ≡ false)
        → (has p ps ≡ false → get_or (stored (set words q 3) (release_stores ps)) p 0 ≡ get_or (set words q 3) p 0)
        → get_or (stored words (release_stores (q ∷ ps))) p 0 ≡ get_or words p 0
    go (inl here) cases rest = absurd (true≢false (sym (or_left (eqb q p) (has p ps) here) ∙ out))
    go (inr off) (inl there) rest = absurd (true≢false (sym (or_right (eqb q p) (has p ps) there) ∙ out))
    go (inr off) (inr none) rest = rest none ∙ get_or-set_other words q p 3 0 (λ e. true≢false (sym (eq-eqb q p (sym e)) ∙ off))

pub release_in : (ps words : List ℕ) (p : ℕ) → has p ps ≡ true → p < length words → get_or (stored words (release_stores ps)) p 0 ≡ 3
release_in [] words p there low = absurd (true≢false (sym there))
release_in (q ∷ ps) words p there low = go (cases_Bool (has p ps)) (release_in ps (set words q 3) p)
  where
    go : (has p ps ≡ true) ⊎ (has p ps ≡ false) → (has p ps ≡ true → p < length (set words q 3) → get_or (stored (set words q 3) (release_stores ps)) p 0 ≡ 3)
        → get_or (stored words (release_stores (q ∷ ps))) p 0 ≡ 3
    go (inl more) rest = rest more (let same = length-set words q 3 in omega arith)
    go (inr none) rest = elim (or_cases (eqb q p) (has p ps) there) [
      | inl here ↦
          let same = eqb-true q p here in
          release_out ps (set words q 3) p none ∙ ap (λ k. get_or (set words q 3) k 0) (sym same)
          ∙ get_or-set_same words q 3 0 (subst (λ k. k < length words) (sym same) low)
      | inr more ↦ absurd (true≢false (sym more ∙ none))
    ]

-- a page that is a TVM's, or was taken back
abbrev IsOut : (words : List ℕ) (t p : ℕ) → Type 0
IsOut words t p = ((role : Role) × (get_or words p 0 ≡ given t role)) ⊎ (get_or words p 0 ≡ 3)

-- each of some pages of a TVM that nobody is inside may be taken back
pub release_lawful : (pages harts hart t : ℕ) (last ps words : List ℕ) → 513 * pages ≤ length words → IsLeft pages harts words t
    → ((p : ℕ) → has p ps ≡ true → (p < pages) × IsOut words t p) → AllAllowed (IsLawful pages harts hart last) words (release_stores ps)
release_lawful pages harts hart t last [] words long left each = tt
release_lawful pages harts hart t last (q ∷ ps) words long left each = (
  first here.1,
  release_lawful pages harts hart t last ps (set words q 3) (let same = length-set words q 3 in omega arith)
      (λ k on inside. left k on (inside.0, (inside.1.0, sym (get_or-set_other words q (hart_word pages harts k) 3 0 (let low = here.0 in omega arith)) ∙ inside.1.1)))
      (λ p there. let one = each p (or_right (eqb q p) (has p ps) there) in (one.0, still p one.0 one.1)),
)
  where
    here : (q < pages) × IsOut words t q
    here = each q (or_left (eqb q q) (has q ps) (eq-eqb q q refl))

    first : IsOut words t q → IsLawful pages harts hart last words q 3
    first (inl one) = ChangesPage q here.0 refl (TakesBack t one.0 one.1 refl left)
    first (inr out) = ChangesPage q here.0 refl (Frees (inl out) (inr refl))

    still : (p : ℕ) → p < pages → IsOut words t p → IsOut (set words q 3) t p
    still p on out = elim (cases_eq p q) [
      | inl same ↦ inr (ap (λ k. get_or (set words q 3) k 0) same ∙ get_or-set_same words q 3 0 (let low = here.0 in omega arith))
      | inr off ↦ elim out [
        | inl one ↦ inl (one.0, get_or-set_other words q p 3 0 off ∙ one.1)
        | inr free ↦ inr (get_or-set_other words q p 3 0 off ∙ free)
      ]
    ]

-- ---- a TVM whose tables are clear

module _ (pages harts : ℕ) (words mid : List ℕ) (t : ℕ) (seats : ℕ → Option Seat) (files : FileTable) (tvm : Tvm) (model : ModelTvm) (pool : List ℕ)
    (live : LiveStands pages harts words t seats files tvm model) (leaving : IsBeingCleared pages harts mid t tvm.tables.root.0 (leaves_of tvm.tables.mode) pool) (clears : Clears pages words mid t)
    (empty : (n : ℕ) → n < 2048 → get_or mid (table_word pages tvm.tables.root.0 n) 0 ≡ 0) where
  abbrev root : ℕ
  root = tvm.tables.root.0

  abbrev rest : List ℕ
  rest = range_with_len root 4 ++ (tvm.state.0 ∷ all_cpu_pages tvm)

  abbrev all : List ℕ
  all = pool ++ rest

  abbrev done : List ℕ
  done = stored mid (release_stores all)

  long : 513 * pages ≤ length mid
  long = let size = leaving.clearable.size in omega arith

  -- ---- no entry is left

  no_entry : (a : Slot) → IsSlot a → entry_at pages root mid a ≡ 0
  no_entry = empty-entries pages root mid empty

  no_link : (a : Slot) (q : ℕ) → IsSlot a → entry_at pages root mid a ≡ next_table q → ⊥
  no_link a q slot named = let e = sym (no_entry a slot) ∙ named in absurd (omega arith)

  no_name : (a : Slot) (p : ℕ) → IsSlot a → Names p false (entry_at pages root mid a) → ⊥
  no_name a p slot named = none_named p false (entry_at pages root mid a) (no_entry a slot) named

  -- ---- the TVM's pages

  given_mid : (p : ℕ) (role : Role) → p < pages → get_or words p 0 ≡ given t role → get_or mid p 0 ≡ given t role
  given_mid p role on is = elim (clears.page p on) [
    | inl same ↦ same ∙ is
    | inr hosts ↦ absurd (given_host t hosts.0 role (sym is ∙ hosts.2))
  ]

  cpu_has : (p : ℕ) (one : Option VcpuSlot) (slot : VcpuSlot) → one ≡ Some slot → slot.page.0 ≡ p → has p (cpu_pages one) ≡ true
  cpu_has p None slot is page = absurd (none-some slot is)
  cpu_has p (Some x) slot is page = or_left (eqb x.page.0 p) (has p []) (eq-eqb x.page.0 p (ap (λ (s : VcpuSlot). s.page.0) (same_Some x slot is) ∙ page))

  cpus_have : (p v : ℕ) (slot : VcpuSlot) → slot_at tvm v ≡ Some slot → slot.page.0 ≡ p → has p (all_cpu_pages tvm) ≡ true
  cpus_have p zero slot is page = has_left p (cpu_pages tvm.v0) _ (cpu_has p tvm.v0 slot is page)
  cpus_have p (suc zero) slot is page = has_right p (cpu_pages tvm.v0) _ (has_left p (cpu_pages tvm.v1) _ (cpu_has p tvm.v1 slot is page))
  cpus_have p (suc (suc zero)) slot is page =
      has_right p (cpu_pages tvm.v0) _ (has_right p (cpu_pages tvm.v1) _ (has_left p (cpu_pages tvm.v2) _ (cpu_has p tvm.v2 slot is page)))
  cpus_have p (suc (suc (suc zero))) slot is page =
      has_right p (cpu_pages tvm.v0) _ (has_right p (cpu_pages tvm.v1) _ (has_right p (cpu_pages tvm.v2) _ (cpu_has p tvm.v3 slot is page)))
  cpus_have p (suc (suc (suc (suc v)))) slot is page = absurd (none-some slot is)

  own_in : (p : ℕ) (role : Role) → p < pages → get_or words p 0 ≡ given t role → has p all ≡ true
  own_in p Root on is =
      let found = live.owned.found p Root on is in
      has_right p pool rest (has_left p (range_with_len root 4) (tvm.state.0 ∷ all_cpu_pages tvm) (has_range root 4 p found.0 found.1))
  own_in p State on is =
      let found = live.owned.found p State on is in
      has_right p pool rest (has_right p (range_with_len root 4) (tvm.state.0 ∷ all_cpu_pages tvm) (or_left (eqb tvm.state.0 p) (has p (all_cpu_pages tvm)) (eq-eqb tvm.state.0 p found)))
  own_in p Table on is = elim (leaving.gathered.tables p on (given_mid p Table on is)) [
    | inl there ↦ has_left p pool rest there
    | inr linked ↦ absurd (no_link linked.0 p linked.1 linked.2)
  ]
  own_in p Vcpu on is =
      let found = live.owned.found p Vcpu on is in
      has_right p pool rest (has_right p (range_with_len root 4) (tvm.state.0 ∷ all_cpu_pages tvm)
      (or_right (eqb tvm.state.0 p) (has p (all_cpu_pages tvm)) (cpus_have p found.0 found.1 found.2 found.3)))
  own_in p Data on is = elim (leaving.gathered.memory p on (given_mid p Data on is)) [
    | inl there ↦ has_left p pool rest there
    | inr mapped ↦ absurd (no_name mapped.0 p mapped.1 mapped.2)
  ]

  abbrev IsOwn : ℕ → Type 0
  IsOwn p = (p < pages) × ((role : Role) × (get_or mid p 0 ≡ given t role))

  cpu_own : (p v : ℕ) (one : Option VcpuSlot) (cpu : Option Cpu) → SlotStands pages harts words seats files t v one cpu → has p (cpu_pages one) ≡ true → IsOwn p
  cpu_own p v None cpu stands there = absurd (true≢false (sym there))
  cpu_own p v (Some slot) None stands there = absurd stands
  cpu_own p v (Some slot) (Some cpu) stands there = elim (or_cases (eqb slot.page.0 p) (has p []) there) [
    | inl here ↦ subst IsOwn (eqb-true slot.page.0 p here) (stands.page_fits, (Vcpu, given_mid slot.page.0 Vcpu stands.page_fits stands.page_is))
    | inr none ↦ absurd (true≢false (sym none))
  ]

  cpus_own : (p : ℕ) → has p (all_cpu_pages tvm) ≡ true → IsOwn p
  cpus_own p there = elim (has_append p (cpu_pages tvm.v0) _ there) [
    | inl one ↦ cpu_own p 0 tvm.v0 (find_cpu model 0) (live.fields.cpu 0) one
    | inr more ↦ elim (has_append p (cpu_pages tvm.v1) _ more) [
      | inl one ↦ cpu_own p 1 tvm.v1 (find_cpu model 1) (live.fields.cpu 1) one
      | inr most ↦ elim (has_append p (cpu_pages tvm.v2) _ most) [
        | inl one ↦ cpu_own p 2 tvm.v2 (find_cpu model 2) (live.fields.cpu 2) one
        | inr one ↦ cpu_own p 3 tvm.v3 (find_cpu model 3) (live.fields.cpu 3) one
      ]
    ]
  ]

  pub all_own : (p : ℕ) → has p all ≡ true → IsOwn p
  all_own p there = elim (has_append p pool rest there) [
    | inl pooled ↦ (leaving.gathered.on_board p pooled, elim (leaving.gathered.own p pooled) [ inl is ↦ (Table, is) | inr is ↦ (Data, is) ])
    | inr more ↦ elim (has_append p (range_with_len root 4) (tvm.state.0 ∷ all_cpu_pages tvm) more) [
      | inl in_root ↦
          let at = range_has root 4 p in_root in
          let low = at.0 in
          let high = at.1 in
          let fits = leaving.clearable.root_is.fits in
          let is : root + (p - root) ≡ p = omega arith in
          (omega arith, (Root, ap (λ k. get_or mid k 0) (sym is) ∙ leaving.clearable.root_is.roots (p - root) (omega arith)))
      | inr most ↦ elim (or_cases (eqb tvm.state.0 p) (has p (all_cpu_pages tvm)) most) [
        | inl here ↦ subst IsOwn (eqb-true tvm.state.0 p here) (live.owned.state_fits, (State, given_mid tvm.state.0 State live.owned.state_fits live.owned.state_is))
        | inr cpus ↦ cpus_own p cpus
      ]
    ]
  ]

  -- the stores are lawful
  pub all_lawful : (hart : ℕ) (last : List ℕ) → AllAllowed (IsLawful pages harts hart last) mid (release_stores all)
  all_lawful hart last = release_lawful pages harts hart t last all mid long leaving.clearable.left (λ p there. let own = all_own p there in (own.0, inl own.1))

  -- a page that isn't the TVM's
  not_in : (p : ℕ) → ((role : Role) → get_or mid p 0 ≢ given t role) → has p all ≡ false
  not_in p none = elim (cases_Bool (has p all)) [
    | inl there ↦ let own = (all_own p there).1 in absurd (none own.0 own.1)
    | inr out ↦ out
  ]

  past : (k : ℕ) → pages ≤ k → get_or done k 0 ≡ get_or mid k 0
  past k high = release_out all mid k (elim (cases_Bool (has k all)) [
    | inl there ↦ let on = (all_own k there).0 in absurd (omega arith)
    | inr out ↦ out
  ])

  shares_same : (p : ℕ) → shared_leaves pages done p ≡ shared_leaves pages mid p
  shares_same p =
      window_same pages p mid done (length-stored mid (release_stores all)) (λ i low. ap (is_shared_leaf p) (past (pages + i) (omega arith)))

  -- the words that hosts' pages have
  host_done : (p maps : ℕ) → p < pages → get_or mid p 0 ≡ host maps → get_or done p 0 ≡ host (shared_leaves pages done p)
  host_done p maps on is =
      let same = release_out all mid p (not_in p (λ role e. given_host t maps role (sym e ∙ is))) in
      let count = leaving.counted p maps on is in
      same ∙ is ∙ ap host (count ∙ sym (shares_same p))

  own_table : (p i : ℕ) → p < pages → i < 512 → IsTableOf words t p → get_or mid (table_word pages p i) 0 ≡ 0
  own_table p i on low (inl is) =
      let found = live.owned.found p Root on is in
      let first = found.0 in
      let over = found.1 in
      let at : table_word pages root (512 * (p - root) + i) ≡ table_word pages p i = omega arith in
      ap (λ k. get_or mid k 0) (sym at) ∙ empty (512 * (p - root) + i) (omega arith)
  own_table p i on low (inr is) = elim (leaving.gathered.tables p on (given_mid p Table on is)) [
    | inl there ↦ leaving.gathered.empty p i there (given_mid p Table on is) low
    | inr linked ↦ absurd (no_link linked.0 p linked.1 linked.2)
  ]

  pub all_destroys : Destroys pages words done t
  all_destroys = record {
    size = length-stored mid (release_stores all) ∙ clears.size;
    tables = λ p i on low own. past (table_word pages p i) (omega arith) ∙ own_table p i on low own;
    others = λ p i on low out. past (table_word pages p i) (omega arith) ∙ elim (clears.tables p i on low) [ inl same ↦ same | inr gone ↦ absurd (out gone.0) ];
    own = λ p role on is. release_in all mid p (own_in p role on is) (let size = long in omega arith);
    hosts = λ p maps on is. elim (clears.page p on) [
      | inl same ↦ host_done p maps on (same ∙ is)
      | inr hosts ↦ host_done p hosts.1 on hosts.3
    ];
    rest = λ p on no_own no_host. elim (clears.page p on) [
      | inl same ↦ release_out all mid p (not_in p (λ role e. no_own role (sym same ∙ e))) ∙ same
      | inr hosts ↦ absurd (no_host hosts.0 hosts.2)
    ];
    behind = λ place high. past place (omega arith) ∙ clears.behind place high;
  }

pub has_at : (ps : List ℕ) (k : ℕ) → k < length ps → has (get_or ps k 0) ps ≡ true
has_at ps k low = list_any_at (λ m. eqb m (get_or ps k 0)) ps k 0 low (eq-eqb (get_or ps k 0) (get_or ps k 0) refl)

pub has_more : (p q : ℕ) (ps : List ℕ) → has p ps ≡ true → has p (q ∷ ps) ≡ true
has_more p q ps there = or_right (eqb q p) (has p ps) there

-- stores leave places places
pub long_next : (old new : List ℕ) (ss : List (ℕ × ℕ)) → new ≡ stored old ss → length new ≡ length old
long_next old new ss e = ap length e ∙ length-stored old ss

pub place_next : (old new : List ℕ) (ss : List (ℕ × ℕ)) (p : ℕ) → new ≡ stored old ss → (p < length old) × (p < 2 ^ 16) → (p < length new) × (p < 2 ^ 16)
place_next old new ss p e place = let low = place.0 in let same = long_next old new ss e in (omega arith, place.1)
