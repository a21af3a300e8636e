-- The checks and the outcome of a creation.
use Rattle.std.proofs.Common.{◌≡◌, ℕ, ◌+◌, ◌/◌, ◌<◌, ◌≤◌, ◌⊎◌, ◌∙◌, ◌++◌, ◌&&◌, false, List, [], ◌∷◌, get_or, length, Ok, Err, refl, sym, ap, subst, inl, inr, arith, leb, ltb}
use Rattle.std.proofs.lemmas.Bool.{and_from, cases_lt, false≢true, le-leb, leb-false, lt-ltb, not-false}
use Rattle.cove_base.proofs.StoreLemmas.{AllAllowed-split, AllAllowed-weaker, get_or-fills_other, length-stored, stored-append}
use Rattle.cove_base.specs.Measurement.{board_number}
use Rattle.cove_base.specs.Modes.{mode_of}
use Rattle.cove_model.specs.Machine.{given, count_word, epoch_word, tvm_word, AllAllowed, fills, stored, Create, Info, ENTRY_LIMIT, TVM_LIMIT, Root, Reply, Success, AllFree, RoomForTvm, RootAligned, StateApart, WithinMemory, Rule, rule, AllowsLawful, IsLawful, every, is_free, Aligned, Check, FencesWithin}
use Rattle.cove_base.specs.declared.numbers.Role.TheVariants.{State}
use Rattle.cove_host.proofs.CheckedLemmas.{each_passes, none_fails, one_fails}
use Rattle.cove_host.proofs.PassedChecks.{inside_passes}
use Rattle.cove_host.proofs.ReadyWords.{fences_within}
use Rattle.cove_tvm.specs.Called.{Called, IsReady}
use Rattle.cove_host.specs.Checked.{all_checked}
use Rattle.cove_model.specs.States.{State as MonitorState, board_in}
use Rattle.cove_tvm.proofs.CreatedTvm.{create_stands}
use Rattle.cove_tvm.proofs.GivesLawful.{create_is_lawful}
use Rattle.cove_tvm.specs.NewTvms.{MayCreate, create_stores, with_new}
use Rattle.cove_tvm.specs.Stands.{Stands}
use Rattle.cove_tvm.specs.TvmTables.{IsNewTvm, TvmTable}
use Rattle.cove_tvm.specs.declared.ground.Ground.{Ground}
use Rattle.cove_tvm.specs.declared.machines.Tvm.{Tvm}

-- the checks of the call
abbrev pub creation_checks : MonitorState → (root state : ℕ) → List Check
creation_checks S root state =
    RoomForTvm S ∷ RootAligned root ∷ Aligned state ∷ WithinMemory S root 4 ∷ WithinMemory S state 1 ∷ StateApart root state ∷ AllFree S root 4 ∷ AllFree S state 1 ∷ []

-- where all pass, a TVM may be created
pub may_create : (words : List ℕ) (G : Ground) (S : MonitorState) (root state : ℕ) → Stands words G S
    → Ok tt ≡ all_checked (creation_checks S root state) → MayCreate G.pages root state S
may_create words G S root state stands e =
    let pass = each_passes (creation_checks S root state) e in
    record {
      room = leb-false TVM_LIMIT S.made (pass 0);
      root_inside = inside_passes root 4 stands (pass 3);
      state_inside = inside_passes state 1 stands (pass 4);
      apart = apart (root / 4096) (state / 4096) (pass 5);
      root_free = not-false (every is_free (root / 4096) 4 S.pages) (pass 6);
      state_free = not-false (every is_free (state / 4096) 1 S.pages) (pass 7);
    }
  where
    apart : (first place : ℕ) → (leb first place && ltb place (first + 4)) ≡ false → (place < first) ⊎ (first + 4 ≤ place)
    apart first place e = elim (cases_lt place first) [
      | inl under ↦ inl under
      | inr above ↦ elim (cases_lt place (first + 4)) [
        | inl within ↦ absurd (false≢true (sym e ∙ and_from (leb first place) (ltb place (first + 4)) (le-leb first place (omega arith)) (lt-ltb place (first + 4) within)))
        | inr over ↦ inr (omega arith)
      ]
    ]

-- the size of the board is the state's
same_board : (words : List ℕ) (G : Ground) (S : MonitorState) → Stands words G S → board_number G.pages G.harts G.filecount ≡ board_in S
same_board words G S stands =
    let owners = stands.words_stand.stands.owners in
    rw (owners.page_count, owners.hart_count, sym stands.board.filecount) refl

-- numbers of fences that stay are within the next one
pub stays_within : (pages harts : ℕ) (words new : List ℕ) (most : ℕ) → ((at : ℕ) → pages ≤ at → get_or new at 0 ≡ get_or words at 0)
    → FencesWithin pages harts words most → FencesWithin pages harts new (most + 1)
stays_within pages harts words new most behind within = record {
  epoch = let epoch = within.epoch in let same = behind (epoch_word pages) (omega arith) in omega arith;
  numbers = λ t low high. let number = within.numbers t low high in let same = behind (tvm_word pages harts t) (omega arith) in omega arith;
}

-- a call that every state refuses alike changes nothing
pub refuses : (hart : ℕ) (rule_in : MonitorState → Rule) (words : List ℕ) (G : Ground) (reply : Reply)
    → ((S : MonitorState) → Stands words G S → Err reply ≡ all_checked (rule_in S).checks) → Called hart rule_in words words G G reply
refuses hart rule_in words G reply each = record {
  serves = λ S met stands. rw (one_fails (rule_in S).checks reply (sym (each S stands))) (refl, stands);
  lawful = ([], tt, refl);
  refused = λ e. (refl, refl);
  fences = λ most within. stays_within G.pages G.harts words words most (λ at past. refl) within;
  count = refl;
  size = refl;
}

-- a call for the monitor's state changes nothing
pub informs : (hart : ℕ) (words : List ℕ) (G : Ground) → Called hart (λ S. rule S hart Info) words words G G (record { status = Success; value = 1 })
informs hart words G = record {
  serves = λ S met stands. (refl, stands);
  lawful = ([], tt, refl);
  refused = λ e. (refl, refl);
  fences = λ most within. stays_within G.pages G.harts words words most (λ at past. refl) within;
  count = refl;
  size = refl;
}

-- ---- an accepted creation

table_is : (x y : TvmTable) → x.pages ≡ y.pages → x.tvms ≡ y.tvms → x ≡ y
table_is x y pages tvms =
    ap (λ n. let table : TvmTable = record { pages = n; tvms = x.tvms } in table) pages
    ∙ ap (λ list. let table : TvmTable = record { pages = y.pages; tvms = list } in table) tvms

module _ (words : List ℕ) (G : Ground) (hart root state : ℕ) (ready : IsReady words G)
    (told : (S : MonitorState) → Stands words G S → Ok tt ≡ all_checked (creation_checks S root state)) where
  -- the rule of the call
  abbrev creation : MonitorState → Rule
  creation S = rule S hart (Create root state)

  may : (S : MonitorState) → Stands words G S → MayCreate G.pages root state S
  may S stands = may_create words G S root state stands (told S stands)

  fences : FencesWithin G.pages G.harts words ENTRY_LIMIT
  fences = fences_within words G ready

  -- the stores are lawful
  stores_lawful : (t : ℕ) → t ≡ length G.tvms.tvms + 1 → AllAllowed (IsLawful G.pages G.harts hart words) words (create_stores t root state)
  stores_lawful t is =
      let made = ready.stands.board.made in
      let same : ready.state.made + 1 ≡ t = omega arith in
      subst (λ n. AllAllowed (IsLawful G.pages G.harts hart words) words (create_stores n root state)) same
      (create_is_lawful words G ready.state hart root state ready.stands ready.met.seated fences (may ready.state ready.stands))

  -- and so allowed where every lawful store is
  module _ (allows : List ℕ → ℕ → ℕ → Type 0) (lawful : AllowsLawful allows G.pages G.harts hart words) (t : ℕ) (is : t ≡ length G.tvms.tvms + 1) where
    all_allowed : AllAllowed allows words (create_stores t root state)
    all_allowed = AllAllowed-weaker (IsLawful G.pages G.harts hart words) allows words (create_stores t root state) lawful (stores_lawful t is)

    pub root_allowed : AllAllowed allows words (fills (root / 4096) 4 (given t Root))
    root_allowed = (AllAllowed-split allows words (fills (root / 4096) 4 (given t Root)) (fills (state / 4096) 1 (given t State)) all_allowed).0

    pub state_allowed : AllAllowed allows (stored words (fills (root / 4096) 4 (given t Root))) (fills (state / 4096) 1 (given t State))
    state_allowed = (AllAllowed-split allows words (fills (root / 4096) 4 (given t Root)) (fills (state / 4096) 1 (given t State)) all_allowed).1

  behind : (t at : ℕ) → G.pages ≤ at → get_or (stored words (create_stores t root state)) at 0 ≡ get_or words at 0
  behind t at past =
      let m = may ready.state ready.stands in
      let inside = m.root_inside in
      let state_inside = m.state_inside in
      ap (λ ws. get_or ws at 0) (stored-append words (fills (root / 4096) 4 (given t Root)) (fills (state / 4096) 1 (given t State)))
      ∙ get_or-fills_other (stored words (fills (root / 4096) 4 (given t Root))) (state / 4096) 1 (given t State) at (inr (omega arith))
      ∙ get_or-fills_other words (root / 4096) 4 (given t Root) at (inr (omega arith))

  accepted_by : (t : ℕ) (tvm : Tvm) → t ≡ length G.tvms.tvms + 1 → IsNewTvm G.tvms.pages (board_number G.pages G.harts G.filecount) (root / 4096) (mode_of root) (state / 4096) tvm
      → Called hart creation words (stored words (create_stores t root state)) G (record G { tvms = with_new G.tvms tvm }) (record { status = Success; value = t })
  accepted_by t tvm is fresh = record {
    serves = λ S met stands.
        let made = stands.board.made in
        let same : S.made + 1 ≡ t = omega arith in
        let none = none_fails (creation_checks S root state) (told S stands) in
        let new_tvm : IsNewTvm G.pages (board_in S) (root / 4096) (mode_of root) (state / 4096) tvm =
        subst (λ n. IsNewTvm G.pages n (root / 4096) (mode_of root) (state / 4096) tvm) (same_board words G S stands)
        (subst (λ n. IsNewTvm n (board_number G.pages G.harts G.filecount) (root / 4096) (mode_of root) (state / 4096) tvm) stands.board.tvm_pages fresh) in
        let after =
        subst (λ n. Stands (stored words (create_stores n root state)) (record G { tvms = with_new G.tvms tvm }) (rule S hart (Create root state)).outcome.state) same
        (create_stands words G S hart root state tvm stands met.orderly met.seated fences (may S stands) new_tvm) in
        rw none (ap (λ n. let reply : Reply = record { status = Success; value = n } in reply) (sym same), after);
    lawful = (create_stores t root state, stores_lawful t is, refl);
    refused = λ e. absurd cc;
    fences = λ most within. stays_within G.pages G.harts words (stored words (create_stores t root state)) most (behind t) within;
    count = behind t (count_word G.pages G.harts) (omega arith);
    size = length-stored words (create_stores t root state);
  }

  -- an accepted creation, by what the code leaves
  pub creates : (t value : ℕ) (tvm : Tvm) (table : TvmTable) (new : List ℕ) → t ≡ length G.tvms.tvms + 1 → value ≡ t
      → IsNewTvm G.tvms.pages (board_number G.pages G.harts G.filecount) (root / 4096) (mode_of root) (state / 4096) tvm → table.tvms ≡ G.tvms.tvms ++ tvm ∷ [] → table.pages ≡ G.tvms.pages
      → new ≡ stored (stored words (fills (root / 4096) 4 (given t Root))) (fills (state / 4096) 1 (given t State))
      → Called hart creation words new G (record G { tvms = table }) (record { status = Success; value = value })
  creates t value tvm table new is number fresh grown board stores =
      let words_are = stores ∙ sym (stored-append words (fills (root / 4096) 4 (given t Root)) (fills (state / 4096) 1 (given t State))) in
      subst (λ ws. Called hart creation words ws G (record G { tvms = table }) (record { status = Success; value = value })) (sym words_are)
      (subst (λ all. Called hart creation words (stored words (create_stores t root state)) G (record G { tvms = all }) (record { status = Success; value = value }))
      (sym (table_is table (with_new G.tvms tvm) board grown))
      (subst (λ n. Called hart creation words (stored words (create_stores t root state)) G (record G { tvms = with_new G.tvms tvm }) (record { status = Success; value = n })) (sym number)
      (accepted_by t tvm is fresh)))
