-- Words and ground stand after a TVM was created, and the stores are lawful.
use Rattle.std.proofs.Common.{◌≡◌, ◌≢◌, ℕ, suc, ◌+◌, ◌/◌, ◌%◌, ◌^◌, ◌<◌, ◌≤◌, ◌==◌, ◌⊎◌, ◌∙◌, Bool, true, false, cond, eqb, ltb, List, [], ◌∷◌, ◌++◌, count_by, get_or, length, length-append, Option, Some, None, refl, sym, ap, subst, inl, inr, arith}
use Rattle.std.proofs.lemmas.Bool.{eq-eqb, ne_eqb}
use Rattle.std.proofs.lemmas.List.{append-nil}
use Rattle.std.proofs.lemmas.List.Concat.{flat_map-append}
use Rattle.std.proofs.lemmas.Option.{none-some}
use Rattle.std.specs.Prelude.{filter_map, option_and_then, unwrap_or}
use Rattle.cove_base.proofs.StoreLemmas.{get_or-fills, get_or-fills_other, length-stored, stored-append}
use Rattle.cove_base.specs.Modes.{mode_of}
use Rattle.cove_base.specs.declared.modes.Mode.{Mode}
use Rattle.cove_model.specs.Machine.{given, all_words, hart_word, table_word, fills, stored, Create, ENTRY_LIMIT, TVM_LIMIT, Role, Root, Table, Vcpu, Data, effect, at, mapping_of, own_words, IsOrderly, AsRoot, AsState, Converting, Free, Given, Host, Owner, Purpose, change, is_free, page_at, given_to, IsSeated, FencesWithin, FrameStands, FramesStand, PageStands, answered_in, epoch_in, is_table, maps_of, words_at}
use Rattle.cove_base.specs.declared.numbers.Role.TheVariants.{State}
use Rattle.cove_model.proofs.LeafWords.{given_number, given_role}
use Rattle.cove_model.proofs.KeyedLemmas.{at_append}
use Rattle.cove_model.proofs.Runs.{change_cases, change_outside, every_at, length_change, run_cases}
use Rattle.cove_model.proofs.StandLemmas.{filled_stand, free_page}
use Rattle.cove_model.specs.States.{State as MonitorState, board_in, find_tvm, shared_pages, shown_page}
use Rattle.cove_model.specs.Tvms.{Tvm as ModelTvm, created, new_tvm}
use Rattle.cove_model.specs.WordLaws.{Stand}
use Rattle.cove_tvm.proofs.BegunTvm.{HasBegun, IsPlaced, begun_lives}
use Rattle.cove_tvm.proofs.GivenPages.{leaves_twice, none_entered, not_found, not_given, run_leaves}
use Rattle.cove_tvm.proofs.KeptGround.{frame_kept, shared_kept, stand_kept}
use Rattle.cove_tvm.proofs.LiveTvms.{added_elsewhere, added_here}
use Rattle.cove_tvm.proofs.OneTvmProofs.{one_tvm_stands}
use Rattle.cove_tvm.proofs.OwnerCalls.{free_not_given}
use Rattle.cove_tvm.specs.Leaves.{LeavesTvm}
use Rattle.cove_tvm.specs.Lives.{is_gone}
use Rattle.cove_tvm.specs.NewTvms.{CreateStands, MayCreate, with_new}
use Rattle.cove_tvm.specs.Stands.{BoardStands, Stands}
use Rattle.cove_tvm.specs.TvmStands.{TvmStands}
use Rattle.cove_tvm.specs.TvmTables.{IsNewTvm, TvmTable, live_at}
use Rattle.cove_tvm.specs.declared.ground.Ground.{Ground}
use Rattle.cove_tvm.specs.declared.machines.Tvm.{Tvm}

-- ---- the state with one more TVM

-- another number is found as before
pub found_before : (xs : List ModelTvm) (x : ModelTvm) (u : ℕ) → x.number ≢ u → at (λ tvm. tvm.number) u (xs ++ x ∷ []) ≡ at (λ tvm. tvm.number) u xs
found_before [] x u other = ap (λ b. cond b (Some x) None) (ne_eqb x.number u other)
found_before (y ∷ xs) x u other = ap (cond (eqb y.number u) (Some y)) (found_before xs x u other)

-- the one that was added is found under its number, where none was
pub found_last : (xs : List ModelTvm) (x : ModelTvm) → at (λ tvm. tvm.number) x.number xs ≡ None → at (λ tvm. tvm.number) x.number (xs ++ x ∷ []) ≡ Some x
found_last [] x none = ap (λ b. cond b (Some x) None) (eq-eqb x.number x.number refl)
found_last (y ∷ xs) x none = go (eqb y.number x.number) refl none (found_last xs x)
  where
    go : (b : Bool) → eqb y.number x.number ≡ b → cond b (Some y) (at (λ tvm. tvm.number) x.number xs) ≡ None
        → (at (λ tvm. tvm.number) x.number xs ≡ None → at (λ tvm. tvm.number) x.number (xs ++ x ∷ []) ≡ Some x)
        → at (λ tvm. tvm.number) x.number (y ∷ (xs ++ x ∷ [])) ≡ Some x
    go true e found rest = absurd (none-some y (sym found))
    go false e found rest = ap (λ b. cond b (Some y) (at (λ tvm. tvm.number) x.number (xs ++ x ∷ []))) e ∙ rest found

-- a new TVM maps no page
pub maps_grown : (S : MonitorState) (t : ℕ) (mode : Mode) (size p : ℕ) → maps_of (record S { tvms = S.tvms ++ created t mode size ∷ [] }) p ≡ maps_of S p
maps_grown S t mode size p =
    ap (count_by (λ q. q == p))
    (flat_map-append (λ tvm. filter_map (λ mapping. shown_page mapping.backing) tvm.mappings) S.tvms (created t mode size ∷ [])
    ∙ append-nil (shared_pages S))

-- the words of a guest page, by the TVM that is found
abbrev words_by : (u g : ℕ) → Option ModelTvm → Option (List ℕ)
words_by u g found = option_and_then (λ mapping. own_words mapping.backing) (mapping_of (unwrap_or found (new_tvm u)) g)

pub words_grown : (S : MonitorState) (t : ℕ) (mode : Mode) (size u g : ℕ) (frame : List ℕ) → words_at S u g ≡ Some frame → words_at (record S { tvms = S.tvms ++ created t mode size ∷ [] }) u g ≡ Some frame
words_grown S t mode size u g frame is = go (find_tvm S u) refl
  where
    go : (v : Option ModelTvm) → find_tvm S u ≡ v → words_at (record S { tvms = S.tvms ++ created t mode size ∷ [] }) u g ≡ Some frame
    go None none = absurd (none-some frame (sym (ap (words_by u g) none) ∙ is))
    go (Some v) some =
        ap (words_by u g) (at_append (λ tvm. tvm.number) u S.tvms (created t mode size ∷ []) v some) ∙ sym (ap (words_by u g) some) ∙ is

-- ---- frames

frame_given : (S : MonitorState) (t : ℕ) (purpose : Purpose) (frame : List ℕ) (o : Owner) → FrameStands S frame (Given t purpose) → FrameStands S frame o
    → FrameStands S frame (given_to t purpose o)
frame_given S t purpose frame (Host words) free stands = stands
frame_given S t purpose frame (Converting held waiting words) free stands = stands
frame_given S t purpose frame Free free stands = free
frame_given S t purpose frame (Given u other) free stands = stands

table_given : (t : ℕ) (purpose : Purpose) (o : Owner) → is_table (given_to t purpose o) ≡ false → is_table o ≡ false
table_given t purpose (Host words) e = refl
table_given t purpose (Converting held waiting words) e = refl
table_given t purpose Free e = refl
table_given t purpose (Given u other) e = e

-- ---- which role a word gives

root_placed : (t r s p : ℕ) (role : Role) → given t Root ≡ given t role → (r ≤ p) × (p < r + 4) → IsPlaced r s p role
root_placed t r s p Root e placed = placed
root_placed t r s p State e placed = absurd (omega (arith, given_role t t Root State e))
root_placed t r s p Table e placed = absurd (omega (arith, given_role t t Root Table e))
root_placed t r s p Vcpu e placed = absurd (omega (arith, given_role t t Root Vcpu e))
root_placed t r s p Data e placed = absurd (omega (arith, given_role t t Root Data e))

state_placed : (t r s p : ℕ) (role : Role) → given t State ≡ given t role → s ≡ p → IsPlaced r s p role
state_placed t r s p Root e placed = absurd (omega (arith, given_role t t State Root e))
state_placed t r s p State e placed = placed
state_placed t r s p Table e placed = absurd (omega (arith, given_role t t State Table e))
state_placed t r s p Vcpu e placed = absurd (omega (arith, given_role t t State Vcpu e))
state_placed t r s p Data e placed = absurd (omega (arith, given_role t t State Data e))

-- ---- a creation

module _ (words : List ℕ) (ground : Ground) (S : MonitorState) (root state : ℕ) (stands : Stands words ground S)
    (may : MayCreate ground.pages root state S) where
  abbrev t : ℕ
  t = S.made + 1

  abbrev first : ℕ
  first = root / 4096

  abbrev place : ℕ
  place = state / 4096

  abbrev rooted : List ℕ
  rooted = stored words (fills (root / 4096) 4 (given (S.made + 1) Root))

  abbrev new_words : List ℕ
  new_words = stored (stored words (fills (root / 4096) 4 (given (S.made + 1) Root))) (fills (state / 4096) 1 (given (S.made + 1) State))

  abbrev grown : MonitorState
  grown = record S { tvms = S.tvms ++ created (S.made + 1) (mode_of root) (board_in S) ∷ []; made = S.made + 1 }

  abbrev rooted_state : MonitorState
  rooted_state = record grown { pages = change (given_to (S.made + 1) AsRoot) (root / 4096) 4 S.pages }

  size_is : length words ≡ all_words ground.pages ground.harts
  size_is = stands.words_stand.stands.size

  pages_are : length S.pages ≡ ground.pages
  pages_are = stands.words_stand.stands.owners.page_count

  -- the pages were free
  root_free : (p : ℕ) → first ≤ p → p < first + 4 → page_at S.pages p ≡ Free
  root_free p low high =
      let inside = may.root_inside in let long = pages_are in
      free_page (page_at S.pages p) (every_at is_free first 4 S.pages may.root_free p low high (omega arith))

  state_free : page_at S.pages place ≡ Free
  state_free =
      let inside = may.state_inside in let long = pages_are in
      free_page (page_at S.pages place) (every_at is_free place 1 S.pages may.state_free place (omega arith) (omega arith) (omega arith))

  -- so their words gave them to no TVM
  free_word : (p u : ℕ) (role : Role) → p < ground.pages → page_at S.pages p ≡ Free → get_or words p 0 ≢ given u role
  free_word p u role on free =
      free_not_given ground.harts (answered_in ground.pages words) (get_or words p 0) u role
      (subst (PageStands ground.harts (epoch_in ground.pages words) (answered_in ground.pages words) (maps_of S p) (get_or words p 0)) free
      (stands.words_stand.stands.owners.page p on))

  numbered : (1 ≤ t) × (t ≤ TVM_LIMIT)
  numbered = let room = may.room in (omega arith, omega arith)

  grown_stand : Stand ground.pages ground.harts words grown
  grown_stand = stand_kept ground.pages ground.harts words S (S.tvms ++ created t (mode_of root) (board_in S) ∷ []) t (maps_grown S t (mode_of root) (board_in S)) stands.words_stand

  rooted_stand : Stand ground.pages ground.harts rooted rooted_state
  rooted_stand =
      filled_stand ground.pages ground.harts words grown (given_to t AsRoot) first 4 (given t Root) may.root_inside (table_given t AsRoot)
      (λ p low high on.
      subst (λ o. PageStands ground.harts (epoch_in ground.pages words) (answered_in ground.pages words) (maps_of grown p) (given t Root) (given_to t AsRoot o))
      (sym (root_free p low high)) (numbered.0, numbered.1, refl))
      grown_stand

  apart_from : (p : ℕ) → place ≤ p → p < place + 1 → (p < first) ⊎ (first + 4 ≤ p)
  apart_from p low high = elim may.apart [ inl under ↦ inl (omega arith) | inr over ↦ inr (omega arith) ]

  created_stand : Stand ground.pages ground.harts new_words (effect S 0 (Create root state))
  created_stand =
      filled_stand ground.pages ground.harts rooted rooted_state (given_to t AsState) place 1 (given t State) may.state_inside (table_given t AsState)
      (λ p low high on.
      let is : p ≡ place = omega arith in
      let free : page_at rooted_state.pages p ≡ Free =
      change_outside (given_to t AsRoot) first 4 S.pages p (apart_from p low high) ∙ ap (page_at S.pages) is ∙ state_free in
      subst (λ o. PageStands ground.harts (epoch_in ground.pages rooted) (answered_in ground.pages rooted) (maps_of rooted_state p) (given t State) (given_to t AsState o))
      (sym free) (numbered.0, numbered.1, refl))
      rooted_stand

  created_frames : FramesStand ground.memory (effect S 0 (Create root state))
  created_frames = record {
    count = stands.frames.count
        ∙ sym (length_change (given_to t AsState) place 1 rooted_state.pages ∙ length_change (given_to t AsRoot) first 4 S.pages);
    frame = λ p on.
        let frame = get_or ground.memory p [] in
        let old = frame_kept S (record S { tvms = S.tvms ++ created t (mode_of root) (board_in S) ∷ [] }) frame (page_at S.pages p) (λ u g. words_grown S t (mode_of root) (board_in S) u g frame) (stands.frames.frame p on) in
        let first_is : FrameStands grown frame (page_at rooted_state.pages p) = elim (change_cases (given_to t AsRoot) first 4 S.pages p) [
          | inl same ↦ subst (FrameStands grown frame) (sym same) old
          | inr gives ↦ subst (FrameStands grown frame) (sym gives) (frame_given grown t AsRoot frame (page_at S.pages p) tt old)
        ] in
        elim (change_cases (given_to t AsState) place 1 rooted_state.pages p) [
          | inl same ↦ subst (FrameStands grown frame) (sym same) first_is
          | inr gives ↦ subst (FrameStands grown frame) (sym gives) (frame_given grown t AsState frame (page_at rooted_state.pages p) tt first_is)
        ];
  }

  -- every other TVM is left
  created_leaves : (u : ℕ) → u ≢ t → u ≤ TVM_LIMIT → LeavesTvm ground.pages ground.harts words new_words u
  created_leaves u other few =
      let size = size_is in
      let again = length-stored words (fills first 4 (given t Root)) in
      let inside = may.root_inside in
      let state_inside = may.state_inside in
      leaves_twice ground.pages ground.harts u words rooted new_words
      (run_leaves ground.pages ground.harts u words first 4 (given t Root) few may.root_inside (omega arith)
      (λ p role low high. free_word p u role (omega arith) (root_free p low high))
      (λ role e. other (sym (given_number t u Root role e))))
      (run_leaves ground.pages ground.harts u rooted place 1 (given t State) few may.state_inside (omega arith)
      (λ p role low high e.
      let is : p ≡ place = omega arith in
      free_word p u role (omega arith) (ap (page_at S.pages) is ∙ state_free)
      (sym (get_or-fills_other words first 4 (given t Root) p (apart_from p low high)) ∙ e))
      (λ role e. other (sym (given_number t u State role e))))

  -- the words past the page words stay
  behind : (at : ℕ) → ground.pages ≤ at → get_or new_words at 0 ≡ get_or words at 0
  behind at past =
      let inside = may.root_inside in
      let state_inside = may.state_inside in
      get_or-fills_other rooted place 1 (given t State) at (inr (omega arith)) ∙ get_or-fills_other words first 4 (given t Root) at (inr (omega arith))

  root_kept : (p : ℕ) → first ≤ p → p < first + 4 → get_or new_words p 0 ≡ given t Root
  root_kept p low high =
      let inside = may.root_inside in
      let size = size_is in
      get_or-fills_other rooted place 1 (given t State) p (elim may.apart [ inl under ↦ inr (omega arith) | inr over ↦ inl (omega arith) ])
      ∙ get_or-fills words first 4 (given t Root) p low high (omega arith)

  state_kept : get_or new_words place 0 ≡ given t State
  state_kept =
      let inside = may.state_inside in
      let size = size_is in
      let again = length-stored words (fills first 4 (given t Root)) in
      get_or-fills rooted place 1 (given t State) place (omega arith) (omega arith) (omega arith)

  module _ (orderly : IsOrderly S) (seated : IsSeated S) (fences : FencesWithin ground.pages ground.harts words ENTRY_LIMIT) where
    only : (p : ℕ) (role : Role) → p < ground.pages → get_or new_words p 0 ≡ given t role → IsPlaced first place p role
    only p role on is = elim (run_cases place 1 p) [
      | inl run ↦
          let here : place ≡ p = omega (arith, run.0, run.1) in
          state_placed t first place p role (sym (ap (λ k. get_or new_words k 0) (sym here) ∙ state_kept) ∙ is) here
      | inr out ↦ elim (run_cases first 4 p) [
        | inl run ↦ root_placed t first place p role (sym (root_kept p run.0 run.1) ∙ is) run
        | inr off ↦ absurd
            (not_given words ground S t stands (omega arith) orderly p role on
            (sym (get_or-fills_other rooted place 1 (given t State) p out ∙ get_or-fills_other words first 4 (given t Root) p off) ∙ is))
      ]
    ]

    begun : HasBegun ground.pages ground.harts new_words t first place
    begun =
        let size = size_is in
        let again = length-stored words (fills first 4 (given t Root)) in
        let long = length-stored rooted (fills place 1 (given t State)) in
        let inside = may.root_inside in
        let state_inside = may.state_inside in
        record {
          size = omega arith;
          fits = may.root_inside;
          state_fits = omega arith;
          roots = λ i low. root_kept (first + i) (omega arith) (omega arith);
          state_is = state_kept;
          only = only;
          zeros = λ p i low high small.
              behind (table_word ground.pages p i) (omega arith)
              ∙ stands.words_stand.stands.tables p i (omega arith) small (ap is_table (root_free p low high));
          nobody = λ number hart on.
              ap (λ w. cond (eqb (w / 2 ^ 32) t) (ltb (w % 2 ^ 32) number) false) (behind (hart_word ground.pages ground.harts hart) (omega arith))
              ∙ none_entered words ground S t stands (omega arith) seated fences number hart on;
        }

    module _ (tvm : Tvm) (fresh : IsNewTvm ground.pages (board_in S) first (mode_of root) place tvm) where
      abbrev table : TvmTable
      table = with_new ground.tvms tvm

      next_is : t ≡ suc (length ground.tvms.tvms)
      next_is = let made = stands.board.made in omega arith

      live_is : live_at table t ≡ Some tvm
      live_is =
          ap (live_at table) next_is ∙ added_here ground.tvms.pages ground.tvms.tvms tvm
          ∙ ap (λ life. cond (is_gone life) None (Some tvm)) fresh.life

      found_is : find_tvm (effect S 0 (Create root state)) t ≡ Some (created t (mode_of root) (board_in S))
      found_is = found_last S.tvms (created t (mode_of root) (board_in S)) (not_found words ground S t stands (omega arith))

      board_is : BoardStands (record ground { memory = ground.memory; tvms = table }) (effect S 0 (Create root state))
      board_is = record {
        key = stands.board.key;
        kicked = stands.board.kicked;
        filecount = stands.board.filecount;
        file_harts = stands.board.file_harts;
        file_count = stands.board.file_count;
        tvm_pages = stands.board.tvm_pages;
        made = let made = stands.board.made in let one = length-append ground.tvms.tvms (tvm ∷ []) in omega arith;
        few = numbered.1;
      }

      created_all : Stands new_words (record ground { tvms = table }) (effect S 0 (Create root state))
      created_all =
          one_tvm_stands t words new_words ground ground.memory table S (effect S 0 (Create root state)) stands
          (record {
            words_leave = created_leaves;
            same_live = λ u other. added_elsewhere ground.tvms.pages ground.tvms.tvms tvm u (λ e. other (e ∙ sym next_is));
            same_state = λ u other. found_before S.tvms (created t (mode_of root) (board_in S)) u (λ e. other (sym e));
            seats = refl;
          })
          (record {
            words_stand = created_stand;
            frames_stand = created_frames;
            board = board_is;
            own = subst (λ live. TvmStands ground.pages ground.harts new_words t S.seats ground.files live (find_tvm (effect S 0 (Create root state)) t)) (sym live_is)
                (subst (TvmStands ground.pages ground.harts new_words t S.seats ground.files (Some tvm)) (sym found_is)
                (begun_lives ground.pages ground.harts new_words t first place begun (board_in S) (mode_of root) S.seats ground.files tvm fresh));
            counted = λ p on.
                shared_kept ground.pages words new_words p (length-stored rooted (fills place 1 (given t State)) ∙ length-stored words (fills first 4 (given t Root)))
                (λ at low high. behind at low)
                ∙ stands.counted p on ∙ sym (maps_grown S t (mode_of root) (board_in S) p);
          })

pub create_stands : CreateStands
create_stands words ground S hart root state tvm stands orderly seated fences may fresh =
    subst (λ new. Stands new (record ground { tvms = with_new ground.tvms tvm }) (effect S hart (Create root state)))
    (sym (stored-append words (fills (root / 4096) 4 (given (S.made + 1) Root)) (fills (state / 4096) 1 (given (S.made + 1) State))))
    (created_all words ground S root state stands may orderly seated fences tvm fresh)
