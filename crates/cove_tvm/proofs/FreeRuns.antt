-- A run of free pages that is given to a TVM: its stores are lawful and keep that TVM, and words and ground stand where it does.
use Rattle.std.proofs.Common.{◌≡◌, ◌≢◌, ℕ, suc, ◌+◌, ◌*◌, ◌/◌, ◌%◌, ◌^◌, ◌<◌, ◌≤◌, ◌∙◌, false, cond, eqb, ltb, List, [], get_or, length, refl, sym, ap, subst, inl, inr, arith}
use Rattle.cove_base.proofs.StoreLemmas.{get_or-fills, get_or-fills_other, length-stored}
use Rattle.cove_model.specs.Machine.{given, role_number, hart_word, table_word, tvm_word, AllAllowed, fills, stored, TVM_LIMIT, Role, Root, IsLawful, Converting, Free, Given, Host, Owner, Purpose, change, is_free, page_at, given_to, State, on_tvm, FrameStands, FramesStand, GivenStands, PageStands, answered_in, epoch_in, is_table, maps_of, role_of}
use Rattle.cove_model.proofs.LeafWords.{given_number, given_role}
use Rattle.cove_model.proofs.Runs.{change_cases, every_at, length_change, run_cases}
use Rattle.cove_model.proofs.StandLemmas.{filled_stand, free_page}
use Rattle.cove_model.specs.Tvms.{Tvm as ModelTvm}
use Rattle.cove_model.specs.WordLaws.{Stand}
use Rattle.cove_tvm.proofs.ChangedFields.{frames_changed, maps_changed, words_stand_still}
use Rattle.cove_tvm.proofs.GivenPages.{run_leaves}
use Rattle.cove_tvm.proofs.GivesLawful.{gives_as}
use Rattle.cove_tvm.proofs.KeptGround.{live_made, shared_kept}
use Rattle.cove_tvm.proofs.OneTvmProofs.{live_tvm_stands}
use Rattle.cove_tvm.proofs.OwnerCalls.{free_not_given}
use Rattle.cove_tvm.specs.GivenRuns.{MayGive}
use Rattle.cove_tvm.specs.KeptOwn.{KeepsTvm}
use Rattle.cove_tvm.specs.Leaves.{LeavesTvm}
use Rattle.cove_tvm.specs.Lives.{is_gone}
use Rattle.cove_tvm.specs.OneTvm.{KeepsMappings}
use Rattle.cove_tvm.specs.Stands.{Stands}
use Rattle.cove_tvm.specs.TvmLends.{with_tvm}
use Rattle.cove_tvm.specs.TvmStands.{LiveStands}
use Rattle.cove_tvm.specs.declared.ground.Ground.{Ground}
use Rattle.cove_tvm.specs.declared.machines.Tvm.{Tvm}

-- no table page stops being one
table_still : (t : ℕ) (purpose : Purpose) (o : Owner) → is_table (given_to t purpose o) ≡ false → is_table o ≡ false
table_still t purpose (Host words) e = refl
table_still t purpose (Converting held waiting words) e = refl
table_still t purpose Free e = refl
table_still t purpose (Given u other) e = e

frame_still : (S : State) (t : ℕ) (purpose : Purpose) (frame : List ℕ) (o : Owner) → GivenStands S frame t purpose
    → FrameStands S frame o → FrameStands S frame (given_to t purpose o)
frame_still S t purpose frame (Host words) gives stands = stands
frame_still S t purpose frame (Converting held waiting words) gives stands = stands
frame_still S t purpose frame Free gives stands = gives
frame_still S t purpose frame (Given u other) gives stands = stands

module _ (words : List ℕ) (G : Ground) (S : State) (k base n : ℕ) (purpose : Purpose) (tvm : Tvm) (model : ModelTvm)
    (may : MayGive words G S k base n tvm model) where
  abbrev first : ℕ
  first = base / 4096

  -- the word that each page becomes
  abbrev word : ℕ
  word = given (suc k) (role_of purpose)

  abbrev added : List ℕ
  added = stored words (fills first n word)

  -- the state with the pages given
  abbrev giving : State
  giving = record S { pages = change (given_to (suc k) purpose) first n S.pages }

  numbered : (1 ≤ suc k) × (suc k ≤ TVM_LIMIT)
  numbered =
      let low = live_made G.tvms (suc k) tvm may.live in
      let made = may.stands.board.made in
      let few = may.stands.board.few in
      (omega arith, omega arith)

  size_is : 513 * G.pages ≤ length words
  size_is = let size = may.stands.words_stand.stands.size in omega arith

  pub page_free : (p : ℕ) → first ≤ p → p < first + n → page_at S.pages p ≡ Free
  page_free p low high =
      let long = may.stands.words_stand.stands.owners.page_count in
      free_page (page_at S.pages p) (every_at is_free first n S.pages may.free p low high (omega arith))

  free_stands : (p : ℕ) → first ≤ p → p < first + n
      → PageStands G.harts (epoch_in G.pages words) (answered_in G.pages words) (maps_of S p) (get_or words p 0) Free
  free_stands p low high =
      subst (PageStands G.harts (epoch_in G.pages words) (answered_in G.pages words) (maps_of S p) (get_or words p 0)) (page_free p low high)
      (may.stands.words_stand.stands.owners.page p (omega arith))

  pub free_word : (p u : ℕ) (role : Role) → first ≤ p → p < first + n → get_or words p 0 ≢ given u role
  free_word p u role low high = free_not_given G.harts (answered_in G.pages words) (get_or words p 0) u role (free_stands p low high)

  -- what is behind the page words stays
  pub run_behind : (at : ℕ) → G.pages ≤ at → get_or added at 0 ≡ get_or words at 0
  run_behind at past = get_or-fills_other words first n word at (inr (omega arith))

  pub run_word : (p : ℕ) → first ≤ p → p < first + n → get_or added p 0 ≡ word
  run_word p low high = let size = size_is in get_or-fills words first n word p low high (omega arith)

  -- every other TVM is left
  pub run_leaves_others : (u : ℕ) → u ≢ suc k → u ≤ TVM_LIMIT → LeavesTvm G.pages G.harts words added u
  run_leaves_others u other few =
      run_leaves G.pages G.harts u words first n word few may.inside size_is (λ p role low high. free_word p u role low high)
      (λ role e. other (sym (given_number (suc k) u (role_of purpose) role e)))

  -- the page words stand
  run_stands : Stand G.pages G.harts added giving
  run_stands =
      filled_stand G.pages G.harts words S (given_to (suc k) purpose) first n word may.inside (table_still (suc k) purpose)
      (λ p low high on.
      subst (λ o. PageStands G.harts (epoch_in G.pages words) (answered_in G.pages words) (maps_of S p) word (given_to (suc k) purpose o))
      (sym (page_free p low high)) (numbered.0, numbered.1, refl))
      may.stands.words_stand

  -- and so do the frames, where those of the pages may be any
  run_frames : ((frame : List ℕ) → GivenStands S frame (suc k) purpose) → FramesStand G.memory giving
  run_frames any = record {
    count = may.stands.frames.count ∙ sym (length_change (given_to (suc k) purpose) first n S.pages);
    frame = λ p on.
        let frame = get_or G.memory p [] in
        let was = may.stands.frames.frame p on in
        elim (change_cases (given_to (suc k) purpose) first n S.pages p) [
          | inl same ↦ subst (FrameStands S frame) (sym same) was
          | inr gives ↦ subst (FrameStands S frame) (sym gives) (frame_still S (suc k) purpose frame (page_at S.pages p) (any frame) was)
        ];
  }

  -- where the TVM is written anew and stands for a changed one, all of it stands
  pub run_given : (how : ModelTvm → ModelTvm) (new : Tvm) → ((frame : List ℕ) → GivenStands S frame (suc k) purpose) → KeepsMappings how
      → is_gone new.life ≡ false → LiveStands G.pages G.harts added (suc k) S.seats G.files new (how model)
      → Stands added (record G { tvms = with_tvm G.tvms k new }) (on_tvm (suc k) how giving)
  run_given how new any keeps stays own =
      live_tvm_stands k words added G G.memory S giving.pages tvm new may.stands may.live how model may.found stays keeps.number run_leaves_others
      (words_stand_still giving (suc k) how keeps G.pages G.harts added run_stands) (frames_changed giving (suc k) how keeps G.memory (run_frames any))
      (λ p on.
      shared_kept G.pages words added p (length-stored words (fills first n word)) (λ at low high. run_behind at low)
      ∙ may.stands.counted p on ∙ sym (maps_changed giving (suc k) how keeps p))
      own

  module _ (other : role_number (role_of purpose) ≢ role_number Root) where
    -- the stores are lawful, where the pages become no root
    pub run_lawful : (hart : ℕ) → AllAllowed (IsLawful G.pages G.harts hart words) words (fills first n word)
    run_lawful hart =
        gives_as G.pages G.harts hart (suc k) words (role_of purpose) first n words may.inside numbered.0 numbered.1
        (λ root. absurd (other (ap role_number root))) (λ p low high. free_stands p low high)

    -- and the TVM is kept
    pub run_keeps : KeepsTvm G.pages G.harts words added (suc k)
    run_keeps = record {
      size = length-stored words (fills first n word);
      page = λ p role on is. elim (run_cases first n p) [
        | inl run ↦ absurd (free_word p (suc k) role run.0 run.1 is)
        | inr out ↦ get_or-fills_other words first n word p out ∙ is
      ];
      root = λ p on is. elim (run_cases first n p) [
        | inl run ↦ absurd (other (given_role (suc k) (suc k) (role_of purpose) Root (sym (run_word p run.0 run.1) ∙ is)))
        | inr out ↦ sym (get_or-fills_other words first n word p out) ∙ is
      ];
      table = λ p i on low own. run_behind (table_word G.pages p i) (omega arith);
      number = run_behind (tvm_word G.pages G.harts (suc k)) (omega arith);
      inside = λ number hart on.
          ap (λ w. cond (eqb (w / 2 ^ 32) (suc k)) (ltb (w % 2 ^ 32) number) false) (run_behind (hart_word G.pages G.harts hart) (omega arith));
    }
