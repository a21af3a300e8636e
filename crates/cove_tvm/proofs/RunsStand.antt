-- Words and ground stand after a run of guest pages of a TVM was mapped, whatever became of the pages behind it.
use Rattle.std.proofs.Common.{◌≡◌, ◌≢◌, ℕ, suc, ◌+◌, ◌-◌, ◌*◌, ◌/◌, ◌%◌, ◌^◌, ◌<◌, ◌≤◌, ◌⊎◌, ◌∙◌, Bool, true, false, cond, eqb, ltb, List, [], get_or, is_some, length, Option, Some, None, option_map, refl, sym, ap, subst, inl, inr, arith}
use Rattle.std.proofs.Math.Path.{fun_ext}
use Rattle.std.proofs.lemmas.Bool.{cases_eq, false≢true}
use Rattle.std.proofs.lemmas.Option.{none-some}
use Rattle.std.specs.List.{range_with_len}
use Rattle.std.specs.Prelude.{option_and_then, unwrap_or}
use Rattle.cove_base.specs.Measurement.{Record, registers_of}
use Rattle.cove_model.specs.Machine.{given, answered_word, epoch_word, hart_word, table_word, tvm_word, TVM_LIMIT, Role, Root, Table, Data, IsBehindLeaf, IsTableOf, mapping_of, own_words, with_mappings, Owner, page_at, FrameStands, FramesStand, PageStands, answered_in, epoch_in, harts_behind, is_table, maps_of, words_at}
use Rattle.cove_base.specs.Modes.{leaves_of}
use Rattle.cove_base.specs.Tables.{leaf_at}
use Rattle.cove_model.proofs.Distinct.{none_any}
use Rattle.cove_model.proofs.KeyedLemmas.{at_alter_other, at_alter_same, at_append}
use Rattle.cove_model.proofs.LeafWords.{given_number}
use Rattle.cove_model.proofs.Runs.{every_at, run_cases}
use Rattle.cove_model.proofs.StandLemmas.{page_moves, seat_moves}
use Rattle.cove_model.specs.States.{State as MonitorState, find_tvm, on_tvm}
use Rattle.cove_model.specs.Tvms.{Backing, Mapping, Tvm as ModelTvm, new_tvm}
use Rattle.cove_model.specs.WordLaws.{Stand}
use Rattle.cove_stage2.specs.Lacked.{tables_lacked}
use Rattle.cove_stage2.specs.MapStores.{Pages}
use Rattle.cove_tvm.proofs.BuiltRegions.{live_stands, live_stays}
use Rattle.cove_tvm.proofs.GivenPages.{leaves_twice}
use Rattle.cove_tvm.proofs.KeptGround.{frame_kept, live_made, shared_kept}
use Rattle.cove_tvm.proofs.KeptTables.{tables_kept}
use Rattle.cove_tvm.proofs.KeptTvms.{mappings_kept}
use Rattle.cove_tvm.proofs.MappedRuns.{behind_elsewhere, page_elsewhere}
use Rattle.cove_tvm.proofs.OneTvmProofs.{live_tvm_stands}
use Rattle.cove_tvm.proofs.RunLives.{run_lives}
use Rattle.cove_tvm.proofs.RunMappings.{NamesRun, found_after}
use Rattle.cove_tvm.proofs.RunPages.{table_owner}
use Rattle.cove_tvm.proofs.SharedCounts.{shown_outside}
use Rattle.cove_tvm.proofs.TablesMissing.{missing_agree}
use Rattle.cove_tvm.proofs.UsedTables.{in_run}
use Rattle.cove_tvm.specs.KeptOwn.{KeepsTvm}
use Rattle.cove_tvm.specs.LeafStands.{LeafStands}
use Rattle.cove_tvm.specs.Leaves.{LeavesTvm}
use Rattle.cove_tvm.specs.MappedRuns.{AreMapped, MayMap, shown}
use Rattle.cove_tvm.specs.Stands.{Stands}
use Rattle.cove_tvm.specs.TvmLends.{with_tvm}
use Rattle.cove_tvm.specs.TvmStands.{AreMappings, LiveStands}
use Rattle.cove_tvm.specs.UnmappedRuns.{MayMapOwnedBy}
use Rattle.cove_tvm.specs.declared.ground.Ground.{Ground}
use Rattle.cove_tvm.specs.declared.machines.Tvm.{Tvm}

-- a run of mapped guest pages leaves every other TVM
mapped_leaves : (pages harts t u root leaves g p n : ℕ) (shared : Bool) (mid pool new left : List ℕ) → u ≢ t → u ≤ TVM_LIMIT → AreMapped pages harts t root leaves g p n n shared mid pool new left
    → LeavesTvm pages harts mid new u
mapped_leaves pages harts t u root leaves g p n shared mid pool new left other few done = record {
  size = done.size;
  page = λ q role on.
      let same = done.elsewhere q (page_elsewhere pages mid t q on) in
      (λ gives. sym same ∙ gives, λ gives. same ∙ gives);
  table = λ q i on low own. done.elsewhere (table_word pages q i) (λ page k below small of is.
      let here : q ≡ page = omega (arith, is, low, small) in
      apart page (subst (IsTableOf mid u) here own) of);
  number = done.elsewhere (tvm_word pages harts u) (behind_elsewhere pages mid t (tvm_word pages harts u) (omega arith));
  inside = λ number hart on.
      ap (λ w. cond (eqb (w / 2 ^ 32) u) (ltb (w % 2 ^ 32) number) false)
      (done.elsewhere (hart_word pages harts hart) (behind_elsewhere pages mid t (hart_word pages harts hart) (omega arith)));
} where
  apart : (page : ℕ) → IsTableOf mid u page → IsTableOf mid t page → ⊥
  apart page (inl a) (inl b) = other (given_number u t Root Root (sym a ∙ b))
  apart page (inl a) (inr b) = other (given_number u t Root Table (sym a ∙ b))
  apart page (inr a) (inl b) = other (given_number u t Table Root (sym a ∙ b))
  apart page (inr a) (inr b) = other (given_number u t Table Table (sym a ∙ b))

-- what stores before the mapping leave: the words outside of the run, the TVM and every other one; each page of the run stands
-- behind a leaf; and no page becomes the TVM's but those of a private run
pub record Prepares (pages harts t first n : ℕ) (shared : Bool) (words mid : List ℕ) : Type 0 where
  pub size : length mid ≡ length words
  pub others : (place : ℕ) → (place < first) ⊎ (first + n ≤ place) → get_or mid place 0 ≡ get_or words place 0
  pub keeps : KeepsTvm pages harts words mid t
  pub leaves : (u : ℕ) → u ≢ t → u ≤ TVM_LIMIT → LeavesTvm pages harts words mid u
  pub behind : (j : ℕ) → j < n → IsBehindLeaf mid t (first + j) shared
  pub fresh :
      (q : ℕ) (role : Role) → q < pages → get_or mid q 0 ≡ given t role
      → (get_or words q 0 ≡ given t role) ⊎ ((role ≡ Data) × ((j : ℕ) × (j < n) × (q ≡ first + j)) × (shared ≡ false))

-- what becomes of the pages: their owners and frames stand, all others stay, and shared ones are mapped once more
pub record Becomes (G : Ground) (S T : MonitorState) (first n : ℕ) (shared : Bool) (words mid : List ℕ) (frames : List (List ℕ)) : Type 0 where
  pub count : length T.pages ≡ length S.pages
  pub outside : (p : ℕ) → (p < first) ⊎ (first + n ≤ p) → page_at T.pages p ≡ page_at S.pages p
  pub no_table : (j : ℕ) → j < n → is_table (page_at S.pages (first + j)) ≡ false
  pub maps : (p : ℕ) → maps_of T p ≡ maps_of S p + shown first n shared p
  pub owners :
      (j : ℕ) → j < n
      → PageStands G.harts (epoch_in G.pages words) (answered_in G.pages words) (maps_of T (first + j)) (get_or mid (first + j) 0) (page_at T.pages (first + j))
  pub frame_count : length frames ≡ length G.memory
  pub frames_outside : (p : ℕ) → (p < first) ⊎ (first + n ≤ p) → get_or frames p [] ≡ get_or G.memory p []
  pub frames_stand : (j : ℕ) → j < n → FrameStands T (get_or frames (first + j) []) (page_at T.pages (first + j))

-- what holds of each page of a run
of_run : (first n : ℕ) (P : ℕ → Type 0) → ((j : ℕ) → j < n → P (first + j)) → (p : ℕ) → first ≤ p → p < first + n → P p
of_run first n P each p low high =
    let is : first + (p - first) ≡ p = omega (arith, low) in
    subst P is (each (p - first) (omega (arith, low, high)))

module _ {test : Owner → Bool} {words : List ℕ} {G : Ground} {S : MonitorState} {k base n gpa : ℕ} {old : Tvm} {model : ModelTvm}
    (may : MayMapOwnedBy test words G S k base n gpa old model) where
  pub numbered : (1 ≤ suc k) × (suc k ≤ TVM_LIMIT)
  numbered =
      let low = live_made G.tvms (suc k) old may.live in
      let made = may.stands.board.made in
      let few = may.stands.board.few in
      (omega arith, omega arith)

  -- the owner of each page passes the test
  pub owner_passes : (p : ℕ) → base / 4096 ≤ p → p < base / 4096 + n → test (page_at S.pages p) ≡ true
  owner_passes p low high =
      let long = may.stands.words_stand.stands.owners.page_count in
      let inside = may.inside in
      every_at test (base / 4096) n S.pages may.owners p low high (omega arith)

  pub was : LiveStands G.pages G.harts words (suc k) S.seats G.files old model
  was = live_stands words G S (suc k) old model may.stands may.live may.found

  no_mapping : (o : Option Mapping) → is_some o ≡ false → o ≡ None
  no_mapping None e = refl
  no_mapping (Some m) e = absurd cc

  unmapped : (j : ℕ) → j < n → mapping_of model (gpa / 4096 + j) ≡ None
  unmapped j low =
      no_mapping (mapping_of model (gpa / 4096 + j))
      (none_any (λ g. is_some (mapping_of model g)) (range_with_len (gpa / 4096) n) (gpa / 4096 + j) may.unmapped
      (in_run (gpa / 4096) n j (gpa / 4096 + j) low refl))

  module _ {shared : Bool} {mid : List ℕ} (ready : Prepares G.pages G.harts (suc k) (base / 4096) n shared words mid) where
    mappings_mid : AreMappings G.pages G.harts mid (suc k) old.tables.root.0 (leaves_of old.tables.mode) old.pool.pages model
    mappings_mid = mappings_kept G.pages G.harts (suc k) words mid ready.keeps S.seats G.files old model was

    enough : tables_lacked G.pages old.tables.root.0 mid (leaves_of old.tables.mode) (gpa / 4096) n ≤ length old.pool.pages
    enough =
        let lacked = missing_agree G.pages G.harts (suc k) old.tables.root.0 (leaves_of old.tables.mode) gpa n mid old.pool.pages model (ap leaves_of was.mode) mappings_mid may.near in
        let none = may.enough in
        omega (arith, lacked, none)

    -- the run may be mapped
    pub run_may : MayMap G.pages G.harts mid (suc k) old.tables.root.0 (leaves_of old.tables.mode) old.pool.pages (gpa / 4096) (base / 4096) n shared
    run_may = record {
      size = ready.size ∙ may.stands.words_stand.stands.size;
      few = let few = may.few in omega arith;
      tables = tables_kept G.pages G.harts (suc k) old.tables.root.0 (leaves_of old.tables.mode) words mid old.pool.pages ready.keeps was.tables;
      guests = may.near;
      inside = may.inside;
      absent = λ j low.
          let near = may.near in
          subst (LeafStands G.pages G.harts mid (suc k) (leaf_at G.pages old.tables.root.0 (leaves_of old.tables.mode) mid (gpa / 4096 + j))) (unmapped j low)
          (mappings_mid.leaf (gpa / 4096 + j) (omega arith));
      behind = ready.behind;
      enough = enough;
    }

  -- ---- the state after the run: the TVM has more mappings and records, and pages have other owners

  module _ {shared : Bool} {backing : ℕ → Backing} {ms : List Mapping} (names : NamesRun (gpa / 4096) (base / 4096) n shared backing ms)
      (pages : List Owner) (records : List Record → List Record) where
    abbrev grown : ModelTvm → ModelTvm
    grown v = record (with_mappings gpa n ms v) { records = records v.records }

    abbrev T : MonitorState
    T = on_tvm (suc k) grown (record S { pages = pages })

    found_is : find_tvm T (suc k) ≡ Some (grown model)
    found_is = at_alter_same (λ tvm. tvm.number) (suc k) grown (λ v. refl) S.tvms ∙ ap (option_map grown) may.found

    abbrev words_by : (u g : ℕ) → Option ModelTvm → Option (List ℕ)
    words_by u g found = option_and_then (λ mapping. own_words mapping.backing) (mapping_of (unwrap_or found (new_tvm u)) g)

    -- the guest pages of the run have the words behind them, and others keep theirs
    pub words_new : (j : ℕ) → j < n → words_at T (suc k) (gpa / 4096 + j) ≡ own_words (backing j)
    words_new j low =
        ap (words_by (suc k) (gpa / 4096 + j)) found_is
        ∙ ap (option_and_then (λ (mapping : Mapping). own_words mapping.backing))
        (found_after (gpa / 4096 + j) model.mappings ms (unmapped j low) ∙ names.here j low)

    words_grown : (g : ℕ) (frame : List ℕ) (o : Option Mapping) → mapping_of model g ≡ o
        → option_and_then (λ mapping. own_words mapping.backing) o ≡ Some frame
        → option_and_then (λ mapping. own_words mapping.backing) (mapping_of (grown model) g) ≡ Some frame
    words_grown g frame None is some = absurd (none-some frame some)
    words_grown g frame (Some m) is some =
        ap (option_and_then (λ (mapping : Mapping). own_words mapping.backing))
        (at_append (λ (mapping : Mapping). mapping.guest) g model.mappings ms m is)
        ∙ some

    words_still : (u g : ℕ) (frame : List ℕ) → words_at S u g ≡ Some frame → words_at T u g ≡ Some frame
    words_still u g frame some = elim (cases_eq u (suc k)) [
      | inl own ↦ subst (λ m. words_at T m g ≡ Some frame) (sym own)
          (ap (words_by (suc k) g) found_is
          ∙ words_grown g frame (mapping_of model g) refl
          (sym (ap (words_by (suc k) g) may.found) ∙ subst (λ m. words_at S m g ≡ Some frame) own some))
      | inr other ↦ ap (words_by u g) (at_alter_other (λ tvm. tvm.number) u (suc k) grown (λ v. refl) other S.tvms) ∙ some
    ]

    pub frame_still : (frame : List ℕ) (o : Owner) → FrameStands S frame o → FrameStands T frame o
    frame_still frame o = frame_kept S T frame o (λ u g. words_still u g frame)

    module _ {mid new : List ℕ} {frames registers : List (List ℕ)} (left : Pages) (ready : Prepares G.pages G.harts (suc k) (base / 4096) n shared words mid)
        (becomes : Becomes G S T (base / 4096) n shared words mid frames) (room : left.room ≡ old.pool.room)
        (run : AreMapped G.pages G.harts (suc k) old.tables.root.0 (leaves_of old.tables.mode) (gpa / 4096) (base / 4096) n n shared mid old.pool.pages new left.pages)
        (measured : registers ≡ registers_of (records model.records) model.extensions) where
      behind_mid : (at : ℕ) → G.pages ≤ at → get_or mid at 0 ≡ get_or words at 0
      behind_mid at past = let inside = may.inside in ready.others at (inr (omega arith))

      page_same : (q : ℕ) → q < G.pages → get_or new q 0 ≡ get_or mid q 0
      page_same q on = run.elsewhere q (page_elsewhere G.pages mid (suc k) q on)

      behind_same : (place : ℕ) → 513 * G.pages ≤ place → get_or new place 0 ≡ get_or words place 0
      behind_same place past = run.elsewhere place (behind_elsewhere G.pages mid (suc k) place past) ∙ behind_mid place (omega arith)

      -- ---- the words

      epoch_same : epoch_in G.pages new ≡ epoch_in G.pages words
      epoch_same = behind_same (epoch_word G.pages) (omega arith)

      answers_same : answered_in G.pages new ≡ answered_in G.pages words
      answers_same = fun_ext (λ hart. behind_same (answered_word G.pages hart) (omega arith))

      owner_stands : (p : ℕ) → p < G.pages → PageStands G.harts (epoch_in G.pages words) (answered_in G.pages words) (maps_of T p) (get_or mid p 0) (page_at pages p)
      owner_stands p on = elim (run_cases (base / 4096) n p) [
        | inl here ↦
            of_run (base / 4096) n
            (λ q. PageStands G.harts (epoch_in G.pages words) (answered_in G.pages words) (maps_of T q) (get_or mid q 0) (page_at pages q))
            becomes.owners p here.0 here.1
        | inr out ↦
            let few = may.few in
            let inside = may.inside in
            let none = shown_outside shared (base / 4096) n p (omega arith) out in
            let maps = becomes.maps p in
            let same : maps_of T p ≡ maps_of S p = omega (arith, maps, none) in
            subst (λ m. PageStands G.harts (epoch_in G.pages words) (answered_in G.pages words) m (get_or mid p 0) (page_at pages p)) (sym same)
            (page_moves G.harts _ _ _ _ (maps_of S p) _ _ _ _ refl refl (ready.others p out) (becomes.outside p out) (may.stands.words_stand.stands.owners.page p on))
      ]

      page_stands : (p : ℕ) → p < G.pages → PageStands G.harts (epoch_in G.pages new) (answered_in G.pages new) (maps_of T p) (get_or new p 0) (page_at pages p)
      page_stands p on = page_moves G.harts _ _ _ _ (maps_of T p) _ _ _ _ epoch_same answers_same (page_same p on) refl (owner_stands p on)

      tables_now : (q : ℕ) → q < G.pages → IsTableOf mid (suc k) q → IsTableOf new (suc k) q
      tables_now q below (inl is) = inl (page_same q below ∙ is)
      tables_now q below (inr is) = inr (page_same q below ∙ is)

      -- pages that aren't tables have none of its words
      table_same : (p i : ℕ) → p < G.pages → i < 512 → is_table (page_at pages p) ≡ false → get_or new (table_word G.pages p i) 0 ≡ 0
      table_same p i on low none =
          run.elsewhere (table_word G.pages p i) (λ page j below small of is.
          let here : p ≡ page = omega (arith, is, low, small) in
          false≢true (sym none
          ∙ table_owner G.harts (epoch_in G.pages new) (answered_in G.pages new) (maps_of T p) (get_or new p 0) (suc k) (page_at pages p) (page_stands p on)
          (tables_now p on (subst (IsTableOf mid (suc k)) (sym here) of))))
          ∙ behind_mid (table_word G.pages p i) (omega arith)
          ∙ may.stands.words_stand.stands.tables p i on low (elim (run_cases (base / 4096) n p) [
            | inl here ↦ of_run (base / 4096) n (λ q. is_table (page_at S.pages q) ≡ false) becomes.no_table p here.0 here.1
            | inr out ↦ sym (ap is_table (becomes.outside p out)) ∙ none
          ])

      words_stand : Stand G.pages G.harts new T
      words_stand =
          let was_stand = may.stands.words_stand.stands in
          record {
            stands = record {
              size = run.size ∙ ready.size ∙ was_stand.size;
              owners = record {
                page_count = becomes.count ∙ was_stand.owners.page_count;
                hart_count = was_stand.owners.hart_count;
                page = page_stands;
                unanswered = was_stand.owners.unanswered
                    ∙ sym (ap (λ a. harts_behind G.harts a (epoch_in G.pages new)) answers_same ∙ ap (harts_behind G.harts (answered_in G.pages words)) epoch_same);
              };
              tables = table_same;
              unused = behind_same (tvm_word G.pages G.harts 0) (omega arith) ∙ was_stand.unused;
              seats = λ hart on. seat_moves G.pages G.harts words new _ _ (S.seats hart) (λ t low high. behind_same (tvm_word G.pages G.harts t) (omega arith))
                  (behind_same (hart_word G.pages G.harts hart) (omega arith)) (was_stand.seats hart on);
            };
            within = λ hart on. omega (arith, may.stands.words_stand.within hart on, epoch_same, behind_same (answered_word G.pages hart) (omega arith));
          }

      -- ---- the frames

      frames_stand : FramesStand frames T
      frames_stand = record {
        count = becomes.frame_count ∙ may.stands.frames.count ∙ sym becomes.count;
        frame = λ p on. elim (run_cases (base / 4096) n p) [
          | inl here ↦ of_run (base / 4096) n (λ q. FrameStands T (get_or frames q []) (page_at pages q)) becomes.frames_stand p here.0 here.1
          | inr out ↦
              subst (λ frame. FrameStands T frame (page_at pages p)) (sym (becomes.frames_outside p out))
              (subst (FrameStands T (get_or G.memory p [])) (sym (becomes.outside p out))
              (frame_still (get_or G.memory p []) (page_at S.pages p) (may.stands.frames.frame p (subst (λ m. p < m) becomes.frame_count on))))
        ];
      }

      -- ---- the TVM, and all of it

      renewed_stands : LiveStands G.pages G.harts new (suc k) S.seats G.files (record old { pool = left; registers = registers }) (grown model)
      renewed_stands =
          run_lives G.pages G.harts (suc k) gpa (base / 4096) n shared backing ms (records model.records) words mid new left registers S.seats G.files old model was
          ready.keeps names unmapped (run_may ready) run numbered.1 ready.fresh room measured

      pub run_stands : Stands new (record G { memory = frames; tvms = with_tvm G.tvms k (record old { pool = left; registers = registers }) }) T
      run_stands =
          live_tvm_stands k words new G frames S pages old (record old { pool = left; registers = registers }) may.stands may.live grown model may.found
          (live_stays G.tvms k old may.live) (λ v. refl)
          (λ u other few.
          leaves_twice G.pages G.harts u words mid new (ready.leaves u other few)
          (mapped_leaves G.pages G.harts (suc k) u old.tables.root.0 (leaves_of old.tables.mode) (gpa / 4096) (base / 4096) n shared mid old.pool.pages new left.pages other few run))
          words_stand frames_stand
          (λ p on.
          let leaves = run.counted p in
          let kept = shared_kept G.pages words mid p ready.size (λ at low high. behind_mid at low) in
          let told = may.stands.counted p on in
          let maps = becomes.maps p in
          omega (arith, leaves, kept, told, maps))
          renewed_stands
