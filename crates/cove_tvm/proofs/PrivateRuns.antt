-- Words and ground stand after free pages became the memory of a TVM and its guest pages were mapped to them.
use Rattle.std.proofs.Common.{◌≡◌, ℕ, suc, ◌+◌, ◌-◌, ◌/◌, ◌<◌, ◌≤◌, ◌==◌, ◌⊎◌, ◌∙◌, Bool, true, false, cond, eqb, List, [], ◌∷◌, ◌++◌, append-nil, count_by, get_or, length, replicate, Some, refl, sym, ap, subst, inl, inr, arith}
use Rattle.std.proofs.Math.Path.{fun_ext}
use Rattle.std.proofs.lemmas.List.{get_or-replicate, length-replicate}
use Rattle.std.proofs.lemmas.List.Elements.{filter_map-append}
use Rattle.std.proofs.lemmas.List.Folds.{flat_map-map}
use Rattle.std.proofs.lemmas.List.FromFn.{get_or-map-range_with_len, length-map-range_with_len}
use Rattle.std.specs.Prelude.{flat_map}
use Rattle.cove_base.proofs.StoreLemmas.{get_or-fills_other, length-stored}
use Rattle.cove_base.specs.Measurement.{Record, registers_of}
use Rattle.cove_model.specs.Machine.{given, Role, Root, Table, Vcpu, Data, page_records, page_words_from, own_mappings, with_mappings, AsData, Given, Owner, every, is_host, page_at, words_of, zeros, change_each, given_to, FrameStands, PageStands, answered_in, epoch_in, is_table, maps_of}
use Rattle.cove_base.specs.declared.numbers.Role.TheVariants.{State}
use Rattle.cove_model.proofs.LeafWords.{given_role}
use Rattle.cove_model.proofs.PageRuns.{each_inside, length_change_each}
use Rattle.cove_model.proofs.Runs.{every_at, run_cases}
use Rattle.cove_model.proofs.StandLemmas.{host_page}
use Rattle.cove_model.specs.States.{State as MonitorState, on_tvm, shown_page}
use Rattle.cove_model.specs.Tvms.{Mapping, OwnPage, Tvm as ModelTvm}
use Rattle.cove_stage2.specs.MapStores.{Pages}
use Rattle.cove_tvm.proofs.FreeRuns.{page_free, run_keeps, run_lawful, run_leaves_others, run_word}
use Rattle.cove_tvm.proofs.RunMappings.{NamesRun, own_run}
use Rattle.cove_tvm.proofs.RunPages.{each_outside}
use Rattle.cove_tvm.proofs.RunsStand.{Becomes, Prepares, numbered, run_may, run_stands, was, words_new}
use Rattle.cove_tvm.proofs.SharedCounts.{shares, shown_private}
use Rattle.cove_tvm.specs.GivenRuns.{MayGive}
use Rattle.cove_tvm.specs.PrivateRuns.{FillsFrames, MayGrow, MeasuredStands, MemoryIsLawful, MemoryMayMap, OwnsRun, ZeroStands, memory_stores, with_memory}
use Rattle.cove_tvm.specs.Stands.{Stands}
use Rattle.cove_tvm.specs.TvmLends.{with_tvm}
use Rattle.cove_tvm.specs.declared.ground.Ground.{Ground}
use Rattle.cove_tvm.specs.declared.machines.Tvm.{Tvm}

-- mappings of pages of the TVM's own show none of the host's
own_unshown : (g p : ℕ) (contents : List (List ℕ)) → shares (own_mappings g p contents) ≡ []
own_unshown g p [] = refl
own_unshown g p (words ∷ rest) = own_unshown (g + 1) (p + 1) rest

-- a page that is given as memory has that role alone
data_role : (t : ℕ) (role : Role) → given t Data ≡ given t role → role ≡ Data
data_role t Root e = absurd (omega (arith, given_role t t Data Root e))
data_role t State e = absurd (omega (arith, given_role t t Data State e))
data_role t Table e = absurd (omega (arith, given_role t t Data Table e))
data_role t Vcpu e = absurd (omega (arith, given_role t t Data Vcpu e))
data_role t Data e = refl

module _ {words : List ℕ} {G : Ground} {S : MonitorState} {k base n gpa : ℕ} {old : Tvm} {model : ModelTvm} (may : MayGrow words G S k base n gpa old model) where
  abbrev mid : List ℕ
  mid = with_memory words (suc k) base n

  -- the pages may be given
  gives : MayGive words G S k base n old model
  gives = record { stands = may.stands; live = may.live; found = may.found; inside = may.inside; free = may.owners }

  page_given : (p : ℕ) → base / 4096 ≤ p → p < base / 4096 + n → get_or mid p 0 ≡ given (suc k) Data
  page_given = run_word words G S k base n (AsData 0) old model gives

  fresh : (q : ℕ) (role : Role) → q < G.pages → get_or mid q 0 ≡ given (suc k) role
      → (get_or words q 0 ≡ given (suc k) role) ⊎ ((role ≡ Data) × ((j : ℕ) × (j < n) × (q ≡ base / 4096 + j)) × (false ≡ false))
  fresh q role on is = elim (run_cases (base / 4096) n q) [
    | inl here ↦ inr (data_role (suc k) role (sym (page_given q here.0 here.1) ∙ is), (q - base / 4096, omega (arith, here.0, here.1), omega (arith, here.0)), refl)
    | inr out ↦ inl (sym (get_or-fills_other words (base / 4096) n (given (suc k) Data) q out) ∙ is)
  ]

  -- the stores that give them prepare the run
  pub prepares : Prepares G.pages G.harts (suc k) (base / 4096) n false words mid
  prepares = record {
    size = length-stored words (memory_stores (suc k) base n);
    others = λ place out. get_or-fills_other words (base / 4096) n (given (suc k) Data) place out;
    keeps = run_keeps words G S k base n (AsData 0) old model gives (λ e. omega arith);
    leaves = run_leaves_others words G S k base n (AsData 0) old model gives;
    behind = λ j low. page_given (base / 4096 + j) (omega arith) (omega arith);
    fresh = fresh;
  }

  -- ---- after the run, by what the pages hold

  module _ {frames registers : List (List ℕ)} {new : List ℕ} (contents : List (List ℕ)) (long : length contents ≡ n) (records : List Record → List Record) (left : Pages)
      (filled : FillsFrames (base / 4096) n (λ j. get_or contents j []) G.memory frames) (room : left.room ≡ old.pool.room)
      (run : OwnsRun words G k base n gpa old new left) (measured : registers ≡ registers_of (records model.records) model.extensions) where
    abbrev ms : List Mapping
    ms = own_mappings (gpa / 4096) (base / 4096) contents

    abbrev pages : List Owner
    pages = change_each (λ i. given_to (suc k) (AsData (gpa / 4096 + i))) (base / 4096) n S.pages

    abbrev grown : ModelTvm → ModelTvm
    grown v = record (with_mappings gpa n ms v) { records = records v.records }

    abbrev T : MonitorState
    T = on_tvm (suc k) grown (record S { pages = pages })

    names : NamesRun (gpa / 4096) (base / 4096) n false (λ j. OwnPage (base / 4096 + j) (get_or contents j [])) ms
    names = own_run contents (gpa / 4096) (base / 4096) n long

    owner_run : (j : ℕ) → j < n → page_at pages (base / 4096 + j) ≡ Given (suc k) (AsData (gpa / 4096 + j))
    owner_run j low =
        let long_pages = may.stands.words_stand.stands.owners.page_count in
        let inside = may.inside in
        each_inside (λ i. given_to (suc k) (AsData (gpa / 4096 + i))) (base / 4096) n S.pages j low (omega arith)
        ∙ ap (given_to (suc k) (AsData (gpa / 4096 + j))) (page_free words G S k base n (AsData 0) old model gives (base / 4096 + j) (omega arith) (omega arith))

    shows_same : (v : ModelTvm) → shares (cond (eqb v.number (suc k)) (grown v) v).mappings ≡ shares v.mappings
    shows_same v = go (eqb v.number (suc k))
      where
        go : (b : Bool) → shares (cond b (grown v) v).mappings ≡ shares v.mappings
        go true =
            filter_map-append (λ (mapping : Mapping). shown_page mapping.backing) v.mappings ms
            ∙ ap (λ ps. shares v.mappings ++ ps) (own_unshown (gpa / 4096) (base / 4096) contents) ∙ append-nil (shares v.mappings)
        go false = refl

    maps_same : (p : ℕ) → maps_of T p ≡ maps_of S p
    maps_same p =
        ap (count_by (λ q. q == p))
        (flat_map-map (λ (v : ModelTvm). shares v.mappings) (λ v. cond (eqb v.number (suc k)) (grown v) v) S.tvms ∙ ap (λ f. flat_map f S.tvms) (fun_ext shows_same))

    becomes : Becomes G S T (base / 4096) n false words mid frames
    becomes = record {
      count = length_change_each (λ i. given_to (suc k) (AsData (gpa / 4096 + i))) (base / 4096) n S.pages;
      outside = λ p out. each_outside (λ i. given_to (suc k) (AsData (gpa / 4096 + i))) (base / 4096) n S.pages p out;
      no_table = λ j low. ap is_table (page_free words G S k base n (AsData 0) old model gives (base / 4096 + j) (omega arith) (omega arith));
      maps = λ p. let same = maps_same p in let none = shown_private (base / 4096) n p in omega (arith, same, none);
      owners = λ j low.
          subst (PageStands G.harts (epoch_in G.pages words) (answered_in G.pages words) (maps_of T (base / 4096 + j)) (get_or mid (base / 4096 + j) 0)) (sym (owner_run j low))
          ((numbered may).0, (numbered may).1, page_given (base / 4096 + j) (omega arith) (omega arith));
      frame_count = filled.count;
      frames_outside = filled.others;
      frames_stand = λ j low.
          subst (FrameStands T (get_or frames (base / 4096 + j) [])) (sym (owner_run j low))
          (words_new may names pages records j low ∙ ap Some (sym (filled.here j low)));
    }

    owned_stands : Stands new (record G { memory = frames; tvms = with_tvm G.tvms k (record old { pool = left; registers = registers }) }) T
    owned_stands = run_stands may names pages records left prepares becomes room run measured

pub memory_is_lawful : MemoryIsLawful
memory_is_lawful k words G S hart base n gpa old model may = run_lawful words G S k base n (AsData 0) old model (gives may) (λ e. omega arith) hart

pub memory_may_map : MemoryMayMap
memory_may_map k words G S base n gpa old model may = run_may may (prepares may)

pub zero_stands : ZeroStands
zero_stands k words G S hart base n gpa old model frames new left may filled room run =
    owned_stands may (replicate n zeros) (length-replicate n zeros) (λ records. records) left
    (record { count = filled.count; here = λ j low. filled.here j low ∙ sym (get_or-replicate n j zeros [] low); others = filled.others })
    room run (was may).fields.registers

-- the words of the host's pages are those of their frames
module _ (k : ℕ) (words : List ℕ) (G : Ground) (S : MonitorState) (src n : ℕ) (stands : Stands words G S)
    (inside : src / 4096 + n ≤ G.pages) (hosts : every is_host (src / 4096) n S.pages ≡ true) where
  pub content_is : (j : ℕ) → j < n → get_or (page_words_from S src n) j [] ≡ get_or G.memory (src / 4096 + j) []
  content_is j low =
      let long = stands.words_stand.stands.owners.page_count in
      let count = stands.frames.count in
      let held = host_page (page_at S.pages (src / 4096 + j)) (every_at is_host (src / 4096) n S.pages hosts (src / 4096 + j) (omega arith) (omega arith) (omega arith)) in
      let frame : get_or G.memory (src / 4096 + j) [] ≡ held.0 =
      subst (FrameStands S (get_or G.memory (src / 4096 + j) [])) held.1 (stands.frames.frame (src / 4096 + j) (omega arith)) in
      get_or-map-range_with_len (λ p. words_of (page_at S.pages p)) (src / 4096) n j (src / 4096 + j) [] low refl
      ∙ ap words_of held.1 ∙ sym frame

pub measured_stands : MeasuredStands
measured_stands k words G S hart src dst n gpa old model frames new left measured may inside hosts filled room run are =
    owned_stands may (page_words_from S src n) (length-map-range_with_len (λ p. words_of (page_at S.pages p)) (src / 4096) n)
    (λ records. records ++ page_records gpa (page_words_from S src n)) left
    (record {
      count = filled.count;
      here = λ j low. filled.here j low ∙ sym (content_is k words G S src n may.stands inside hosts j low);
      others = filled.others;
    })
    room run are
