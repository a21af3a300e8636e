-- Words and ground stand after guest pages of a TVM were mapped to pages of the host's.
use Rattle.std.proofs.Common.{◌≡◌, ℕ, suc, ◌+◌, ◌/◌, ◌<◌, ◌≤◌, ◌==◌, ◌∙◌, true, cond, List, [], get_or, refl, sym, ap, subst, inl, arith}
use Rattle.std.proofs.lemmas.List.Sums.{sum_by-append}
use Rattle.std.proofs.lemmas.List.Elements.{filter_map-append}
use Rattle.cove_model.specs.Machine.{host, TVM_LIMIT, shared_mappings, with_mappings, IsOrderly, Host, page_at, PageStands, answered_in, epoch_in, is_table, maps_of}
use Rattle.cove_model.proofs.LeafWords.{given_host}
use Rattle.cove_model.proofs.StandLemmas.{host_page}
use Rattle.cove_model.specs.States.{State as MonitorState, on_tvm, shown_page}
use Rattle.cove_model.specs.Tvms.{HostPage, Mapping, Tvm as ModelTvm}
use Rattle.cove_tvm.proofs.GivenPages.{others_leave}
use Rattle.cove_tvm.proofs.KeptTvms.{keeps_left}
use Rattle.cove_tvm.proofs.RunMappings.{NamesRun, shared_run}
use Rattle.cove_tvm.proofs.RunsStand.{Becomes, Prepares, frame_still, numbered, owner_passes, run_may, run_stands, was}
use Rattle.cove_tvm.proofs.SharedCounts.{run_shares, shares, shown_in, shown_is, times, total_altered}
use Rattle.cove_tvm.specs.Leaves.{LeavesTvm}
use Rattle.cove_tvm.specs.MappedRuns.{shown}
use Rattle.cove_tvm.specs.SharedRuns.{CountsMayMap, MayShare, RaisesCounts, SharedStands}
use Rattle.cove_tvm.specs.declared.ground.Ground.{Ground}
use Rattle.cove_tvm.specs.declared.machines.Tvm.{Tvm}

module _ {words : List ℕ} {G : Ground} {S : MonitorState} {k base n gpa : ℕ} {old : Tvm} {model : ModelTvm} (may : MayShare words G S k base n gpa old model) where
  host_owner : (p : ℕ) → base / 4096 ≤ p → p < base / 4096 + n → (ws : List ℕ) × (page_at S.pages p ≡ Host ws)
  host_owner p low high = host_page (page_at S.pages p) (owner_passes may p low high)

  -- the word of each page counts how often it is mapped
  pub host_word : (p : ℕ) → base / 4096 ≤ p → p < base / 4096 + n → get_or words p 0 ≡ host (maps_of S p)
  host_word p low high =
      let inside = may.inside in
      subst (PageStands G.harts (epoch_in G.pages words) (answered_in G.pages words) (maps_of S p) (get_or words p 0)) (host_owner p low high).1
      (may.stands.words_stand.stands.owners.page p (omega arith))

  module _ {mid : List ℕ} (raises : RaisesCounts (base / 4096) n words mid) where
    raised : (p : ℕ) → base / 4096 ≤ p → p < base / 4096 + n → get_or mid p 0 ≡ host (maps_of S p + 1)
    raised p low high = raises.here p (maps_of S p) low high (host_word p low high)

    -- the same pages are given to each TVM
    leaves : (u : ℕ) → u ≤ TVM_LIMIT → LeavesTvm G.pages G.harts words mid u
    leaves u few =
        others_leave G.pages G.harts u words mid (base / 4096) n few may.inside raises.size raises.others
        (λ p role low high is. given_host u (maps_of S p) role (sym is ∙ host_word p low high))
        (λ p role low high is. given_host u (maps_of S p + 1) role (sym is ∙ raised p low high))

    -- raised counts prepare the run
    pub prepares : Prepares G.pages G.harts (suc k) (base / 4096) n true words mid
    prepares = record {
      size = raises.size;
      others = raises.others;
      keeps = keeps_left G.pages G.harts (suc k) words mid (leaves (suc k) (numbered may).1);
      leaves = λ u other few. leaves u few;
      behind = λ j low. (maps_of S (base / 4096 + j) + 1, omega arith, raised (base / 4096 + j) (omega arith) (omega arith));
      fresh = λ q role on is. inl (((leaves (suc k) (numbered may).1).page q role on).0 is);
    }

    module _ (orderly : IsOrderly S) where
      abbrev ms : List Mapping
      ms = shared_mappings (gpa / 4096) (base / 4096) n

      abbrev T : MonitorState
      T = on_tvm (suc k) (with_mappings gpa n ms) S

      names : NamesRun (gpa / 4096) (base / 4096) n true (λ j. HostPage (base / 4096 + j)) ms
      names = shared_run n (gpa / 4096) (base / 4096)

      maps_grow : (q : ℕ) → maps_of T q ≡ maps_of S q + shown (base / 4096) n true q
      maps_grow q =
          let few = may.few in
          let inside = may.inside in
          let grows : (v : ModelTvm) → times q (shares (with_mappings gpa n ms v).mappings) ≡ times q (shares v.mappings) + times q (shares ms) =
          λ v.
          ap (times q) (filter_map-append (λ (mapping : Mapping). shown_page mapping.backing) v.mappings ms)
          ∙ sum_by-append (λ p. cond (p == q) 1 0) (shares v.mappings) (shares ms) in
          total_altered q (suc k) (with_mappings gpa n ms) ms grows S.tvms model orderly.numbers may.found
          ∙ ap (λ m. maps_of S q + m) (run_shares (gpa / 4096) (base / 4096) n q ∙ sym (shown_is (base / 4096) n q (omega arith)))

      becomes : Becomes G S T (base / 4096) n true words mid G.memory
      becomes = record {
        count = refl;
        outside = λ p out. refl;
        no_table = λ j low. ap is_table (host_owner (base / 4096 + j) (omega arith) (omega arith)).1;
        maps = maps_grow;
        owners = λ j low.
            let few = may.few in
            let inside = may.inside in
            let grow = maps_grow (base / 4096 + j) in
            let one = shown_in (base / 4096) n (base / 4096 + j) (omega arith) (omega arith) (omega arith) in
            let more : maps_of S (base / 4096 + j) + 1 ≡ maps_of T (base / 4096 + j) = omega (arith, grow, one) in
            subst (PageStands G.harts (epoch_in G.pages words) (answered_in G.pages words) (maps_of T (base / 4096 + j)) (get_or mid (base / 4096 + j) 0))
            (sym (host_owner (base / 4096 + j) (omega arith) (omega arith)).1) (raised (base / 4096 + j) (omega arith) (omega arith) ∙ ap host more);
        frame_count = refl;
        frames_outside = λ p out. refl;
        frames_stand = λ j low.
            let long = may.stands.frames.count in
            let all = may.stands.words_stand.stands.owners.page_count in
            let inside = may.inside in
            frame_still may names S.pages (λ records. records) (get_or G.memory (base / 4096 + j) []) (page_at S.pages (base / 4096 + j))
            (may.stands.frames.frame (base / 4096 + j) (omega arith));
      }

pub counts_may_map : CountsMayMap
counts_may_map k words raised G S base n gpa old model may raises = run_may may (prepares may raises)

pub shared_stands : SharedStands
shared_stands k words raised new G S hart base n gpa old model left may orderly raises room run =
    run_stands may (names may raises orderly) S.pages (λ records. records) left (prepares may raises) (becomes may raises orderly) room run (was may).fields.registers
