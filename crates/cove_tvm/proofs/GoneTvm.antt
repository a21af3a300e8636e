-- Words and ground stand after a TVM was destroyed.
use Rattle.std.proofs.Common.{◌≡◌, ◌≢◌, ℕ, suc, ◌+◌, ◌*◌, ◌/◌, ◌%◌, ◌^◌, ◌<◌, ◌≤◌, ◌∙◌, Bool, true, false, cond, eqb, eqb-true, ltb, List, [], get_or, length, map, Option, Some, None, refl, sym, ap, subst, inl, inr, arith}
use Rattle.std.proofs.Math.Path.{fun_ext}
use Rattle.std.proofs.lemmas.Bool.{cases_eq, eq-eqb, ne_eqb}
use Rattle.std.proofs.lemmas.List.{length-map}
use Rattle.std.specs.Prelude.{option_and_then, unwrap_or}
use Rattle.cove_model.specs.Machine.{converting, given, host, released, all_words, answered_word, epoch_word, hart_word, table_word, tvm_word, Destroy, TVM_LIMIT, Role, Root, Table, rule, dropped, IsTableOf, mapping_of, own_words, IsOrderly, AsRoot, AsState, AsTable, AsVcpu, AsData, Converting, Free, Given, Host, Owner, Purpose, page_at, freed, FrameStands, FramesStand, PageStands, answered_in, epoch_in, harts_behind, is_table, maps_of, role_of, words_at}
use Rattle.cove_model.proofs.KeyedLemmas.{at_dropped}
use Rattle.cove_model.proofs.LeafWords.{given_host, given_number, role_small}
use Rattle.cove_model.proofs.OwnedStores.{one_owner}
use Rattle.cove_model.proofs.Runs.{page_map}
use Rattle.cove_model.proofs.StandLemmas.{seat_moves}
use Rattle.cove_model.specs.States.{State as MonitorState, find_tvm}
use Rattle.cove_model.specs.Tvms.{Tvm as ModelTvm, new_tvm}
use Rattle.cove_model.specs.WordLaws.{Stand}
use Rattle.cove_model.specs.TableLaw.{shared_leaves}
use Rattle.cove_tvm.proofs.BuiltRegions.{live_stands}
use Rattle.cove_tvm.proofs.GoneShares.{gone_maps, gone_shares, none_found}
use Rattle.cove_tvm.proofs.OneTvmProofs.{written_stands}
use Rattle.cove_tvm.specs.DestroyedTvms.{DestroyStands, Destroys}
use Rattle.cove_tvm.specs.Leaves.{LeavesTvm}
use Rattle.cove_tvm.specs.Lives.{is_gone}
use Rattle.cove_tvm.specs.Stands.{Stands}
use Rattle.cove_tvm.specs.TvmLends.{with_tvm}
use Rattle.cove_tvm.specs.TvmStands.{TvmStands}
use Rattle.cove_tvm.specs.TvmTables.{live_at}
use Rattle.cove_tvm.specs.declared.ground.Ground.{Ground}
use Rattle.cove_tvm.specs.declared.machines.Tvm.{Tvm}

-- a page is given to the TVM, or is the host's, or is neither
data WordKind (t word : ℕ) : Type 0 where
  Own : (role : Role) → word ≡ given t role → WordKind t word
  OfHost : (maps : ℕ) → word ≡ host maps → WordKind t word
  Other : ((role : Role) → word ≢ given t role) → ((maps : ℕ) → word ≢ host maps) → WordKind t word

converting_kind : (t word since : ℕ) → word ≡ converting since → WordKind t word
converting_kind t word since is = Other (λ role e. let small = role_small role in omega arith) (λ maps e. omega arith)

released_kind : (t word : ℕ) → word ≡ released → WordKind t word
released_kind t word is = Other (λ role e. let small = role_small role in omega arith) (λ maps e. omega arith)

-- the kind of a page by its owner
kind_of : (harts epoch : ℕ) (answered : ℕ → ℕ) (maps word t : ℕ) (o : Owner) → PageStands harts epoch answered maps word o → WordKind t word
kind_of harts epoch answered maps word t (Host words) is = OfHost maps is
kind_of harts epoch answered maps word t (Converting held waiting words) pends = converting_kind t word pends.since pends.is
kind_of harts epoch answered maps word t Free (inl is) = released_kind t word is
kind_of harts epoch answered maps word t Free (inr is) = converting_kind t word is.0 is.1
kind_of harts epoch answered maps word t (Given u purpose) stands = elim (cases_eq u t) [
  | inl same ↦ Own (role_of purpose) (stands.2 ∙ ap (λ n. given n (role_of purpose)) same)
  | inr other ↦ Other (λ role e. other (given_number u t (role_of purpose) role (sym stands.2 ∙ e))) (λ maps e. given_host u maps (role_of purpose) (sym stands.2 ∙ e))
]

module _ (k : ℕ) (words new : List ℕ) (G : Ground) (S : MonitorState) (old gone : Tvm) (model : ModelTvm) (stands : Stands words G S) (orderly : IsOrderly S)
    (live : live_at G.tvms (suc k) ≡ Some old) (found : find_tvm S (suc k) ≡ Some model) (destroys : Destroys G.pages words new (suc k))
    (is_over : is_gone gone.life ≡ true) where
  abbrev after : MonitorState
  after = record S { pages = map (freed (suc k)) S.pages; tvms = dropped (λ (tvm : ModelTvm). eqb tvm.number (suc k)) S.tvms }

  size_is : length words ≡ all_words G.pages G.harts
  size_is = stands.words_stand.stands.size

  -- ---- the words that stay

  epoch : epoch_in G.pages new ≡ epoch_in G.pages words
  epoch = destroys.behind (epoch_word G.pages) (omega arith)

  answers : answered_in G.pages new ≡ answered_in G.pages words
  answers = fun_ext (λ hart. destroys.behind (answered_word G.pages hart) (omega arith))

  kind : (p : ℕ) → p < G.pages → WordKind (suc k) (get_or words p 0)
  kind p on =
      kind_of G.harts (epoch_in G.pages words) (answered_in G.pages words) (maps_of S p) (get_or words p 0) (suc k) (page_at S.pages p)
      (stands.words_stand.stands.owners.page p on)

  same_given : (u p : ℕ) (role : Role) → u ≢ suc k → WordKind (suc k) (get_or words p 0) → p < G.pages
      → (get_or new p 0 ≡ given u role → get_or words p 0 ≡ given u role) × (get_or words p 0 ≡ given u role → get_or new p 0 ≡ given u role)
  same_given u p role other (Own own is) on = (
    λ e. let free : get_or new p 0 ≡ 3 = destroys.own p own on is in let small = role_small role in absurd (omega arith),
    λ e. absurd (other (given_number u (suc k) role own (sym e ∙ is))),
  )
  same_given u p role other (OfHost maps is) on = (
    λ e. absurd (given_host u (shared_leaves G.pages new p) role (sym e ∙ destroys.hosts p maps on is)),
    λ e. absurd (given_host u maps role (sym e ∙ is)),
  )
  same_given u p role other (Other no_own no_host) on =
      let same = destroys.rest p on no_own no_host in
      (λ e. sym same ∙ e, λ e. same ∙ e)

  leaves_other : (u : ℕ) → u ≢ suc k → u ≤ TVM_LIMIT → LeavesTvm G.pages G.harts words new u
  leaves_other u other few = record {
    size = destroys.size;
    page = λ p role on. same_given u p role other (kind p on) on;
    table = λ p i on low own. destroys.others p i on low (λ mine. other (one_owner words u (suc k) p own mine));
    number = destroys.behind (tvm_word G.pages G.harts u) (omega arith);
    inside = λ number hart on.
        ap (λ w. cond (eqb (w / 2 ^ 32) u) (ltb (w % 2 ^ 32) number) false) (destroys.behind (hart_word G.pages G.harts hart) (omega arith));
  }

  -- ---- the counts

  counted_after : (p : ℕ) → p < G.pages → shared_leaves G.pages new p ≡ maps_of after p
  counted_after p on =
      let was = stands.counted p on in
      let words_less =
      gone_shares G.pages G.harts words new (suc k) S.seats G.files old model (live_stands words G S (suc k) old model stands live found) size_is
      (orderly.guests (suc k) model found) destroys p in
      let state_less = gone_maps (suc k) p model S.tvms orderly.numbers found in
      omega arith

  -- ---- the page words

  page_after : (p : ℕ) → p < G.pages → (o : Owner) → PageStands G.harts (epoch_in G.pages words) (answered_in G.pages words) (maps_of S p) (get_or words p 0) o
      → PageStands G.harts (epoch_in G.pages words) (answered_in G.pages words) (maps_of after p) (get_or new p 0) (freed (suc k) o)
  page_after p on (Host ws) is = destroys.hosts p (maps_of S p) on is ∙ ap host (counted_after p on)
  page_after p on (Converting held waiting ws) pends =
      let same = destroys.rest p on (λ role e. let is = pends.is in let small = role_small role in omega arith) (λ maps e. let is = pends.is in omega arith) in
      record {
        since = pends.since;
        is = same ∙ pends.is;
        begun = pends.begun;
        holds = pends.holds;
        waits = pends.waits;
        pending = pends.pending;
      }
  page_after p on Free (inl is) =
      inl (destroys.rest p on (λ role e. let small = role_small role in omega arith) (λ maps e. omega arith) ∙ is)
  page_after p on Free (inr is) =
      let word : get_or words p 0 ≡ 8 * is.0 + 1 = is.1 in
      inr (is.0, destroys.rest p on (λ role e. let small = role_small role in omega arith) (λ maps e. omega arith) ∙ is.1, is.2)
  page_after p on (Given u purpose) given_is = go (eqb u (suc k)) refl
    where
      go : (b : Bool) → eqb u (suc k) ≡ b
          → PageStands G.harts (epoch_in G.pages words) (answered_in G.pages words) (maps_of after p) (get_or new p 0) (cond b Free (Given u purpose))
      go true e = inl (destroys.own p (role_of purpose) on (given_is.2 ∙ ap (λ n. given n (role_of purpose)) (eqb-true u (suc k) e)))
      go false e =
          let other : u ≢ suc k = λ same. no_both (sym (eq-eqb u (suc k) same) ∙ e) in (
            given_is.0,
            given_is.1,
            destroys.rest p on (λ role is. other (given_number u (suc k) (role_of purpose) role (sym given_is.2 ∙ is)))
                (λ maps is. given_host u maps (role_of purpose) (sym given_is.2 ∙ is)) ∙ given_is.2,
          )
        where
          no_both : true ≡ false → ⊥
          no_both q = cc

  -- ---- the table words

  no_table : (p : ℕ) → p < G.pages → (o : Owner) → PageStands G.harts (epoch_in G.pages words) (answered_in G.pages words) (maps_of S p) (get_or words p 0) o
      → (IsTableOf words (suc k) p → ⊥) → is_table (freed (suc k) o) ≡ false → is_table o ≡ false
  no_table p on (Host ws) is none e = refl
  no_table p on (Converting held waiting ws) pends none e = refl
  no_table p on Free is none e = refl
  no_table p on (Given u purpose) given_is none e = go (eqb u (suc k)) refl e
    where
      role_none : (q : Purpose) → (given_to_root : role_of q ≡ Root → ⊥) → (given_to_table : role_of q ≡ Table → ⊥) → is_table (Given u q) ≡ false
      role_none AsRoot no_root no_table = absurd (no_root refl)
      role_none AsState no_root no_table = refl
      role_none AsTable no_root no_table = absurd (no_table refl)
      role_none AsVcpu no_root no_table = refl
      role_none (AsData guest) no_root no_table = refl

      go : (b : Bool) → eqb u (suc k) ≡ b → is_table (cond b Free (Given u purpose)) ≡ false → is_table (Given u purpose) ≡ false
      go true same free =
          let number = eqb-true u (suc k) same in
          role_none purpose
          (λ role. none (inl (given_is.2 ∙ ap (λ n. given n (role_of purpose)) number ∙ ap (given (suc k)) role)))
          (λ role. none (inr (given_is.2 ∙ ap (λ n. given n (role_of purpose)) number ∙ ap (given (suc k)) role)))
      go false other is = is

  table_after : (p i : ℕ) → p < G.pages → i < 512 → is_table (page_at after.pages p) ≡ false → get_or new (table_word G.pages p i) 0 ≡ 0
  table_after p i on low plain = elim (cases_eq (get_or words p 0) (given (suc k) Root)) [
    | inl is ↦ destroys.tables p i on low (inl is)
    | inr no_root ↦ elim (cases_eq (get_or words p 0) (given (suc k) Table)) [
      | inl is ↦ destroys.tables p i on low (inr is)
      | inr no_page ↦
          let none : IsTableOf words (suc k) p → ⊥ = λ own. elim own [ inl root_is ↦ no_root root_is | inr table_is ↦ no_page table_is ] in
          destroys.others p i on low none
          ∙ stands.words_stand.stands.tables p i on low
          (no_table p on (page_at S.pages p) (stands.words_stand.stands.owners.page p on) none (sym (ap is_table (page_map (freed (suc k)) refl S.pages p)) ∙ plain))
    ]
  ]

  words_after : Stand G.pages G.harts new after
  words_after =
      let was = stands.words_stand.stands in
      record {
        stands = record {
          size = destroys.size ∙ size_is;
          owners = record {
            page_count = length-map S.pages (freed (suc k)) ∙ was.owners.page_count;
            hart_count = was.owners.hart_count;
            page = λ p on.
                subst (PageStands G.harts (epoch_in G.pages new) (answered_in G.pages new) (maps_of after p) (get_or new p 0)) (sym (page_map (freed (suc k)) refl S.pages p))
                (subst (λ e. PageStands G.harts e (answered_in G.pages new) (maps_of after p) (get_or new p 0) (freed (suc k) (page_at S.pages p))) (sym epoch)
                (subst (λ a. PageStands G.harts (epoch_in G.pages words) a (maps_of after p) (get_or new p 0) (freed (suc k) (page_at S.pages p))) (sym answers)
                (page_after p on (page_at S.pages p) (was.owners.page p on))));
            unanswered = was.owners.unanswered ∙ sym (ap (λ a. harts_behind G.harts a (epoch_in G.pages new)) answers ∙ ap (harts_behind G.harts (answered_in G.pages words)) epoch);
          };
          tables = table_after;
          unused = destroys.behind (tvm_word G.pages G.harts 0) (omega arith) ∙ was.unused;
          seats = λ hart on. seat_moves G.pages G.harts words new _ _ (S.seats hart) (λ t low high. destroys.behind (tvm_word G.pages G.harts t) (omega arith))
              (destroys.behind (hart_word G.pages G.harts hart) (omega arith)) (was.seats hart on);
        };
        within = λ hart on. omega (arith, stands.words_stand.within hart on, epoch, destroys.behind (answered_word G.pages hart) (omega arith));
      }

  -- ---- the frames

  found_still : (u : ℕ) → u ≢ suc k → find_tvm after u ≡ find_tvm S u
  found_still u other = at_dropped (λ (tvm : ModelTvm). tvm.number) (λ n. eqb n (suc k)) u (ne_eqb u (suc k) other) S.tvms

  frame_after : (frame : List ℕ) (o : Owner) → FrameStands S frame o → FrameStands after frame (freed (suc k) o)
  frame_after frame (Host ws) is = is
  frame_after frame (Converting held waiting ws) is = is
  frame_after frame Free is = tt
  frame_after frame (Given u purpose) is = go (eqb u (suc k)) refl
    where
      words_still : (guest : ℕ) → u ≢ suc k → words_at after u guest ≡ words_at S u guest
      words_still guest other =
          ap (λ (x : Option ModelTvm). option_and_then (λ mapping. own_words mapping.backing) (mapping_of (unwrap_or x (new_tvm u)) guest)) (found_still u other)

      kept : (q : Purpose) → u ≢ suc k → FrameStands S frame (Given u q) → FrameStands after frame (Given u q)
      kept AsRoot other stand = tt
      kept AsState other stand = tt
      kept AsTable other stand = tt
      kept AsVcpu other stand = tt
      kept (AsData guest) other stand = words_still guest other ∙ stand

      go : (b : Bool) → eqb u (suc k) ≡ b → FrameStands after frame (cond b Free (Given u purpose))
      go true e = tt
      go false e = kept purpose (λ same. no_both (sym (eq-eqb u (suc k) same) ∙ e)) is
        where
          no_both : true ≡ false → ⊥
          no_both q = cc

  frames_after : FramesStand G.memory after
  frames_after = record {
    count = stands.frames.count ∙ sym (length-map S.pages (freed (suc k)));
    frame = λ p on.
        subst (FrameStands after (get_or G.memory p [])) (sym (page_map (freed (suc k)) refl S.pages p))
        (frame_after (get_or G.memory p []) (page_at S.pages p) (stands.frames.frame p on));
  }

  -- ---- all of it

  gone_stands : (hart : ℕ) → Stands new (record G { tvms = with_tvm G.tvms k gone }) (rule S hart (Destroy (suc k))).outcome.state
  gone_stands hart =
      written_stands k words new G G.memory S after.pages old gone stands live after.tvms found_still leaves_other words_after frames_after counted_after
      (subst (λ b. TvmStands G.pages G.harts new (suc k) S.seats G.files (cond b None (Some gone)) (find_tvm after (suc k))) (sym is_over)
      (subst (TvmStands G.pages G.harts new (suc k) S.seats G.files None) (sym (none_found (suc k) S.tvms)) tt))

pub destroy_stands : DestroyStands
destroy_stands k words new G S hart old gone model stands orderly live found destroys is_over =
    gone_stands k words new G S old gone model stands orderly live found destroys is_over hart
