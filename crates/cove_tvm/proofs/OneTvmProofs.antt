-- Words and ground stand after a call on one TVM.
use Rattle.std.proofs.Common.{◌≡◌, ◌≢◌, ℕ, suc, ◌<◌, ◌≤◌, ◌∙◌, false, cond, List, length-set, option_map, Option, Some, None, refl, sym, ap, subst, inl, inr, arith}
use Rattle.std.proofs.lemmas.Bool.{cases_eq}
use Rattle.cove_model.specs.Machine.{TVM_LIMIT, alter, Owner, State, find_tvm, on_tvm, FramesStand, maps_of}
use Rattle.cove_model.proofs.KeyedLemmas.{at_alter_other, at_alter_same}
use Rattle.cove_model.specs.TableLaw.{shared_leaves}
use Rattle.cove_model.specs.Tvms.{Tvm as ModelTvm}
use Rattle.cove_model.specs.WordLaws.{Stand}
use Rattle.cove_tvm.proofs.KeptGround.{live_made}
use Rattle.cove_tvm.proofs.KeptTvms.{left_tvms_stand}
use Rattle.cove_tvm.proofs.LiveTvms.{written_elsewhere, written_here}
use Rattle.cove_tvm.specs.Leaves.{LeavesTvm}
use Rattle.cove_tvm.specs.Lives.{is_gone}
use Rattle.cove_tvm.specs.OneTvm.{OneTvmStands}
use Rattle.cove_tvm.specs.Stands.{Stands}
use Rattle.cove_tvm.specs.TvmLends.{with_tvm}
use Rattle.cove_tvm.specs.TvmStands.{LiveStands, TvmStands}
use Rattle.cove_tvm.specs.TvmTables.{live_at, unless_gone}
use Rattle.cove_tvm.specs.declared.ground.Ground.{Ground}
use Rattle.cove_tvm.specs.declared.machines.Tvm.{Tvm}

pub one_tvm_stands : OneTvmStands
one_tvm_stands t words new ground frames table S T stands leaves now = record {
  words_stand = now.words_stand;
  frames = now.frames_stand;
  board = now.board;
  tvm = λ u. elim (cases_eq u t) [
    | inl own ↦ subst (λ k. TvmStands ground.pages ground.harts new k T.seats ground.files (live_at table k) (find_tvm T k)) (sym own) now.own
    | inr other ↦
        subst (λ seats. TvmStands ground.pages ground.harts new u seats ground.files (live_at table u) (find_tvm T u)) (sym leaves.seats)
        (subst (λ live. TvmStands ground.pages ground.harts new u S.seats ground.files live (find_tvm T u)) (sym (leaves.same_live u other))
        (subst (TvmStands ground.pages ground.harts new u S.seats ground.files (live_at ground.tvms u)) (sym (leaves.same_state u other))
        (kept u other (live_at ground.tvms u) refl (find_tvm S u) (stands.tvm u))))
  ];
  counted = now.counted;
} where
  kept : (u : ℕ) → (u ≡ t → ⊥) → (x : Option Tvm) → live_at ground.tvms u ≡ x → (v : Option ModelTvm)
      → TvmStands ground.pages ground.harts words u S.seats ground.files x v → TvmStands ground.pages ground.harts new u S.seats ground.files x v
  kept u other None is None stand = stand
  kept u other None is (Some model) stand = absurd stand
  kept u other (Some tvm) is v stand =
      let low = live_made ground.tvms u tvm is in
      let few = stands.board.few in
      let made = stands.board.made in
      left_tvms_stand ground.pages ground.harts u words new S.seats ground.files (Some tvm) v
      (leaves.words_leave u other (omega arith)) stand

module _ (k : ℕ) (words new : List ℕ) (G : Ground) (frames : List (List ℕ)) (S : State) (pages : List Owner) (old now : Tvm)
    (stands : Stands words G S) (live : live_at G.tvms (suc k) ≡ Some old) where
  -- where a live TVM is written anew, and it, the owners, the frames and the counts stand for a state with other TVMs and owners of
  -- pages, all of it does
  pub written_stands : (tvms : List ModelTvm) → ((u : ℕ) → u ≢ suc k → find_tvm (record S { pages = pages; tvms = tvms }) u ≡ find_tvm S u)
      → ((u : ℕ) → u ≢ suc k → u ≤ TVM_LIMIT → LeavesTvm G.pages G.harts words new u)
      → Stand G.pages G.harts new (record S { pages = pages; tvms = tvms }) → FramesStand frames (record S { pages = pages; tvms = tvms })
      → ((p : ℕ) → p < G.pages → shared_leaves G.pages new p ≡ maps_of (record S { pages = pages; tvms = tvms }) p)
      → TvmStands G.pages G.harts new (suc k) S.seats G.files (unless_gone (Some now)) (find_tvm (record S { pages = pages; tvms = tvms }) (suc k))
      → Stands new (record G { memory = frames; tvms = with_tvm G.tvms k now }) (record S { pages = pages; tvms = tvms })
  written_stands tvms same leave words_stand frames_stand counted own =
      one_tvm_stands (suc k) words new G frames (with_tvm G.tvms k now) S (record S { pages = pages; tvms = tvms }) stands
      (record { words_leave = leave; same_live = λ u other. written_elsewhere G.tvms k now u other; same_state = same; seats = refl })
      (record {
        words_stand = words_stand;
        frames_stand = frames_stand;
        board = record {
          key = stands.board.key;
          kicked = stands.board.kicked;
          filecount = stands.board.filecount;
          file_harts = stands.board.file_harts;
          file_count = stands.board.file_count;
          tvm_pages = stands.board.tvm_pages;
          made = length-set G.tvms.tvms k now ∙ stands.board.made;
          few = stands.board.few;
        };
        own =
            let low = live_made G.tvms (suc k) old live in
            subst (λ one. TvmStands G.pages G.harts new (suc k) S.seats G.files one (find_tvm (record S { pages = pages; tvms = tvms }) (suc k)))
            (sym (written_here G.tvms k now (omega arith))) own;
        counted = counted;
      })

  -- it stands for a changed TVM
  pub live_tvm_stands : (how : ModelTvm → ModelTvm) (model : ModelTvm) → find_tvm S (suc k) ≡ Some model → is_gone now.life ≡ false → ((v : ModelTvm) → (how v).number ≡ v.number)
      → ((u : ℕ) → u ≢ suc k → u ≤ TVM_LIMIT → LeavesTvm G.pages G.harts words new u)
      → Stand G.pages G.harts new (on_tvm (suc k) how (record S { pages = pages })) → FramesStand frames (on_tvm (suc k) how (record S { pages = pages }))
      → ((p : ℕ) → p < G.pages → shared_leaves G.pages new p ≡ maps_of (on_tvm (suc k) how (record S { pages = pages })) p)
      → LiveStands G.pages G.harts new (suc k) S.seats G.files now (how model)
      → Stands new (record G { memory = frames; tvms = with_tvm G.tvms k now }) (on_tvm (suc k) how (record S { pages = pages }))
  live_tvm_stands how model found stays numbers leave words_stand frames_stand counted own =
      written_stands (alter (λ tvm. tvm.number) (suc k) how S.tvms) (λ u other. at_alter_other (λ tvm. tvm.number) u (suc k) how numbers other S.tvms)
      leave words_stand frames_stand counted
      (subst (TvmStands G.pages G.harts new (suc k) S.seats G.files (unless_gone (Some now)))
      (sym (at_alter_same (λ tvm. tvm.number) (suc k) how numbers S.tvms ∙ ap (option_map how) found))
      (subst (λ b. TvmStands G.pages G.harts new (suc k) S.seats G.files (cond b None (Some now)) (Some (how model))) (sym stays) own))
