-- Words and ground stand still after each call on owners.
use Rattle.std.proofs.Common.{◌≡◌, ◌≢◌, ℕ, ◌+◌, ◌*◌, ◌/◌, ◌<◌, ◌≤◌, ◌∙◌, List, get_or, length, set, true, refl, sym, subst, arith, inl, inr, get_or-set_other}
use Rattle.cove_base.proofs.StoreLemmas.{get_or-fills, get_or-fills_other, length-stored}
use Rattle.cove_model.specs.Machine.{converting, given, host, all_words, answered_word, epoch_word, fills, stored, Convert, GlobalFence, LocalFence, Reclaim, Role, effect, Owner, is_free, is_host, page_at, FreeStands, PageStands, answered_in, epoch_in, maps_of}
use Rattle.cove_model.proofs.FrameProofs.{convert_keeps_frames, global_fence_keeps_frames, local_fence_keeps_frames, reclaim_zeroes_frames}
use Rattle.cove_model.proofs.LeafWords.{given_host}
use Rattle.cove_model.proofs.Runs.{every_at, run_cases}
use Rattle.cove_model.proofs.StandLemmas.{free_page, host_page}
use Rattle.cove_model.proofs.WordProofs.{convert_stands, global_fence_stands, local_fence_stands, reclaim_stands}
use Rattle.cove_model.specs.WordLaws.{convert_stores, global_fence_stores, local_fence_stores, reclaim_stores, zeroed}
use Rattle.cove_tvm.proofs.KeptGround.{owners_change_stands}
use Rattle.cove_tvm.specs.GroundLaws.{ConvertStands, GlobalFenceStands, LocalFenceStands, ReclaimStands}
use Rattle.cove_tvm.specs.Leaves.{LeavesEveryTvm}

-- a run of pages that are no TVM's is filled with a word that gives them to none
pub filled_leaves : (pages harts : ℕ) (words : List ℕ) (first n word : ℕ) → first + n ≤ pages → 513 * pages ≤ length words
    → ((p t : ℕ) (role : Role) → first ≤ p → p < first + n → get_or words p 0 ≢ given t role)
    → ((t : ℕ) (role : Role) → word ≢ given t role)
    → LeavesEveryTvm pages harts words (stored words (fills first n word))
filled_leaves pages harts words first n word inside size before after = record {
  size = length-stored words (fills first n word);
  page = λ p t role on. elim (run_cases first n p) [
    | inl run ↦
        let is = get_or-fills words first n word p run.0 run.1 (omega arith) in
        (λ gives. absurd (after t role (sym is ∙ gives)), λ gives. absurd (before p t role run.0 run.1 gives))
    | inr out ↦
        let same = get_or-fills_other words first n word p out in
        (λ gives. sym same ∙ gives, λ gives. same ∙ gives)
  ];
  tables = λ place low high. get_or-fills_other words first n word place (inr (omega arith));
  rest = λ place low high. get_or-fills_other words first n word place (inr (omega arith));
}

-- the epoch and a hart's answered number change alone
pub fence_leaves : (pages harts hart : ℕ) (words new : List ℕ) → hart < harts → length new ≡ length words
    → ((place : ℕ) → place ≢ epoch_word pages → place ≢ answered_word pages hart → get_or new place 0 ≡ get_or words place 0)
    → LeavesEveryTvm pages harts words new
fence_leaves pages harts hart words new on size others = record {
  size = size;
  page = λ p t role low.
      let same = others p (omega arith) (omega arith) in
      (λ gives. sym same ∙ gives, λ gives. same ∙ gives);
  tables = λ place low high. others place (omega arith) (omega arith);
  rest = λ place low high. others place (omega arith) (omega arith);
}

host_not_given : (harts epoch : ℕ) (answered : ℕ → ℕ) (maps word t : ℕ) (role : Role) (owner : Owner) → is_host owner ≡ true → PageStands harts epoch answered maps word owner → word ≢ given t role
host_not_given harts epoch answered maps word t role owner is stands gives =
    let held = host_page owner is in
    let e : word ≡ host maps = subst (PageStands harts epoch answered maps word) held.1 stands in
    given_host t maps role (sym gives ∙ e)

-- a free page is given to no TVM
pub free_not_given : (harts : ℕ) (answered : ℕ → ℕ) (word t : ℕ) (role : Role) → FreeStands harts answered word → word ≢ given t role
free_not_given harts answered word t role (inl is) gives = omega arith
free_not_given harts answered word t role (inr is) gives = let e = is.1 in omega arith

converting_not_given : (since t : ℕ) (role : Role) → converting since ≢ given t role
converting_not_given since t role e = omega arith

host_none : (t : ℕ) (role : Role) → host 0 ≢ given t role
host_none t role e = given_host t 0 role (sym e)

words_long : (pages harts size : ℕ) → size ≡ all_words pages harts → 513 * pages ≤ size
words_long pages harts size is = omega arith

pub ground_converts : ConvertStands
ground_converts words ground S hart base n some inside hosts stands =
    let owners = stands.words_stand.stands.owners in
    let long = owners.page_count in
    owners_change_stands words (stored words (convert_stores ground.pages words base n)) ground ground.memory S (effect S hart (Convert base n)) stands
    (record { tvms = refl; made = refl; seats = refl; kicked = refl; key = refl; files = refl })
    (filled_leaves ground.pages ground.harts words (base / 4096) n (converting (epoch_in ground.pages words)) inside
    (words_long ground.pages ground.harts (length words) stands.words_stand.stands.size)
    (λ p t role low high.
    host_not_given ground.harts (epoch_in ground.pages words) (answered_in ground.pages words) (maps_of S p) (get_or words p 0) t role (page_at S.pages p)
    (every_at is_host (base / 4096) n S.pages hosts p low high (omega arith)) (owners.page p (omega arith)))
    (converting_not_given (epoch_in ground.pages words)))
    (convert_stands ground.pages ground.harts words S hart base n some inside hosts stands.words_stand)
    (convert_keeps_frames ground.memory S hart base n stands.frames)

pub ground_fences : GlobalFenceStands
ground_fences words ground S hart on answered stands =
    let pages = ground.pages in
    let next = epoch_in ground.pages words + 1 in
    let begun : List ℕ = set words (epoch_word ground.pages) next in
    owners_change_stands words (stored words (global_fence_stores ground.pages words hart)) ground ground.memory S (effect S hart GlobalFence) stands
    (record { tvms = refl; made = refl; seats = refl; kicked = refl; key = refl; files = refl })
    (fence_leaves ground.pages ground.harts hart words (stored words (global_fence_stores ground.pages words hart)) on
    (length-stored words (global_fence_stores ground.pages words hart))
    (λ place not_epoch not_answer.
    get_or-set_other begun (answered_word ground.pages hart) place next 0 not_answer
    ∙ get_or-set_other words (epoch_word ground.pages) place next 0 not_epoch))
    (global_fence_stands ground.pages ground.harts words S hart on answered stands.words_stand)
    (global_fence_keeps_frames ground.memory S hart stands.frames)

pub ground_answers : LocalFenceStands
ground_answers words ground S hart on stands =
    owners_change_stands words (stored words (local_fence_stores ground.pages words hart)) ground ground.memory S (effect S hart LocalFence) stands
    (record { tvms = refl; made = refl; seats = refl; kicked = refl; key = refl; files = refl })
    (fence_leaves ground.pages ground.harts hart words (stored words (local_fence_stores ground.pages words hart)) on
    (length-stored words (local_fence_stores ground.pages words hart))
    (λ place not_epoch not_answer. get_or-set_other words (answered_word ground.pages hart) place (epoch_in ground.pages words) 0 not_answer))
    (local_fence_stands ground.pages ground.harts words S hart on stands.words_stand)
    (local_fence_keeps_frames ground.memory S hart stands.frames)

pub ground_reclaims : ReclaimStands
ground_reclaims words ground S hart base n inside free sound stands =
    let owners = stands.words_stand.stands.owners in
    let long = owners.page_count in
    owners_change_stands words (stored words (reclaim_stores base n)) ground (zeroed ground.memory (base / 4096) n) S (effect S hart (Reclaim base n)) stands
    (record { tvms = refl; made = refl; seats = refl; kicked = refl; key = refl; files = refl })
    (filled_leaves ground.pages ground.harts words (base / 4096) n (host 0) inside
    (words_long ground.pages ground.harts (length words) stands.words_stand.stands.size)
    (λ p t role low high.
    let is = free_page (page_at S.pages p) (every_at is_free (base / 4096) n S.pages free p low high (omega arith)) in
    free_not_given ground.harts (answered_in ground.pages words) (get_or words p 0) t role
    (subst (PageStands ground.harts (epoch_in ground.pages words) (answered_in ground.pages words) (maps_of S p) (get_or words p 0)) is (owners.page p (omega arith))))
    host_none)
    (reclaim_stands ground.pages ground.harts words S hart base n inside free sound stands.words_stand)
    (reclaim_zeroes_frames ground.memory S hart base n free stands.frames)
