-- The calls on owners keep words standing.
use Rattle.std.proofs.Common.{◌≡◌, ◌≢◌, ℕ, ◌+◌, ◌/◌, ◌<◌, List, length, get_or, set, refl, sym, ◌∙◌, ap, inl, inr, arith, length-set, get_or-set_same, get_or-set_other}
use Rattle.std.proofs.lemmas.Bool.{cases_eq}
use Rattle.std.proofs.lemmas.Grind.{get_or-set_at}
use Rattle.cove_model.specs.Machine.{host, converting, epoch_word, answered_word, all_words, without, page_at, converted, fenced, fence_answered, reclaimed, harts_below, epoch_in, answered_in, maps_of}
use Rattle.cove_model.specs.WordLaws.{ConvertWordsStand, GlobalFenceWordsStand, LocalFenceWordsStand, ReclaimWordsStand}
use Rattle.cove_model.proofs.Runs.{every_at}
use Rattle.cove_model.proofs.HartLists.{others_behind, without-behind}
use Rattle.cove_model.proofs.PageLaws.{converted_page, fenced_page, answered_page}
use Rattle.cove_model.proofs.SharedPages.{free_not_shared}
use Rattle.cove_model.proofs.ToldProofs.{maps_none}
use Rattle.cove_model.proofs.StandLemmas.{host_page, free_page, filled_stand, answered_stand}

pub convert_stands : ConvertWordsStand
convert_stands pages harts words S hart base n some inside all stand =
    let owners = stand.stands.owners in
    filled_stand pages harts words S (converted (harts_below S.harts)) (base / 4096) n (converting (epoch_in pages words)) inside (λ o e. grind arith)
    (λ p low high within.
    let was = host_page (page_at S.pages p) (every_at _ (base / 4096) n S.pages all p low high (omega (arith, owners.page_count))) in
    rw (was.1, owners.hart_count) (converted_page harts (epoch_in pages words) (answered_in pages words) (maps_of S p) some stand.within was.0)) stand

pub reclaim_stands : ReclaimWordsStand
reclaim_stands pages harts words S hart base n inside all sound stand =
    filled_stand pages harts words S reclaimed (base / 4096) n (host 0) inside (λ o e. grind arith) (λ p low high within.
    let was = free_page (page_at S.pages p) (every_at _ (base / 4096) n S.pages all p low high (omega (arith, stand.stands.owners.page_count))) in
    rw was (ap host (sym (maps_none S p (free_not_shared S p sound was))))) stand

pub global_fence_stands : GlobalFenceWordsStand
global_fence_stands pages harts words S hart on answers stand =
    let size : length words ≡ all_words pages harts = stand.stands.size in
    let count = stand.stands.owners.hart_count in
    let epoch = epoch_in pages words in
    let before = answered_in pages words in
    let others_of = without hart (harts_below S.harts) in
    let once : List ℕ = set words (epoch_word pages) (epoch + 1) in
    let words' : List ℕ = set once (answered_word pages hart) (epoch + 1) in
    let after = answered_in pages words' in
    let long : length once ≡ length words = length-set words (epoch_word pages) (epoch + 1) in
    let kept : (place : ℕ) → place ≢ epoch_word pages → place ≢ answered_word pages hart → get_or words' place 0 ≡ get_or words place 0 =
    λ place ne other. get_or-set_other once (answered_word pages hart) place (epoch + 1) 0 other ∙ get_or-set_other words (epoch_word pages) place (epoch + 1) 0 ne in
    let new : epoch_in pages words' ≡ epoch + 1 = omega (arith, get_or-set_at {X = ℕ}, get_or-set_other {A = ℕ}) in
    let own : after hart ≡ epoch + 1 = get_or-set_same once (answered_word pages hart) (epoch + 1) 0 (omega arith) in
    let others : (k : ℕ) → k ≢ hart → after k ≡ before k = λ k ne. kept (answered_word pages k) (omega arith) (omega arith) in
    let all : (k : ℕ) → k < harts → before k ≡ epoch = λ k within. omega (arith, stand.within k within, answers k within) in
    record {
      stands = answered_stand pages harts hart words words' S (fenced hart others_of) others_of on (length-set once (answered_word pages hart) (epoch + 1) ∙ long) kept refl (λ o e. grind arith)
          (λ maps word o h. rw (new, count) (fenced_page harts hart epoch before after on all own others maps word o h))
          (rw (new, count) (others_behind harts hart after (epoch + 1) (omega arith) (λ k within ne. omega (arith, others k ne, all k within)))) stand.stands;
      within = λ k within. elim (cases_eq k hart) [
        | inl is ↦ omega (arith, ap after is)
        | inr ne ↦ omega (arith, others k ne, all k within)
      ];
    }

pub local_fence_stands : LocalFenceWordsStand
local_fence_stands pages harts words S hart on stand =
    let size : length words ≡ all_words pages harts = stand.stands.size in
    let epoch = epoch_in pages words in
    let before = answered_in pages words in
    let words' : List ℕ = set words (answered_word pages hart) epoch in
    let after = answered_in pages words' in
    let kept : (place : ℕ) → place ≢ epoch_word pages → place ≢ answered_word pages hart → get_or words' place 0 ≡ get_or words place 0 =
    λ place ne other. get_or-set_other words (answered_word pages hart) place epoch 0 other in
    let same : epoch_in pages words' ≡ epoch = get_or-set_other words (answered_word pages hart) (epoch_word pages) epoch 0 (omega arith) in
    let own : after hart ≡ epoch = get_or-set_same words (answered_word pages hart) epoch 0 (omega arith) in
    let others : (k : ℕ) → k ≢ hart → after k ≡ before k = λ k ne. kept (answered_word pages k) (omega arith) (omega arith) in
    record {
      stands = answered_stand pages harts hart words words' S (fence_answered hart) (without hart S.unanswered) on
          (length-set words (answered_word pages hart) epoch) kept refl (λ o e. grind arith)
          (λ maps word o h. rw same (answered_page harts hart epoch before after on stand.within own others maps word o h))
          (rw (stand.stands.owners.unanswered, same) (without-behind harts hart before after epoch (omega arith) others)) stand.stands;
      within = λ k within. elim (cases_eq k hart) [
        | inl is ↦ omega (arith, ap after is)
        | inr ne ↦ omega (arith, others k ne, stand.within k within)
      ];
    }
