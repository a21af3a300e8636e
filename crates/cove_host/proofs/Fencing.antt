-- What both fences answer and leave, by the places of the epoch and the answered numbers.
use Rattle.std.proofs.Common.{◌≡◌, ℕ, ◌<◌, ◌∙◌, List, length, refl, ap, arith, get_or-set_other}
use Rattle.std.proofs.lemmas.Bool.{lt-ltb}
use Rattle.std.proofs.lemmas.Grind.{get_or-set_at}
use Rattle.cove_base.proofs.StoreLemmas.{AllAllowed-weaker}
use Rattle.cove_model.specs.Machine.{all_words, epoch_word, AllAllowed, stored, GlobalFence, LocalFence, ENTRY_LIMIT, AlreadyStarted, Success, rule, AllowsLawful, IsLawful, epoch_in}
use Rattle.cove_fence.specs.Fences.{FenceWords, HaveAnswered, IsBehind, answer_stores, begin_stores}
use Rattle.cove_host.proofs.AcceptedCalls.{accepts, rises_within}
use Rattle.cove_host.proofs.Creating.{refuses}
use Rattle.cove_tvm.specs.Called.{Called, IsReady}
use Rattle.cove_model.proofs.LawfulProofs.{global_fence_is_lawful, local_fence_is_lawful}
use Rattle.cove_model.proofs.ToldProofs.{words_tell_answered, words_tell_lowest}
use Rattle.cove_model.specs.WordLaws.{AllAnswer, global_fence_stores, local_fence_stores}
use Rattle.cove_tvm.proofs.OwnerCalls.{ground_answers, ground_fences}
use Rattle.cove_tvm.specs.declared.ground.Ground.{Ground}

abbrev fence_words : (first harts : ℕ) → FenceWords
fence_words first harts = record { first = first; harts = harts }

module _ (words : List ℕ) (G : Ground) (hart : ℕ) (ready : IsReady words G) (places : FenceWords) (first_is : places.first ≡ epoch_word G.pages)
    (harts_is : places.harts ≡ G.harts) where
  long : length words ≡ all_words G.pages G.harts
  long = ready.stands.words_stand.stands.size

  room : epoch_in G.pages words < ENTRY_LIMIT
  room = let epoch = ready.fences.epoch in omega arith

  -- the places of the board's fence words
  places_are : places ≡ fence_words (epoch_word G.pages) G.harts
  places_are = ap (λ first. fence_words first places.harts) first_is ∙ ap (λ n. fence_words (epoch_word G.pages) n) harts_is

  pub fence_denied : (k : ℕ) → IsBehind places words k → HaveAnswered places words k
      → Called hart (λ S. rule S hart GlobalFence) words words G G (record { status = AlreadyStarted; value = k })
  fence_denied k behind below =
      refuses hart (λ S. rule S hart GlobalFence) words G (record { status = AlreadyStarted; value = k }) (λ S stands.
      let is = rw places_are at behind in
      let told = words_tell_lowest G.pages G.harts words S k stands.words_stand.stands.owners (is.0, is.1, rw places_are at below) in
      rw (lt-ltb 0 (length S.unanswered) told.0, told.1))

  module _ (on : hart < G.harts) where
    begin_lawful : HaveAnswered places words places.harts → AllAllowed (IsLawful G.pages G.harts hart words) words (global_fence_stores G.pages words hart)
    begin_lawful all = global_fence_is_lawful G.pages G.harts words hart on (omega (arith, long)) room (rw places_are at all)

    pub begin_allowed : (allows : List ℕ → ℕ → ℕ → Type 0) → AllowsLawful allows G.pages G.harts hart words → HaveAnswered places words places.harts
        → AllAllowed allows words (begin_stores places words hart)
    begin_allowed allows lawful all =
        rw places_are
        (AllAllowed-weaker (IsLawful G.pages G.harts hart words) allows words (global_fence_stores G.pages words hart) lawful (begin_lawful all))

    pub fence_accepted : HaveAnswered places words places.harts
        → Called hart (λ S. rule S hart GlobalFence) words (stored words (begin_stores places words hart)) G G (record { status = Success; value = 0 })
    fence_accepted all =
        let answers : AllAnswer G.pages G.harts words = rw places_are at all in
        let new : List ℕ = stored words (global_fence_stores G.pages words hart) in
        rw places_are (accepts hart (λ S. rule S hart GlobalFence) words G G (global_fence_stores G.pages words hart) (begin_lawful all)
        (λ most within.
        rises_within G.pages G.harts words new most (omega (arith, long, get_or-set_at {X = ℕ}, get_or-set_other {A = ℕ}))
        (λ t. omega (arith, on, get_or-set_other {A = ℕ})) within)
        (omega (arith, long, get_or-set_other {A = ℕ}))
        (λ S met stands. record {
          none = rw (words_tell_answered G.pages G.harts words S stands.words_stand.stands.owners answers);
          value = refl;
          stands = ground_fences words G S hart on answers stands;
        }))

    pub answer_allowed : (allows : List ℕ → ℕ → ℕ → Type 0) → AllowsLawful allows G.pages G.harts hart words
        → AllAllowed allows words (answer_stores places words hart)
    answer_allowed allows lawful =
        rw places_are
        (AllAllowed-weaker (IsLawful G.pages G.harts hart words) allows words (local_fence_stores G.pages words hart) lawful
        (local_fence_is_lawful G.pages G.harts words hart on))

    pub answer_accepted : Called hart (λ S. rule S hart LocalFence) words (stored words (answer_stores places words hart)) G G (record { status = Success; value = 0 })
    answer_accepted =
        let new : List ℕ = stored words (local_fence_stores G.pages words hart) in
        rw places_are (accepts hart (λ S. rule S hart LocalFence) words G G (local_fence_stores G.pages words hart) (local_fence_is_lawful G.pages G.harts words hart on)
        (λ most within.
        rises_within G.pages G.harts words new most (omega (arith, get_or-set_other {A = ℕ})) (λ t. omega (arith, on, get_or-set_other {A = ℕ})) within)
        (omega (arith, get_or-set_other {A = ℕ}))
        (λ S met stands. record { none = refl; value = refl; stands = ground_answers words G S hart on stands }))
