-- What the examples of calls show.
use Rattle.std.proofs.Common.{◌≡◌, ◌≢◌, ℕ, zero, suc, ◌+◌, ◌<◌, ◌≤◌, not, false, List, [], ◌∷◌, Some, None, get_or, length, set, get_or-set_other, get_or-set_same, refl, sym, ap, subst, ◌∙◌, true≢false, arith}
use Rattle.std.proofs.lemmas.Option.{none-some}
use Rattle.std.specs.Prelude.{unwrap_or}
use Rattle.cove_model.specs.Machine.{answered_word, count_word, epoch_word, tvm_word, AllAllowed, stored, HostCall, Convert, Create, ENTRY_LIMIT, Reply, Denied, InvalidParam, NotSupported, Success, IsLawful, MakesLawful, is_built, refusal, refusal_by, reply_to, rule_of, state_by, rule, AsState, Given, Host, page_at, first_failing, plain, State, opening, opening_words, FencesWithin, FrameStands, FramesStand, epoch_in}
use Rattle.cove_base.specs.Statuses.{is_success}
use Rattle.cove_model.proofs.Histories.{sound}
use Rattle.cove_model.proofs.Lists.{replicate_zero}
use Rattle.cove_model.proofs.Ordering.{orderly}
use Rattle.cove_model.proofs.Running.{none_seated}
use Rattle.cove_model.proofs.StoreLawProofs.{answers_apart}
use Rattle.cove_tvm.proofs.NewGround.{board_is_new, ground_opens}
use Rattle.cove_lives.specs.CallExamples.{only, small_ground, small_script, small_words}
use Rattle.cove_tvm.specs.Called.{Called, IsMet, IsReady}
use Rattle.cove_lives.specs.Examples.{nine_free}
use Rattle.cove_tvm.specs.GroundLaws.{IsNewGround}
use Rattle.cove_tvm.specs.Stands.{Stands}
use Rattle.cove_tvm.specs.declared.ground.Ground.{Ground}

-- ---- states that calls meet

pub met : IsMet (opening small_script)
met = record {
  sound = sound small_script [];
  orderly = orderly small_script [];
  seated = none_seated (opening small_script) (λ h. refl);
}

pub page_of_none : IsMet (record nine_free { pages = Given 1 AsState ∷ [] }) → ⊥
page_of_none is = true≢false (sym (is.orderly.given 0 1 AsState refl))

pub hart_in_none : IsMet (record nine_free { seats = λ hart. Some (record { tvm = 1; cpu = 0 }) }) → ⊥
hart_in_none is =
    let on = is.seated.on 0 (record { tvm = 1; cpu = 0 }) (omega arith) refl in
    none-some on.tvm on.live

pub wordless : IsMet (record nine_free { pages = Host [] ∷ [] }) → ⊥
wordless is = let few : ◌≡◌ {A = ℕ} 0 512 = is.sound.pages_sound 0 in omega arith

-- ---- a board that is ready

frames : FramesStand (opening_words [] 0 ∷ []) (opening small_script)
frames = record { count = refl; frame = frame }
  where
    frame : (p : ℕ) → p < 1 → FrameStands (opening small_script) (get_or (opening_words [] 0 ∷ []) p []) (page_at (opening small_script).pages p)
    frame zero low = refl
    frame (suc p) low = absurd (omega arith)

pub new_ground : IsNewGround small_script small_ground
new_ground = board_is_new small_script small_ground.memory frames

pub kicked : IsNewGround small_script (record small_ground { kicked = 1 }) → ⊥
kicked new = let is : ◌≡◌ {A = ℕ} 1 0 = new.no_kick in omega arith

pub stands : Stands small_words small_ground (opening small_script)
stands = ground_opens small_script small_ground new_ground

no_fence : (place : ℕ) → get_or small_words place 0 ≡ 0
no_fence place = replicate_zero 582 place

pub ready : IsReady small_words small_ground
ready = record {
  page_limit = omega arith;
  some_hart = omega arith;
  hart_limit = omega arith;
  fences = record {
    epoch = omega (arith, no_fence (epoch_word 1));
    numbers = λ t low high. omega (arith, no_fence (tvm_word 1 1 t));
  };
  state = opening small_script;
  met = met;
  stands = stands;
}

pub no_hart : IsReady small_words (record small_ground { harts = 0 }) → ⊥
no_hart is = let some : 0 < 0 = is.some_hart in omega arith

pub last_epoch : IsReady (set small_words (epoch_word 1) ENTRY_LIMIT) small_ground → ⊥
last_epoch is = let few : 200000 ≤ 199999 = is.fences.epoch in omega arith

pub without_words : IsReady [] small_ground → ⊥
without_words is = let size : ◌≡◌ {A = ℕ} 0 582 = is.stands.words_stand.stands.size in omega arith

-- ---- calls

-- fences that stay rise by one at most
fences_stay : (pages harts most : ℕ) (words : List ℕ) → FencesWithin pages harts words most → FencesWithin pages harts words (most + 1)
fences_stay pages harts most words within = record {
  epoch = let few = within.epoch in omega arith;
  numbers = λ t low high. let few = within.numbers t low high in omega arith;
}

pub refused : (hart : ℕ) (words : List ℕ) (G : Ground) → Called hart (λ S. rule S hart (Convert 0 0)) words words G G (only InvalidParam)
refused hart words G = record {
  serves = λ S met stands. (refl, stands);
  lawful = ([], tt, refl);
  refused = λ e. (refl, refl);
  fences = λ most within. fences_stay G.pages G.harts most words within;
  count = refl;
  size = refl;
}

-- success is another answer than a refusal
other_status : (r : Reply) → is_success r.status ≡ false → only Success ≡ r → ⊥
other_status r e same = true≢false (ap (λ (one : Reply). is_success one.status) same ∙ e)

pub another_status : (hart : ℕ) (words new : List ℕ) (G H : Ground) (S : State) → IsMet S → Stands words G S
    → Called hart (λ S. rule S hart (Convert 0 0)) words new G H (only Success) → ⊥
another_status hart words new G H S met stands called = other_status (only InvalidParam) refl (called.serves S met stands).0

-- a word or a ground that differs
changed_word : (rest : List ℕ) → 1 ∷ rest ≡ 0 ∷ rest → ⊥
changed_word rest same = let is : ◌≡◌ {A = ℕ} 1 0 = ap (λ (words : List ℕ). get_or words 0 0) same in omega arith

pub word_changed : (hart : ℕ) (call : HostCall) (rest : List ℕ) (G H : Ground) → Called hart (λ S. rule S hart call) (0 ∷ rest) (1 ∷ rest) G H (only Denied) → ⊥
word_changed hart call rest G H called = changed_word rest (called.refused refl).0

pub ground_changed : (hart : ℕ) (call : HostCall) (words new : List ℕ) (G : Ground)
    → Called hart (λ S. rule S hart call) words new G (record G { kicked = G.kicked + 1 }) (only Denied) → ⊥
ground_changed hart call words new G called =
    let is : G.kicked + 1 ≡ G.kicked = ap (λ (one : Ground). one.kicked) (called.refused refl).1 in
    omega arith

pub no_tvm : (hart root state : ℕ) (words new : List ℕ) (G : Ground) (S : State) (reply : Reply) → IsMet S → Stands words G S
    → refusal_by (rule S hart (Create root state)) ≡ None → Called hart (λ S. rule S hart (Create root state)) words new G G reply → ⊥
no_tvm hart root state words new G S reply met stands passes called =
    let after = subst (λ o. Stands new G (state_by o S (rule S hart (Create root state)).outcome.state)) passes (called.serves S met stands).1 in
    let was : length G.tvms.tvms ≡ S.made = stands.board.made in
    let is : length G.tvms.tvms ≡ S.made + 1 = after.board.made in
    omega arith

-- a word that was stored is another one
raised : (words : List ℕ) (place : ℕ) → place < length words → get_or (set words place (get_or words place 0 + 1)) place 0 ≡ get_or words place 0 → ⊥
raised words place low stays =
    let is = get_or-set_same words place (get_or words place 0 + 1) 0 low in
    omega (arith, is, stays)

-- lawful stores of one hart leave the numbers that the others answered
answers_stay : (pages harts hart other : ℕ) (old : List ℕ) → other < harts → other ≢ hart → (words : List ℕ) (ss : List (ℕ × ℕ))
    → AllAllowed (IsLawful pages harts hart old) words ss
    → get_or (stored words ss) (answered_word pages other) 0 ≡ get_or words (answered_word pages other) 0
answers_stay pages harts hart other old on off words [] all = refl
answers_stay pages harts hart other old on off words (s ∷ ss) all =
    answers_stay pages harts hart other old on off (set words s.0 s.1) ss all.1
    ∙ get_or-set_other words s.0 (answered_word pages other) s.1 0 (answers_apart all.0 other on off)

answered_alone : (pages harts hart other : ℕ) (words : List ℕ) → other < harts → other ≢ hart → answered_word pages other < length words
    → MakesLawful pages harts hart words words (set words (answered_word pages other) (get_or words (answered_word pages other) 0 + 1)) → ⊥
answered_alone pages harts hart other words on off low lawful =
    raised words (answered_word pages other) low
    (ap (λ new. get_or new (answered_word pages other) 0) lawful.2 ∙ answers_stay pages harts hart other words on off words lawful.0 lawful.1)

by_two : (pages harts : ℕ) (new : List ℕ) → epoch_in pages new ≡ 5 → FencesWithin pages harts new 4 → ⊥
by_two pages harts new five within = let few : epoch_in pages new ≤ 4 = within.epoch in omega (arith, five, few)

module _ (hart : ℕ) (call : HostCall) where
  pub count_moved : (words : List ℕ) (G H : Ground) (reply : Reply) → count_word G.pages G.harts < length words
      → Called hart (λ S. rule S hart call) words (set words (count_word G.pages G.harts) (get_or words (count_word G.pages G.harts) 0 + 1)) G H reply → ⊥
  count_moved words G H reply low called = raised words (count_word G.pages G.harts) low called.count

  pub served_count : (words : List ℕ) (G H : Ground) (reply : Reply) → count_word G.pages G.harts < length words
      → Called hart (λ S. rule_of S hart call) words (set words (count_word G.pages G.harts) (get_or words (count_word G.pages G.harts) 0 + 1)) G H reply → ⊥
  served_count words G H reply low served = raised words (count_word G.pages G.harts) low served.count

  pub fence_by_two : (words new : List ℕ) (G H : Ground) (reply : Reply) → FencesWithin G.pages G.harts words 3 → epoch_in G.pages new ≡ 5
      → Called hart (λ S. rule S hart call) words new G H reply → ⊥
  fence_by_two words new G H reply within five called = by_two G.pages G.harts new five (called.fences 3 within)

  pub served_fence : (words new : List ℕ) (G H : Ground) (reply : Reply) → FencesWithin G.pages G.harts words 3 → epoch_in G.pages new ≡ 5
      → Called hart (λ S. rule_of S hart call) words new G H reply → ⊥
  served_fence words new G H reply within five served = by_two G.pages G.harts new five (served.fences 3 within)

module _ (hart other : ℕ) (call : HostCall) (words : List ℕ) (G H : Ground) (reply : Reply) (on : other < G.harts) (off : other ≢ hart)
    (low : answered_word G.pages other < length words) where
  abbrev answered : List ℕ
  answered = set words (answered_word G.pages other) (get_or words (answered_word G.pages other) 0 + 1)

  pub other_hart : Called hart (λ S. rule S hart call) words answered G H reply → ⊥
  other_hart called = answered_alone G.pages G.harts hart other words on off low called.lawful

  pub served_other : Called hart (λ S. rule_of S hart call) words answered G H reply → ⊥
  served_other served = answered_alone G.pages G.harts hart other words on off low served.lawful

-- ---- calls, built or not

not_supported : (hart : ℕ) (call : HostCall) (S : State) → is_built call ≡ false → refusal S hart call ≡ Some (only NotSupported)
not_supported hart call S off = ap (λ b. first_failing (plain (not b) NotSupported ∷ (rule S hart call).checks)) off

pub unbuilt : (hart : ℕ) (call : HostCall) (words : List ℕ) (G : Ground) → is_built call ≡ false
    → Called hart (λ S. rule_of S hart call) words words G G (only NotSupported)
unbuilt hart call words G off = record {
  serves = λ S met stands. rw (not_supported hart call S off) (refl, stands);
  lawful = ([], tt, refl);
  refused = λ e. (refl, refl);
  fences = λ most within. fences_stay G.pages G.harts most words within;
  count = refl;
  size = refl;
}

pub done : (hart : ℕ) (call : HostCall) (words new : List ℕ) (G H : Ground) (S : State) → is_built call ≡ false → IsMet S → Stands words G S
    → Called hart (λ S. rule_of S hart call) words new G H (only Success) → ⊥
done hart call words new G H S off met stands served =
    let reply : only Success ≡ reply_to S hart call = (served.serves S met stands).0 in
    other_status (only NotSupported) refl
    (reply ∙ ap (λ o. unwrap_or o (record { status = Success; value = (rule S hart call).outcome.value })) (not_supported hart call S off))

pub served_refusal : (hart : ℕ) (words : List ℕ) (G : Ground) → Called hart (λ S. rule_of S hart (Convert 0 0)) words words G G (only InvalidParam)
served_refusal hart words G = record {
  serves = λ S met stands. (refl, stands);
  lawful = ([], tt, refl);
  refused = λ e. (refl, refl);
  fences = λ most within. fences_stay G.pages G.harts most words within;
  count = refl;
  size = refl;
}

pub served_word : (hart : ℕ) (call : HostCall) (rest : List ℕ) (G H : Ground) → Called hart (λ S. rule_of S hart call) (0 ∷ rest) (1 ∷ rest) G H (only NotSupported) → ⊥
served_word hart call rest G H served = changed_word rest (served.refused refl).0
