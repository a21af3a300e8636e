-- An entry that was made and counted leaves the history kept, and its hart fitting.
use Rattle.std.proofs.Common.{◌≡◌, ℕ, ◌+◌, ◌<◌, ◌≤◌, ◌≢◌, List, [], ◌∷◌, ◌++◌, IsSome, is_some, None, get_or, set, length, inl, inr, refl, sym, subst, ap, ◌∙◌, arith, get_or-set_other, get_or-set_same, length-set}
use Rattle.std.proofs.lemmas.Bool.{cases_eq}
use Rattle.std.proofs.lemmas.List.{length_push}
use Rattle.cove_base.specs.HartPlaces.{IsNextPlace}
use Rattle.cove_model.specs.Machine.{HartValue, count_word, epoch_word, tvm_word, all_words, ScriptValue, Entry, HostCall, Event, Reply, state_after, next_line, IsReached, after, entry_by, State, ended_by, after_event, done, renewed, tlb, FencesWithin}
use Rattle.cove_core.proofs.BoardLemmas.{at_script}
use Rattle.cove_core.proofs.GroundSteps.{count_stands, line_stands}
use Rattle.cove_core.specs.Kept.{IsKept, ProgressStands}
use Rattle.cove_core.specs.Made.{IsPerformed}
use Rattle.cove_core.specs.declared.monitors.Mon.{Mon}
use Rattle.cove_model.proofs.AtTheEnd.{after_push, each_push, ended_other, ended_own, from_end, legal_push}
use Rattle.cove_model.proofs.Lists.{replicate_zero}
use Rattle.cove_model.proofs.Beginning.{outside_due}
use Rattle.cove_model.proofs.Boards.{board_of}
use Rattle.cove_model.proofs.Fitting.{fits_entered}
use Rattle.cove_model.proofs.Unbuilt.{all_outside, done_leaves_outside, ended_line, outside_after}
use Rattle.cove_model.specs.Fits.{Fits, InsideFits, rings_of}
use Rattle.cove_model.specs.LawfulCounts.{IsCountable}
use Rattle.cove_model.specs.WordLaws.{Stand}
use Rattle.cove_tvm.specs.Stands.{Stands}
use Rattle.cove_tvm.specs.declared.ground.Ground.{Ground}

-- ---- the state after an entry

module _ (script : ScriptValue) (H : List Entry) (h : ℕ) (event : Event) where
  pub after_own : after script (H ++ entry_by h event ∷ []) ≡ after_event (after script H) h event
  after_own = after_push script H (entry_by h event)

  pub ended_after_own : h < script.harts → ended_by (after script (H ++ entry_by h event ∷ [])) h ≡ ended_by (after script H) h + 1
  ended_after_own on =
      let size = (board_of script H).same_lists in
      ap (λ (T : State). ended_by T h) after_own ∙ ended_own (after script H) h event (omega arith) ((done_leaves_outside (after script H) h (all_outside script H) event).outside h)

  pub ended_after_other : (k : ℕ) → k ≢ h → ended_by (after script (H ++ entry_by h event ∷ [])) k ≡ ended_by (after script H) k
  ended_after_other k ne = ap (λ (T : State). ended_by T k) after_own ∙ ended_other (after script H) h k event ne

  pub progress_own : (places : List ℕ) (place : ℕ) → h < script.harts → IsNextPlace script h (ended_by (after script H) h + 1) place → ProgressStands script (after script H) places → ProgressStands script (after script (H ++ entry_by h event ∷ [])) (set places h place)
  progress_own places place on here old = record {
    count = length-set places h place ∙ old.count;
    each = λ k below. elim (cases_eq k h) [
      | inl e ↦
          let count = old.count in
          let within : h < length places = omega arith in
          subst (λ j. IsNextPlace script j (ended_by (after script (H ++ entry_by h event ∷ [])) j) (get_or (set places h place) j 0)) (sym e)
          (subst (λ n. IsNextPlace script h n (get_or (set places h place) h 0)) (sym (ended_after_own on))
          (subst (λ n. IsNextPlace script h (ended_by (after script H) h + 1) n) (sym (get_or-set_same places h place 0 within)) here))
      | inr ne ↦
          subst (λ n. IsNextPlace script k n (get_or (set places h place) k 0)) (sym (ended_after_other k ne))
          (subst (λ n. IsNextPlace script k (ended_by (after script H) k) n) (sym (get_or-set_other places h k place 0 ne)) (old.each k below))
    ];
  }

  -- a hart that ended its line, used its walk and has the rings of its translations fits
  pub fits_own : (held : HartValue) → held.hart ≡ h → h < script.harts → held.ended ≡ ended_by (after script H) h + 1 → IsNextPlace script h held.ended held.place → held.walked ≡ None → held.inside ≡ None → held.rings ≡ rings_of (renewed (after script H) h (tlb script H h) event) → Fits script (H ++ entry_by h event ∷ []) held
  fits_own held same on ended place none outside rings =
      fits_entered script H (entry_by h event) held (sym same)
      (subst (λ k. k < script.harts) (sym same) on)
      (ended ∙ sym (ended_after_own on) ∙ ap (ended_by (after script (H ++ entry_by h event ∷ []))) (sym same))
      (subst (λ k. IsNextPlace script k held.ended held.place) (sym same) place)
      (rings ∙ ap (λ k. rings_of (renewed (after script H) k (tlb script H k) event)) (sym same))
      none
      (subst (InsideFits (after script (H ++ entry_by h event ∷ [])) held.hart) (sym outside) (outside_after script (H ++ entry_by h event ∷ []) held.hart))

-- words and ground that stand for what a call leaves stand for the history with its entry
pub call_entered : (words : List ℕ) (G : Ground) (script : ScriptValue) (H : List Entry) (h : ℕ) (call : HostCall) (reply : Reply)
    → Stands words G (state_after (after script H) h call) → Stands words G (after script (H ++ entry_by h (Event.Call call reply) ∷ []))
call_entered words G script H h call reply stands =
    let is = after_own script H h (Event.Call call reply) ∙ ended_line (after script H) h (all_outside script H) (Event.Call call reply) in
    subst (Stands words G) (sym is) (line_stands words G h None (state_after (after script H) h call) stands)

-- no hart has ended more lines than there are entries
pub ended_within : (script : ScriptValue) (h : ℕ) → h < script.harts → (H : List Entry) → ended_by (after script H) h ≤ length H
ended_within script h on = from_end (λ H. ended_by (after script H) h ≤ length H)
    (λ H e more.
    let size = (board_of script H).same_lists in
    let longer : length (H ++ e ∷ []) ≡ length H + 1 = length_push H e in
    elim (cases_eq h e.hart.0) [
      | inl same ↦
          let own : ended_by (after script (H ++ e ∷ [])) h ≡ ended_by (after script H) h + 1 =
          ap (λ (T : State). ended_by T h) (after_push script H e)
          ∙ ap (λ k. ended_by (after_event (after script H) k e.event) h) (sym same)
          ∙ ended_own (after script H) h e.event (omega arith) ((done_leaves_outside (after script H) h (all_outside script H) e.event).outside h) in
          omega arith
      | inr ne ↦
          let own : ended_by (after script (H ++ e ∷ [])) h ≡ ended_by (after script H) h =
          ap (λ (T : State). ended_by T h) (after_push script H e) ∙ ended_other (after script H) e.hart.0 h e.event ne in
          omega arith
    ])
    (let none : ended_by (after script []) h ≡ 0 = replicate_zero script.harts h in omega arith)

-- ---- what was performed may be counted, and is kept then

module _ (script : ScriptValue) (words : List ℕ) (mon : Mon) (held : HartValue) (event : Event) (performed : IsPerformed script words mon held event) where
  stands_after : Stands words mon.ground (after script (mon.history ++ entry_by held.hart event ∷ []))
  stands_after =
      subst (Stands words mon.ground) (sym (after_own script mon.history held.hart event))
      (line_stands words mon.ground held.hart ((done (after script mon.history) held.hart event).seats held.hart) (done (after script mon.history) held.hart event) performed.stands)

  words_after : Stand script.pages script.harts words (after script (mon.history ++ entry_by held.hart event ∷ []))
  words_after =
      at_script script mon.ground performed.board (λ p h. Stand p h words (after script (mon.history ++ entry_by held.hart event ∷ []))) stands_after.words_stand

  pub countable : IsCountable script mon.history held.hart words (entry_by held.hart event)
  countable = record {
    own = refl;
    allowed = performed.allowed;
    reached = performed.reached;
    stands = words_after;
    count = performed.count;
    fences = performed.fences;
  }

  pub kept_after : (place : ℕ) → IsNextPlace script held.hart (held.ended + 1) place
      → IsKept script (set words (count_word script.pages script.harts) (length mon.history + 1))
      (record { ground = mon.ground; history = mon.history ++ entry_by held.hart event ∷ []; progress = set mon.progress held.hart place })
  kept_after place here =
      let at = count_word script.pages script.harts in
      let count = length mon.history + 1 in
      let now : List ℕ = set words at count in
      let size : length words ≡ all_words script.pages script.harts = words_after.stands.size in
      let within : at < length words = omega arith in
      let longer : length (mon.history ++ entry_by held.hart event ∷ []) ≡ length mon.history + 1 = length_push mon.history (entry_by held.hart event) in
      record {
        board = performed.board;
        legal = legal_push script mon.history (entry_by held.hart event) performed.legal performed.allowed;
        cached = each_push (λ before entry. IsReached script before entry.hart.0 entry.event) [] mon.history (entry_by held.hart event) performed.cached performed.reached;
        stands =
            at_script script mon.ground performed.board (λ p h. Stands (set words (count_word p h) count) mon.ground (after script (mon.history ++ entry_by held.hart event ∷ [])))
            (count_stands words mon.ground count (after script (mon.history ++ entry_by held.hart event ∷ [])) stands_after);
        progress = progress_own script mon.history held.hart event mon.progress place performed.on_board (subst (λ n. IsNextPlace script held.hart (n + 1) place) performed.counts here) performed.progress;
        count = get_or-set_same words at count 0 within ∙ sym longer;
        fences = subst (FencesWithin script.pages script.harts now) (sym longer) (record {
          epoch =
              let apart : epoch_word script.pages ≢ at = omega arith in
              subst (λ n. n ≤ length mon.history + 1) (sym (get_or-set_other words at (epoch_word script.pages) count 0 apart)) performed.fences.epoch;
          numbers = λ t low high.
              let apart : tvm_word script.pages script.harts t ≢ at = omega arith in
              subst (λ n. n ≤ length mon.history + 1) (sym (get_or-set_other words at (tvm_word script.pages script.harts t) count 0 apart)) (performed.fences.numbers t low high);
        });
      }

  pub fits_after : (left : HartValue) → left.hart ≡ held.hart → left.ended ≡ held.ended + 1 → IsNextPlace script held.hart left.ended left.place → left.walked ≡ None → left.inside ≡ None → left.rings ≡ held.rings → Fits script (mon.history ++ entry_by held.hart event ∷ []) left
  fits_after left same ended place none outside rings =
      fits_own script mon.history held.hart event left same performed.on_board (ended ∙ ap (λ n. n + 1) performed.counts) place none outside (rings ∙ performed.rings)

  -- a hart that made an event has a line left
  pub has_line : IsSome (next_line script held.hart held.ended)
  has_line =
      let due = outside_due script (after script mon.history) held.hart event (outside_after script mon.history held.hart) performed.allowed in
      ap (λ o. is_some o) (ap (next_line script held.hart) performed.counts ∙ due.found)

  -- it has not ended more lines than there are entries
  pub ended_few : held.ended ≤ length mon.history
  ended_few = subst (λ n. n ≤ length mon.history) (sym performed.counts) (ended_within script held.hart performed.on_board mon.history)

  pub kept_by : (now : List ℕ) (history : List Entry) (places : List ℕ) (place : ℕ)
      → IsNextPlace script held.hart (held.ended + 1) place
      → now ≡ set words (count_word script.pages script.harts) (length mon.history + 1)
      → history ≡ mon.history ++ entry_by held.hart event ∷ []
      → places ≡ set mon.progress held.hart place
      → IsKept script now (record { ground = mon.ground; history = history; progress = places })
  kept_by now history places place here ws hs ps =
      subst (λ x. IsKept script x (record { ground = mon.ground; history = history; progress = places })) (sym ws)
      (subst (λ x. IsKept script (set words (count_word script.pages script.harts) (length mon.history + 1)) (record { ground = mon.ground; history = x; progress = places })) (sym hs)
      (subst (λ x. IsKept script (set words (count_word script.pages script.harts) (length mon.history + 1)) (record { ground = mon.ground; history = mon.history ++ entry_by held.hart event ∷ []; progress = x })) (sym ps)
      (kept_after place here)))
