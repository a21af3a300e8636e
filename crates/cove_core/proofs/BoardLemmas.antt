-- What is kept stands on the script's board, and is ready for a call.
use Rattle.std.proofs.Common.{ℕ, ◌^◌, ◌<◌, ◌≤◌, List, length, get_or, sym, subst, ◌∙◌, arith}
use Rattle.cove_model.specs.Machine.{Entry, Event, PAGE_LIMIT, HART_LIMIT, ENTRY_LIMIT, IsPageWord, ScriptValue, Legal, after, done, FencesWithin, maps_of}
use Rattle.cove_base.proofs.ScriptLimits.{Limits}
use Rattle.cove_core.specs.Kept.{IsBoard, IsKept}
use Rattle.cove_core.specs.declared.monitors.Mon.{Mon}
use Rattle.cove_tvm.specs.Called.{IsMet, IsReady}
use Rattle.cove_model.proofs.Boards.{board_of}
use Rattle.cove_model.proofs.Frames.{framed_done}
use Rattle.cove_model.proofs.Histories.{sound}
use Rattle.cove_model.proofs.Ordering.{orderly}
use Rattle.cove_model.proofs.Running.{seated}
use Rattle.cove_model.proofs.SharedLeaves.{stores_count_shared}
use Rattle.cove_model.proofs.ToldProofs.{words_are_words}
use Rattle.cove_model.specs.WordLaws.{Stand}
use Rattle.cove_tvm.specs.Stands.{Stands}
use Rattle.cove_tvm.specs.declared.ground.Ground.{Ground}

-- what holds of the ground's board holds of the script's, and the other way round
module _ (script : ScriptValue) (G : Ground) (board : IsBoard script G) (P : (pages harts : ℕ) → Type 0) where
  pub at_script : P G.pages G.harts → P script.pages script.harts
  at_script here = subst (λ h. P script.pages h) board.harts (subst (λ p. P p G.harts) board.pages here)

  pub at_ground : P script.pages script.harts → P G.pages G.harts
  at_ground here = subst (λ p. P p G.harts) (sym board.pages) (subst (λ h. P script.pages h) (sym board.harts) here)

-- the ground that stands for what an event leaves is of the script's board
pub board_by : (script : ScriptValue) (H : List Entry) (h : ℕ) (event : Event) (words : List ℕ) (G : Ground)
    → Stands words G (done (after script H) h event) → IsBoard script G
board_by script H h event words G stands =
    let framed = framed_done (after script H) h event in
    let owners = stands.words_stand.stands.owners in
    record {
      pages = sym owners.page_count ∙ framed.size ∙ (board_of script H).same_pages;
      harts = sym owners.hart_count ∙ framed.harts ∙ (board_of script H).same_harts;
    }

-- the state after a legal history is one that calls meet
pub met_after : (script : ScriptValue) → Limits script → (H : List Entry) → Legal script H → IsMet (after script H)
met_after script limits H legal = record { sound = sound script H; orderly = orderly script H; seated = seated script limits H legal }

-- words that are kept stand on the script's board
pub kept_stand : (script : ScriptValue) (words : List ℕ) (mon : Mon) → IsKept script words mon → Stand script.pages script.harts words (after script mon.history)
kept_stand script words mon kept =
    at_script script mon.ground kept.board (λ p h. Stand p h words (after script mon.history)) kept.stands.words_stand

-- they and their ground are ready for a call, where the history has room for one more entry
pub kept_ready : (script : ScriptValue) → Limits script → (words : List ℕ) (mon : Mon) → IsKept script words mon → length mon.history < ENTRY_LIMIT → IsReady words mon.ground
kept_ready script limits words mon kept room =
    let G = mon.ground in
    let fences = at_ground script G kept.board (λ p h. FencesWithin p h words (length mon.history)) kept.fences in
    let epoch = fences.epoch in
    record {
      page_limit = subst (λ n. n ≤ PAGE_LIMIT) (sym kept.board.pages) limits.few_pages;
      some_hart = let same = kept.board.harts in let some = limits.some_harts in omega arith;
      hart_limit = subst (λ n. n ≤ HART_LIMIT) (sym kept.board.harts) limits.few_harts;
      fences = record {
        epoch = omega arith;
        numbers = λ t low high. let number = fences.numbers t low high in omega arith;
      };
      state = after script mon.history;
      met = met_after script limits mon.history kept.legal;
      stands = kept.stands;
    }

-- and have each page's word
pub kept_page_words : (script : ScriptValue) → Limits script → (words : List ℕ) (mon : Mon) → IsKept script words mon → length mon.history < ENTRY_LIMIT → (p : ℕ) → p < script.pages → IsPageWord (get_or words p 0)
kept_page_words script limits words mon kept room p below =
    let G = mon.ground in
    let some = limits.some_harts in
    let fences = kept.fences.epoch in
    let few_pages = limits.few_pages in
    let board = kept.board.pages in
    let few = (stores_count_shared G.pages G.harts words p kept.stands.words_stand.stands.size).0 in
    let counted = kept.stands.counted p (omega arith) in
    let maps : maps_of (after script mon.history) p < 2 ^ 32 = omega arith in
    words_are_words script.pages script.harts words (after script mon.history) p below (kept_stand script words mon kept) (omega arith) (omega arith) maps
