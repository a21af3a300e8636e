-- Stores beside the page words, the epoch and the answered numbers.
use Rattle.std.proofs.Common.{◌≡◌, ◌≢◌, ℕ, ◌+◌, ◌<◌, ◌≤◌, ltb, List, None, Some, Option, get_or, set, refl, sym, ◌∙◌, ap, inl, inr, arith, length-set, get_or-set_other}
use Rattle.cove_model.specs.Machine.{count_word, Place, PageWord, TableWord, EpochWord, AnsweredWord, TvmWord, HartWord, CountWord, IsPlace, place_of, table_word, epoch_word, answered_word, tvm_word, hart_word, Owner, Host, Converting, Free, Given, page_at, State, OwnersStand, PageStands, IsAnsweredByAll, WaitsFor, epoch_in, answered_in, maps_of, harts_behind}
use Rattle.cove_model.specs.WordLaws.{IsBeside, OthersLeaveOwners, CountLeavesWords}
use Rattle.cove_model.proofs.HartLists.{filter_harts}
use Rattle.cove_model.proofs.StandLemmas.{seat_moves, page_moves}

behind_agree : (harts : ℕ) (before after : ℕ → ℕ) (number : ℕ) → ((k : ℕ) → k < harts → after k ≡ before k) → harts_behind harts before number ≡ harts_behind harts after number
behind_agree harts before after number same =
    filter_harts (λ k. ltb (before k) number) (λ k. ltb (after k) number) harts (λ k within. ap (λ n. ltb n number) (sym (same k within)))

-- a page word stands by the answered numbers of the board's harts alone
pub page_agrees : (harts epoch : ℕ) (before after : ℕ → ℕ) → ((k : ℕ) → k < harts → after k ≡ before k) → (maps word : ℕ) (owner : Owner) → PageStands harts epoch before maps word owner → PageStands harts epoch after maps word owner
page_agrees harts epoch before after same maps word (Host words) stands = stands
page_agrees harts epoch before after same maps word (Converting held waiting words) stands = record {
  since = stands.since;
  is = stands.is;
  begun = stands.begun;
  holds = λ k e. let was = stands.holds k e in let at : after k ≡ before k = same k was.0 in (was.0, omega arith);
  waits = waits waiting stands.waits;
  pending = let k = stands.pending.0 in let at : after k ≡ before k = same k stands.pending.1 in (k, stands.pending.1, omega (arith, stands.pending.2));
}
  where
    waits : (w : Option (List ℕ)) → WaitsFor harts epoch before stands.since w → WaitsFor harts epoch after stands.since w
    waits None h = h
    waits (Some w) h = (h.0, h.1 ∙ behind_agree harts before after (stands.since + 1) same)
page_agrees harts epoch before after same maps word Free (inl is) = inl is
page_agrees harts epoch before after same maps word Free (inr stands) =
    let over : IsAnsweredByAll harts after stands.0 = λ k within. let was : stands.0 < before k = stands.2 k within in let at : after k ≡ before k = same k within in omega arith in
    inr (stands.0, stands.1, over)
page_agrees harts epoch before after same maps word (Given tvm purpose) stands = stands

-- words that agree at page words, at the epoch and at the answered numbers stand for the same owners
pub owners_agree : (pages harts : ℕ) (words words' : List ℕ) (S : State) → ((p : ℕ) → p < pages → get_or words' p 0 ≡ get_or words p 0) → get_or words' (epoch_word pages) 0 ≡ get_or words (epoch_word pages) 0 → ((k : ℕ) → k < harts → get_or words' (answered_word pages k) 0 ≡ get_or words (answered_word pages k) 0) → OwnersStand pages harts words S → OwnersStand pages harts words' S
owners_agree pages harts words words' S page epoch numbers old = record {
  page_count = old.page_count;
  hart_count = old.hart_count;
  page = λ p within. page_moves harts _ _ _ _ (maps_of S p) _ _ _ _ epoch refl (page p within) refl (page_agrees harts (epoch_in pages words) (answered_in pages words) (answered_in pages words') numbers (maps_of S p) (get_or words p 0) (page_at S.pages p) (old.page p within));
  unanswered = old.unanswered ∙ behind_agree harts (answered_in pages words) (answered_in pages words') (epoch_in pages words) numbers ∙ ap (λ e. harts_behind harts (answered_in pages words') e) (sym epoch);
}

-- such a place is none of theirs
record IsApart (pages harts place : ℕ) : Type 0 where
  page : (p : ℕ) → p < pages → p ≢ place
  epoch : epoch_word pages ≢ place
  numbers : (k : ℕ) → k < harts → answered_word pages k ≢ place

apart : (pages harts : ℕ) (place : Place) → IsPlace pages harts place → IsBeside place → IsApart pages harts (place_of pages harts place)
apart pages harts (PageWord page) on beside = absurd beside
apart pages harts (TableWord page i) on beside = record { page = λ p within. omega arith; epoch = omega arith; numbers = λ k within. omega arith }
apart pages harts EpochWord on beside = absurd beside
apart pages harts (AnsweredWord hart) on beside = absurd beside
apart pages harts (TvmWord tvm) on beside = record { page = λ p within. omega arith; epoch = omega arith; numbers = λ k within. omega arith }
apart pages harts (HartWord hart) on beside = record { page = λ p within. omega arith; epoch = omega arith; numbers = λ k within. omega arith }
apart pages harts CountWord on beside = record { page = λ p within. omega arith; epoch = omega arith; numbers = λ k within. omega arith }

pub others_leave_owners : OthersLeaveOwners
others_leave_owners pages harts words S place word on beside old =
    let off = apart pages harts place on beside in
    let at = place_of pages harts place in
    owners_agree pages harts words (set words at word) S
    (λ p within. get_or-set_other words at p word 0 (off.page p within))
    (get_or-set_other words at (epoch_word pages) word 0 off.epoch)
    (λ k within. get_or-set_other words at (answered_word pages k) word 0 (off.numbers k within))
    old

-- a store of the count leaves all words standing
pub count_leaves_words : CountLeavesWords
count_leaves_words pages harts words S word stand =
    let off = apart pages harts CountWord tt tt in
    let at = count_word pages harts in
    let words' : List ℕ = set words at word in
    let kept : (place : ℕ) → place ≢ at → get_or words' place 0 ≡ get_or words place 0 = λ place ne. get_or-set_other words at place word 0 ne in
    record {
      stands = record {
        size = length-set words at word ∙ stand.stands.size;
        owners = others_leave_owners pages harts words S CountWord word tt tt stand.stands.owners;
        tables = λ p i within small e. kept (table_word pages p i) (let ne : table_word pages p i ≢ at = omega arith in ne) ∙ stand.stands.tables p i within small e;
        unused = kept (tvm_word pages harts 0) (let ne : tvm_word pages harts 0 ≢ at = omega arith in ne) ∙ stand.stands.unused;
        seats = λ k within.
            let ne : hart_word pages harts k ≢ at = omega arith in
            seat_moves pages harts words words' (get_or words (hart_word pages harts k) 0) (get_or words' (hart_word pages harts k) 0) (S.seats k)
            (λ t low high. let apart_t : tvm_word pages harts t ≢ at = omega arith in kept (tvm_word pages harts t) apart_t)
            (kept (hart_word pages harts k) ne) (stand.stands.seats k within);
      };
      within = λ k within.
          let number : answered_in pages words' k ≡ answered_in pages words k = kept (answered_word pages k) (off.numbers k within) in
          let epoch : epoch_in pages words' ≡ epoch_in pages words = kept (epoch_word pages) off.epoch in
          let was : answered_in pages words k ≤ epoch_in pages words = stand.within k within in
          omega arith;
    }
