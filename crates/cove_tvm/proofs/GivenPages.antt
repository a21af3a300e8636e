-- Page words that give a page to a TVM, and runs of pages that are given.
use Rattle.std.proofs.Common.{◌≡◌, ◌≢◌, ℕ, ◌+◌, ◌*◌, ◌/◌, ◌%◌, ◌^◌, ◌<◌, ◌≤◌, ◌⊎◌, ◌∙◌, Bool, true, false, cond, eqb, eqb-true, ltb, List, get_or, length, Option, Some, None, refl, sym, ap, subst, inl, inr, arith}
use Rattle.std.proofs.lemmas.Bool.{false≢true}
use Rattle.std.proofs.lemmas.Option.{none-some}
use Rattle.cove_base.proofs.StoreLemmas.{get_or-fills, get_or-fills_other, length-stored}
use Rattle.cove_model.specs.Machine.{given, hart_word, table_word, tvm_word, fills, stored, ENTRY_LIMIT, TVM_LIMIT, Role, Root, Table, IsTableOf, IsOrderly, numbers_of, Converting, Free, Given, Host, Owner, Purpose, has, page_at, IsSeated, Seat, State, find_tvm, FencesWithin, PageStands, SeatStands, answered_in, epoch_in, maps_of, role_of}
use Rattle.cove_model.proofs.Distinct.{none_has}
use Rattle.cove_model.proofs.LeafWords.{given_host, given_number}
use Rattle.cove_model.proofs.Runs.{run_cases}
use Rattle.cove_model.specs.Tvms.{Tvm as ModelTvm}
use Rattle.cove_tvm.proofs.LiveTvms.{none_past}
use Rattle.cove_tvm.specs.Entered.{is_entered_below}
use Rattle.cove_tvm.specs.Leaves.{LeavesTvm}
use Rattle.cove_tvm.specs.Stands.{Stands}
use Rattle.cove_tvm.specs.TvmStands.{TvmStands}
use Rattle.cove_tvm.specs.declared.ground.Ground.{Ground}

-- a word that gives a page to a TVM stands for an owner that does
pub given_owner : (harts epoch : ℕ) (answered : ℕ → ℕ) (maps word t : ℕ) (role : Role) (o : Owner) → PageStands harts epoch answered maps word o → word ≡ given t role → (purpose : Purpose) × (o ≡ Given t purpose)
given_owner harts epoch answered maps word t role (Host words) stands is = absurd (given_host t maps role (sym is ∙ stands))
given_owner harts epoch answered maps word t role (Converting held waiting words) stands is =
    absurd (let e : word ≡ 8 * stands.since + 1 = stands.is in omega arith)
given_owner harts epoch answered maps word t role Free (inl e) is = absurd (omega arith)
given_owner harts epoch answered maps word t role Free (inr e) is = absurd (let w : word ≡ 8 * e.0 + 1 = e.1 in omega arith)
given_owner harts epoch answered maps word t role (Given u purpose) stands is =
    (purpose, ap (λ k. Given k purpose) (given_number u t (role_of purpose) role (sym stands.2 ∙ is)))

-- a run of pages that are not a TVM's changes, and they do not become it
pub others_leave : (pages harts t : ℕ) (words new : List ℕ) (first n : ℕ) → t ≤ TVM_LIMIT → first + n ≤ pages → length new ≡ length words
    → ((place : ℕ) → (place < first) ⊎ (first + n ≤ place) → get_or new place 0 ≡ get_or words place 0)
    → ((p : ℕ) (role : Role) → first ≤ p → p < first + n → get_or words p 0 ≢ given t role)
    → ((p : ℕ) (role : Role) → first ≤ p → p < first + n → get_or new p 0 ≢ given t role)
    → LeavesTvm pages harts words new t
others_leave pages harts t words new first n few inside size others before after = record {
  size = size;
  page = λ p role on. elim (run_cases first n p) [
    | inl run ↦ (λ gives. absurd (after p role run.0 run.1 gives), λ gives. absurd (before p role run.0 run.1 gives))
    | inr out ↦ (λ gives. sym (others p out) ∙ gives, λ gives. others p out ∙ gives)
  ];
  table = λ p i on low own. others (table_word pages p i) (inr (omega arith));
  number = others (tvm_word pages harts t) (inr (omega arith));
  inside = λ number hart on.
      ap (λ w. cond (eqb (w / 2 ^ 32) t) (ltb (w % 2 ^ 32) number) false) (others (hart_word pages harts hart) (inr (omega arith)));
}

-- they are filled with a word that doesn't give them to it
pub run_leaves : (pages harts t : ℕ) (words : List ℕ) (first n word : ℕ) → t ≤ TVM_LIMIT → first + n ≤ pages → 513 * pages ≤ length words
    → ((p : ℕ) (role : Role) → first ≤ p → p < first + n → get_or words p 0 ≢ given t role)
    → ((role : Role) → word ≢ given t role)
    → LeavesTvm pages harts words (stored words (fills first n word)) t
run_leaves pages harts t words first n word few inside size before after =
    others_leave pages harts t words (stored words (fills first n word)) first n few inside (length-stored words (fills first n word))
    (λ place out. get_or-fills_other words first n word place out) before
    (λ p role low high is. after role (sym (get_or-fills words first n word p low high (omega arith)) ∙ is))

-- words that leave a TVM, and then words that leave it
pub leaves_twice : (pages harts t : ℕ) (old mid new : List ℕ) → LeavesTvm pages harts old mid t → LeavesTvm pages harts mid new t → LeavesTvm pages harts old new t
leaves_twice pages harts t old mid new one two = record {
  size = two.size ∙ one.size;
  page = λ p role on. (λ gives. (one.page p role on).0 ((two.page p role on).0 gives), λ gives. (two.page p role on).1 ((one.page p role on).1 gives));
  table = λ p i on low own. two.table p i on low (between p on own) ∙ one.table p i on low own;
  number = two.number ∙ one.number;
  inside = λ number hart on. two.inside number hart on ∙ one.inside number hart on;
} where
  between : (p : ℕ) → p < pages → IsTableOf old t p → IsTableOf mid t p
  between p on (inl root) = inl ((one.page p Root on).1 root)
  between p on (inr table) = inr ((one.page p Table on).1 table)

-- ---- numbers past those that were created

module _ (words : List ℕ) (ground : Ground) (S : State) (t : ℕ) (stands : Stands words ground S) (new : S.made < t) where
  -- no TVM of the state has the number
  pub not_found : find_tvm S t ≡ None
  not_found =
      let made = stands.board.made in
      go (find_tvm S t) refl
      (subst (λ live. TvmStands ground.pages ground.harts words t S.seats ground.files live (find_tvm S t))
      (none_past ground.tvms t (omega arith)) (stands.tvm t))
    where
      go : (v : Option ModelTvm) → find_tvm S t ≡ v → TvmStands ground.pages ground.harts words t S.seats ground.files None v → find_tvm S t ≡ None
      go None is stand = is
      go (Some v) is stand = absurd stand

  -- no page is given to it
  pub not_given : IsOrderly S → (p : ℕ) (role : Role) → p < ground.pages → get_or words p 0 ≢ given t role
  not_given orderly p role on is =
      let owner = given_owner ground.harts (epoch_in ground.pages words) (answered_in ground.pages words) (maps_of S p) (get_or words p 0) t role (page_at S.pages p) (stands.words_stand.stands.owners.page p on) is in
      let lives : has t (numbers_of S) ≡ true = orderly.given p t owner.0 owner.1 in
      let none : has t (numbers_of S) ≡ false = none_has (λ tvm. tvm.number) t S.tvms not_found in
      false≢true (sym none ∙ lives)

  -- no hart is inside it
  pub not_entered : IsSeated S → FencesWithin ground.pages ground.harts words ENTRY_LIMIT → (hart : ℕ) → hart < ground.harts
      → get_or words (hart_word ground.pages ground.harts hart) 0 / 2 ^ 32 ≢ t
  not_entered seated fences hart on = go (S.seats hart) refl (stands.words_stand.stands.seats hart on)
    where
      go : (seat : Option Seat) → S.seats hart ≡ seat
          → SeatStands ground.pages ground.harts words (get_or words (hart_word ground.pages ground.harts hart) 0) seat
          → get_or words (hart_word ground.pages ground.harts hart) 0 / 2 ^ 32 ≢ t
      go None out stand e = omega arith
      go (Some seat) sits stand e =
          let few = fences.numbers seat.tvm stand.low stand.high in
          let begun = stand.begun in
          let word = stand.is in
          let same : seat.tvm ≡ t = omega arith in
          let there = seated.on hart seat (subst (λ n. hart < n) (sym stands.words_stand.stands.owners.hart_count) on) sits in
          none-some there.tvm (sym (subst (λ k. find_tvm S k ≡ None) (sym same) not_found) ∙ there.live)

  pub none_entered : IsSeated S → FencesWithin ground.pages ground.harts words ENTRY_LIMIT → (number hart : ℕ) → hart < ground.harts
      → is_entered_below ground.pages ground.harts words t number hart ≡ false
  none_entered seated fences number hart on = go (eqb (get_or words (hart_word ground.pages ground.harts hart) 0 / 2 ^ 32) t) refl
    where
      go : (b : Bool) → eqb (get_or words (hart_word ground.pages ground.harts hart) 0 / 2 ^ 32) t ≡ b
          → is_entered_below ground.pages ground.harts words t number hart ≡ false
      go true e = absurd (not_entered seated fences hart on (eqb-true (get_or words (hart_word ground.pages ground.harts hart) 0 / 2 ^ 32) t e))
      go false e = ap (λ b. cond b (ltb (get_or words (hart_word ground.pages ground.harts hart) 0 % 2 ^ 32) number) false) e
