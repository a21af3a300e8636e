-- Turns one after another, and rounds of them.
use Rattle.std.proofs.Common.{◌≡◌, ◌≢◌, ℕ, zero, suc, ◌+◌, ◌-◌, ◌<◌, ◌≤◌, ◌⊎◌, Bool, true, false, List, [], ◌∷◌, ◌++◌, Option, None, Some, IfSome, inl, inr, fold, get_or, is_some, length, set, slice_get, refl, sym, subst, ap, ◌∙◌, arith, below_more}
use Rattle.std.specs.List.{AllByRecursion, range_with_len}
use Rattle.std.proofs.lemmas.Bool.{cases_eq, false≢true}
use Rattle.std.proofs.lemmas.List.{length-set}
use Rattle.cove_model.specs.Machine.{ScriptValue, ENTRY_LIMIT, Play, Unwalked, enough, round, rounds, turn, unplayed, harts_below}
use Rattle.cove_core.specs.Kept.{IsKept}
use Rattle.cove_core.specs.Plays.{AreReady, AreRounds, Changes, GoesOn, IsAt, HartFits, IsTurn, IsTurned, Stays, named_play, note_of}
use Rattle.cove_core.specs.declared.monitors.Mon.{Mon}
use Rattle.cove_hart.specs.HartStates.{hart_value}
use Rattle.cove_hart.specs.declared.states.HartState.{HartState}
use Rattle.cove_model.proofs.Playing.{rounds_stay}
use Rattle.cove_model.proofs.Progress.{notes_le, rounds_size, turn_work, turns_size, turns_work, work}
use Rattle.cove_model.proofs.Sums.{harts_are_below}
use Rattle.cove_model.specs.Played.{played}

-- ---- a list with one item changed

pub get_set_same : {X : Type 0} (xs : List X) (k : ℕ) (x : X) → k < length xs → slice_get (set xs k x) k ≡ Some x
get_set_same [] k x lt = absurd (omega arith)
get_set_same (y ∷ ys) zero x lt = refl
get_set_same (y ∷ ys) (suc k) x lt = get_set_same ys k x (omega arith)

pub get_set_other : {X : Type 0} (xs : List X) (k j : ℕ) (x : X) → (j ≡ k → ⊥) → slice_get (set xs k x) j ≡ slice_get xs j
get_set_other [] k j x ne = refl
get_set_other (y ∷ ys) zero zero x ne = absurd (ne refl)
get_set_other (y ∷ ys) zero (suc j) x ne = refl
get_set_other (y ∷ ys) (suc k) zero x ne = refl
get_set_other (y ∷ ys) (suc k) (suc j) x ne = get_set_other ys k j x (λ e. ne (ap suc e))

-- ---- a turn of one hart among all

module _ (script : ScriptValue) (words now : List ℕ) (old new : Mon) (harts : List HartState) (k : ℕ) (held left : HartState) (changed : Bool) (ready : AreReady script words old harts) (below : k < script.harts) (at : slice_get harts k ≡ Some held) (turned : IsTurned script old.history new.history (hart_value held) (hart_value left) changed) where
  seat : HartFits script old.history k held
  seat = subst (λ o. IfSome o (HartFits script old.history k)) at (ready.seated k below)

  others_seated : (j : ℕ) → (j ≡ k → ⊥) → (o : Option HartState) → IfSome o (HartFits script old.history j) → IfSome o (HartFits script new.history j)
  others_seated j ne None is = is
  others_seated j ne (Some hart) is = record {
    is = is.is;
    fits = turned.others (hart_value hart) (λ e. ne (sym is.is ∙ e ∙ seat.is)) is.fits;
  }

  seated_now : (j : ℕ) → j < script.harts → (j ≡ k) ⊎ (j ≡ k → ⊥) → IfSome (slice_get (set harts k left) j) (HartFits script new.history j)
  seated_now j lt (inl e) =
      let size = ready.count in
      subst (λ i. IfSome (slice_get (set harts k left) i) (HartFits script new.history i)) (sym e)
      (subst (λ o. IfSome o (HartFits script new.history k)) (sym (get_set_same harts k left (omega arith)))
      (record { is = turned.same_hart ∙ seat.is; fits = turned.fits }))
  seated_now j lt (inr ne) =
      subst (λ o. IfSome o (HartFits script new.history j)) (sym (get_set_other harts k j left ne))
      (others_seated j ne (slice_get harts j) (ready.seated j lt))

  pub ready_now : IsKept script now new → AreReady script now new (set harts k left)
  ready_now kept = record {
    kept = kept;
    count = length-set harts k left ∙ ready.count;
    seated = λ j lt. seated_now j lt (cases_eq j k);
  }

  turn_now : (play : Play) → IsAt old harts play → IsTurn script play k new.history left.walked
  turn_now play is =
      let mine : play.notes k ≡ note_of held.walked = subst (λ o. IfSome o (λ hart. play.notes k ≡ note_of hart.walked)) at (is.notes k) in
      subst (λ h. IsTurn script play h new.history left.walked) seat.is
      (turned.takes play is.history (ap play.notes seat.is ∙ mine))

  others_noted : (play : Play) → IsTurn script play k new.history left.walked → (j : ℕ) → (j ≡ k → ⊥) → (o : Option HartState) → IfSome o (λ hart. play.notes j ≡ note_of hart.walked) → IfSome o (λ hart. (turn ENTRY_LIMIT script play k).notes j ≡ note_of hart.walked)
  others_noted play is j ne None note = note
  others_noted play is j ne (Some hart) note = is.others j ne ∙ note

  noted_now : (play : Play) → IsAt old harts play → IsTurn script play k new.history left.walked → (j : ℕ) → (j ≡ k) ⊎ (j ≡ k → ⊥) → IfSome (slice_get (set harts k left) j) (λ hart. (turn ENTRY_LIMIT script play k).notes j ≡ note_of hart.walked)
  noted_now play here is j (inl e) =
      let size = ready.count in
      subst (λ i. IfSome (slice_get (set harts k left) i) (λ hart. (turn ENTRY_LIMIT script play k).notes i ≡ note_of hart.walked)) (sym e)
      (subst (λ o. IfSome o (λ hart. (turn ENTRY_LIMIT script play k).notes k ≡ note_of hart.walked)) (sym (get_set_same harts k left (omega arith))) is.own)
  noted_now play here is j (inr ne) =
      subst (λ o. IfSome o (λ hart. (turn ENTRY_LIMIT script play k).notes j ≡ note_of hart.walked)) (sym (get_set_other harts k j left ne))
      (others_noted play is j ne (slice_get harts j) (here.notes j))

  pub turn_goes_on : GoesOn old new harts (set harts k left) (λ play. turn ENTRY_LIMIT script play k)
  turn_goes_on play here =
      let is = turn_now play here in
      record { history = is.history_is; notes = λ j. noted_now play here is j (cases_eq j k) }

  pub turn_stays : changed ≡ false → Stays old harts (λ play. turn ENTRY_LIMIT script play k)
  turn_stays unchanged play here = subst (λ h. turn ENTRY_LIMIT script play h ≡ play) seat.is (turned.still unchanged play here.history)

  pub turn_changes : changed ≡ true → Changes old harts (λ play. turn ENTRY_LIMIT script play k)
  turn_changes moves play here =
      let mine : play.notes k ≡ note_of held.walked = subst (λ o. IfSome o (λ hart. play.notes k ≡ note_of hart.walked)) at (here.notes k) in
      subst (λ h. turn ENTRY_LIMIT script play h ≢ play) seat.is (turned.moved moves play here.history (ap play.notes seat.is ∙ mine))

  -- all that a turn leaves
  pub record Taken (stored : List ℕ) (seats : List HartState) : Type 0 where
    pub seated : AreReady script stored new seats
    pub goes : GoesOn old new harts seats (λ play. turn ENTRY_LIMIT script play k)
    pub stays : changed ≡ false → Stays old harts (λ play. turn ENTRY_LIMIT script play k)
    pub changes : changed ≡ true → Changes old harts (λ play. turn ENTRY_LIMIT script play k)

  pub turn_taken : IsKept script now new → Taken now (set harts k left)
  turn_taken kept = record { seated = ready_now kept; goes = turn_goes_on; stays = turn_stays; changes = turn_changes }

-- ---- turns one after another

fold_end : {X Y : Type 0} (f : Y → X → Y) (y : Y) (xs : List X) (x : X) → fold f y (xs ++ x ∷ []) ≡ f (fold f y xs) x
fold_end f y [] x = refl
fold_end f y (z ∷ zs) x = fold_end f (f y z) zs x

range_end : (a n m : ℕ) → a + n ≡ m → range_with_len a (n + 1) ≡ range_with_len a n ++ m ∷ []
range_end a n m is = by_length n m is
  where
    suc_of : (n : ℕ) → n + 1 ≡ suc n
    suc_of n = omega arith

    go : (a n m : ℕ) → a + n ≡ m → range_with_len a (suc n) ≡ range_with_len a n ++ m ∷ []
    go a zero m is = let same : a ≡ m = omega arith in ap (λ k. k ∷ []) same
    go a (suc n) m is = ap (λ xs. a ∷ xs) (go (a + 1) n m (omega arith))

    by_length : (n m : ℕ) → a + n ≡ m → range_with_len a (n + 1) ≡ range_with_len a n ++ m ∷ []
    by_length n m is = ap (range_with_len a) (suc_of n) ∙ go a n m is

-- one more turn, after turns of a list
pub one_more : (script : ScriptValue) (start old new : Mon) (first before now : List HartState) (hs more : List ℕ) (k : ℕ) → more ≡ hs ++ k ∷ [] → GoesOn start old first before (λ play. fold (turn ENTRY_LIMIT script) play hs) → GoesOn old new before now (λ play. turn ENTRY_LIMIT script play k) → GoesOn start new first now (λ play. fold (turn ENTRY_LIMIT script) play more)
one_more script start old new first before now hs more k is went goes play here =
    subst (IsAt new now) (sym (ap (fold (turn ENTRY_LIMIT script) play) is ∙ fold_end (turn ENTRY_LIMIT script) play hs k))
    (goes (fold (turn ENTRY_LIMIT script) play hs) (went play here))

pub one_more_stays : (script : ScriptValue) (start old : Mon) (first before : List HartState) (hs more : List ℕ) (k : ℕ) → more ≡ hs ++ k ∷ [] → GoesOn start old first before (λ play. fold (turn ENTRY_LIMIT script) play hs) → Stays start first (λ play. fold (turn ENTRY_LIMIT script) play hs) → Stays old before (λ play. turn ENTRY_LIMIT script play k) → Stays start first (λ play. fold (turn ENTRY_LIMIT script) play more)
one_more_stays script start old first before hs more k is went stays stay play here =
    ap (fold (turn ENTRY_LIMIT script) play) is ∙ fold_end (turn ENTRY_LIMIT script) play hs k
    ∙ stay (fold (turn ENTRY_LIMIT script) play hs) (went play here) ∙ stays play here

pub harts_more : (k : ℕ) → harts_below (k + 1) ≡ harts_below k ++ k ∷ []
harts_more k = range_end 0 k k (omega arith)

-- turns that were made are work, if one of them changed anything
abbrev pub IsWork : (script : ScriptValue) → Mon → List HartState → (changed : Bool) (hs : List ℕ) → Type 0
IsWork script mon harts changed hs =
    changed ≡ true → (play : Play) → IsAt mon harts play → work script play < work script (fold (turn ENTRY_LIMIT script) play hs)

module _ (script : ScriptValue) (start old : Mon) (first before : List HartState) (hs more : List ℕ) (k : ℕ) (below : k < script.harts) (is : more ≡ hs ++ k ∷ []) (went : GoesOn start old first before (λ play. fold (turn ENTRY_LIMIT script) play hs)) where
  next_turn : (play : Play) → fold (turn ENTRY_LIMIT script) play more ≡ turn ENTRY_LIMIT script (fold (turn ENTRY_LIMIT script) play hs) k
  next_turn play = ap (fold (turn ENTRY_LIMIT script) play) is ∙ fold_end (turn ENTRY_LIMIT script) play hs k

  -- a turn after turns that changed something
  pub still_work : IsWork script start first true hs → IsWork script start first true more
  still_work worked moves play here =
      let so_far = worked refl play here in
      let last = fold (turn ENTRY_LIMIT script) play hs in
      subst (λ p. work script play < work script p) (sym (next_turn play))
      (elim (turn_work ENTRY_LIMIT script last k below) [
        | inl same ↦ subst (λ p. work script play < work script p) (sym same) so_far
        | inr grows ↦ omega (arith, so_far, grows)
      ])

  -- a turn that changes something, after turns that may have changed something or not
  pub now_work : (changed : Bool) → (changed ≡ false → Stays start first (λ play. fold (turn ENTRY_LIMIT script) play hs)) → IsWork script start first changed hs → Changes old before (λ play. turn ENTRY_LIMIT script play k) → IsWork script start first true more
  now_work changed stays worked changes moves play here =
      let last = fold (turn ENTRY_LIMIT script) play hs in
      subst (λ p. work script play < work script p) (sym (next_turn play))
      (elim (turn_work ENTRY_LIMIT script last k below) [
        | inl same ↦ absurd (changes last (went play here) same)
        | inr grows ↦ let so_far = no_less changed stays worked play here in omega (arith, so_far, grows)
      ])
    where
      no_less : (changed' : Bool) → (changed' ≡ false → Stays start first (λ play'. fold (turn ENTRY_LIMIT script) play' hs)) → IsWork script start first changed' hs → (play' : Play) → IsAt start first play' → work script play' ≤ work script (fold (turn ENTRY_LIMIT script) play' hs)
      no_less true stays' worked' play' here' = let so_far = worked' refl play' here' in omega (arith, so_far)
      no_less false stays' worked' play' here' = let same = ap (work script) (stays' refl play' here') in omega (arith, same)

-- a round of work changes something
pub work_changes : (script : ScriptValue) (mon : Mon) (harts : List HartState) (changed : Bool) (k : ℕ) → k ≡ script.harts → IsWork script mon harts changed (harts_below k) → changed ≡ true → Changes mon harts (round ENTRY_LIMIT script)
work_changes script mon harts changed k all worked moves play here same =
    let more = worked moves play here in
    let e = ap (work script) (ap (λ n. fold (turn ENTRY_LIMIT script) play (harts_below n)) all ∙ same) in
    omega arith

-- ---- rounds

rounds_next : (script : ScriptValue) (n m : ℕ) (play : Play) → m ≡ n + 1 → rounds ENTRY_LIMIT script m play ≡ round ENTRY_LIMIT script (rounds ENTRY_LIMIT script n play)
rounds_next script zero m play is = ap (λ k. rounds ENTRY_LIMIT script k play) is
rounds_next script (suc n) m play is =
    let longer : m ≡ suc (n + 1) = omega arith in
    ap (λ k. rounds ENTRY_LIMIT script k play) longer ∙ rounds_next script n (n + 1) (round ENTRY_LIMIT script play) refl

rounds_more : (script : ScriptValue) (n k m : ℕ) (play : Play) → m ≡ n + k → rounds ENTRY_LIMIT script m play ≡ rounds ENTRY_LIMIT script k (rounds ENTRY_LIMIT script n play)
rounds_more script zero k m play is = let same : m ≡ k = omega arith in ap (λ j. rounds ENTRY_LIMIT script j play) same
rounds_more script (suc n) k m play is =
    let longer : m ≡ suc (n + k) = omega arith in
    ap (λ j. rounds ENTRY_LIMIT script j play) longer ∙ rounds_more script n k (n + k) (round ENTRY_LIMIT script play) refl

-- each of the first n rounds changes a play
abbrev pub AreChanging : ScriptValue → Play → (n : ℕ) → Type 0
AreChanging script play n =
    (k : ℕ) → k < n → round ENTRY_LIMIT script (rounds ENTRY_LIMIT script k play) ≢ rounds ENTRY_LIMIT script k play

-- so many rounds were made, and each of them changed something
pub record AreMade (script : ScriptValue) (start now : Mon) (first harts : List HartState) (n : ℕ) : Type 0 where
  pub goes : GoesOn start now first harts (rounds ENTRY_LIMIT script n)
  pub changing : (play : Play) → IsAt start first play → AreChanging script play n

pub none_made : (script : ScriptValue) (mon : Mon) (harts : List HartState) → AreMade script mon mon harts harts 0
none_made script mon harts = record { goes = λ play here. here; changing = λ play here k lt. absurd (omega arith) }

module _ (script : ScriptValue) (start old new : Mon) (first before now : List HartState) (n : ℕ) (made : AreMade script start old first before n) (goes : GoesOn old new before now (round ENTRY_LIMIT script)) where
  -- a round that changes something
  pub one_more_made : Changes old before (round ENTRY_LIMIT script) → AreMade script start new first now (n + 1)
  one_more_made changes = record {
    goes = λ play here. subst (IsAt new now) (sym (rounds_next script n (n + 1) play refl)) (goes (rounds ENTRY_LIMIT script n play) (made.goes play here));
    changing = λ play here. below_more (λ k. round ENTRY_LIMIT script (rounds ENTRY_LIMIT script k play) ≢ rounds ENTRY_LIMIT script k play) n
        (made.changing play here) (changes (rounds ENTRY_LIMIT script n play) (made.goes play here));
  }

  -- a round that changes nothing leads to the end
  module _ (stays : Stays old before (round ENTRY_LIMIT script)) where
    pub still_goes : n ≤ enough ENTRY_LIMIT script → GoesOn start new first now (rounds ENTRY_LIMIT script (enough ENTRY_LIMIT script))
    still_goes few play here =
        let last = rounds ENTRY_LIMIT script n play in
        let still = stays last (made.goes play here) in
        let rest = enough ENTRY_LIMIT script - n in
        subst (IsAt new now)
        (still ∙ sym (rounds_more script n rest (enough ENTRY_LIMIT script) play (omega arith) ∙ rounds_stay ENTRY_LIMIT script rest last still))
        (goes last (made.goes play here))

    pub still_rounds : (count : ℕ) → count ≡ n + 1 → (play : Play) → IsAt start first play → AreRounds script play count
    still_rounds count is play here = record {
      before = n;
      count = is;
      changing = made.changing play here;
      still = stays (rounds ENTRY_LIMIT script n play) (made.goes play here);
    }

-- changing rounds are work
rounds_work : (script : ScriptValue) (play : Play) (n : ℕ) → AreChanging script play n → work script play + n ≤ work script (rounds ENTRY_LIMIT script n play)
rounds_work script play zero changing = omega arith
rounds_work script play (suc n) changing =
    let so_far = rounds_work script play n (λ k lt. changing k (omega arith)) in
    let last = rounds ENTRY_LIMIT script n play in
    subst (λ p. work script play + suc n ≤ work script p) (sym (rounds_next script n (suc n) play (omega arith)))
    (elim (turns_work ENTRY_LIMIT script (harts_below script.harts) last (harts_are_below script.harts)) [
      | inl same ↦ absurd (changing n (omega arith) same.1)
      | inr grows ↦ omega (arith, so_far, grows)
    ])

-- so many rounds are never made of which each changes something
pub never_so_many : (script : ScriptValue) (start now : Mon) (first harts : List HartState) → length start.history ≤ ENTRY_LIMIT → AreMade script start now first harts (enough ENTRY_LIMIT script) → (play : Play) → IsAt start first play → ⊥
unfolding work
never_so_many script start now first harts few made play here =
    let n = enough ENTRY_LIMIT script in
    let size = ap length here.history in
    let entries = rounds_size ENTRY_LIMIT script n play (omega arith) in
    let notes = notes_le (rounds ENTRY_LIMIT script n play).notes script.harts in
    let many = rounds_work script play n (made.changing play here) in
    omega arith

-- ---- the whole play

unwalked_note : (o : Option HartState) → IfSome o (λ hart. hart.walked ≡ None) → IfSome o (λ hart. Unwalked ≡ note_of hart.walked)
unwalked_note None is = is
unwalked_note (Some hart) is = sym (ap note_of is)

-- the play of a monitor and its harts before any turn
unplayed_at : (start : Mon) (first : List HartState) → start.history ≡ [] → ((k : ℕ) → IfSome (slice_get first k) (λ hart. hart.walked ≡ None)) → IsAt start first unplayed
unplayed_at start first empty unwalked = record { history = sym empty; notes = λ k. unwalked_note (slice_get first k) (unwalked k) }

pub plays_all : (script : ScriptValue) (start named end : Mon) (first second last : List HartState) → start.history ≡ [] → ((k : ℕ) → IfSome (slice_get first k) (λ hart. hart.walked ≡ None)) → GoesOn start named first second (λ play. fold (turn ENTRY_LIMIT script) play script.turns) → GoesOn named end second last (rounds ENTRY_LIMIT script (enough ENTRY_LIMIT script)) → end.history ≡ played ENTRY_LIMIT script
unfolding played
plays_all script start named end first second last empty unwalked turns goes =
    sym (goes (named_play script) (turns unplayed (unplayed_at start first empty unwalked))).history

-- after the turns that the script names, a history has no more entries than it may have
module _ (script : ScriptValue) (start named : Mon) (first second : List HartState) (empty : start.history ≡ []) (unwalked : (k : ℕ) → IfSome (slice_get first k) (λ hart. hart.walked ≡ None)) (turns : GoesOn start named first second (λ play. fold (turn ENTRY_LIMIT script) play script.turns)) where
  pub named_at : IsAt named second (named_play script)
  named_at = turns unplayed (unplayed_at start first empty unwalked)

  pub named_size : length named.history ≤ ENTRY_LIMIT
  named_size =
      let size = ap length named_at.history in
      let few = turns_size ENTRY_LIMIT script script.turns unplayed (omega arith) in
      omega arith

-- a turn that the script names is one of a hart of the board
pub turn_within : (n : ℕ) (hs : List ℕ) (i : ℕ) → AllByRecursion (λ h. h < n) hs → i < length hs → get_or hs i 0 < n
turn_within n [] i all lt = absurd (omega arith)
turn_within n (h ∷ hs) zero all lt = all.0
turn_within n (h ∷ hs) (suc i) all lt = turn_within n hs i all.1 (omega arith)

pub is_nothing : {X : Type 0} (o : Option X) → is_some o ≡ false → o ≡ None
is_nothing None e = refl
is_nothing (Some x) e = absurd (false≢true (sym e))

pub some_is_none : {X : Type 0} (o : Option X) → is_some o ≡ true → o ≡ None → ⊥
some_is_none o some none = false≢true (sym (ap (λ p. is_some p) none) ∙ some)
