-- Turns get on: every script is played to its end, or to the limit.
use Rattle.std.proofs.Common.{◌≡◌, ◌≢◌, ℕ, zero, suc, ◌+◌, ◌*◌, ◌<◌, ◌≤◌, Bool, true, false, cond, nat_lt, ltb-true, lt-ltb, fold, length, List, [], ◌∷◌, Option, Some, None, refl, sym, ap, subst, ◌∙◌, inl, inr, ◌⊎◌, ⊎_elim, arith}
use Rattle.std.specs.List.{AllByRecursion, range_with_len}
use Rattle.std.proofs.lemmas.Bool.{cases_eq, cases_lt, cond-true, cond_both}
use Rattle.std.proofs.lemmas.List.{length_push}
use Rattle.cove_model.specs.Machine.{next_line, ScriptValue, Event, How, Line, ScriptLine, Target, has, harts_below, Seat, State, ended_by, guests_in, Deed, Tires, Fetches, Executes, Loads, Stores, Asks, Waits, Traps, deed_of, after, Offer, Nothing, Behind, Single, Touch, access_target, cpu_of, deed_offer, fault_exit, fetch_target, first_behind, guest_touch, is_behind, is_earlier, is_found, kicked_offer, line_offer, offer, outside_offer, sought, unkicked_offer, unless_behind, IsEnded, Note, Unwalked, WalkFound, WalkMissed, Play, ended_event, ending, enough, entered, entry_by, entry_turn, noted, round, rounds, sought_turn, turn, unplayed, walked, walks_first, holds_target, tlb}
use Rattle.cove_base.specs.declared.scripts.Line.TheVariants as lines
use Rattle.cove_model.proofs.Members.{below_has, false-true}
use Rattle.cove_model.proofs.Sums.{find_some, harts_are_below, sum_below, sum_changed}
use Rattle.cove_model.proofs.Playing.{noted_other, noted_same, rounds_stay, turn_full}
use Rattle.cove_model.specs.Played.{played}

-- ---- the measure: entries count twice, and a walk that isn't used yet once

unfoldable pub weight : Note → ℕ
weight Unwalked = 0
weight WalkFound = 1
weight WalkMissed = 1

weight_le : (note : Note) → weight note ≤ 1
unfolding weight
weight_le Unwalked = omega arith
weight_le WalkFound = omega arith
weight_le WalkMissed = omega arith

unfoldable pub work : ScriptValue → Play → ℕ
work script play = 2 * length play.history + sum_below (λ k. weight (play.notes k)) script.harts

pub notes_le : (notes : ℕ → Note) (n : ℕ) → sum_below (λ k. weight (notes k)) n ≤ n
unfolding sum_below
notes_le notes zero = omega arith
notes_le notes (suc n) =
    let here = weight_le (notes n) in
    let rest = notes_le notes n in
    omega arith

notes_changed : (notes : ℕ → Note) (note : Note) (h n : ℕ) → h < n → sum_below (λ k. weight (noted h note notes k)) n + weight (notes h) ≡ sum_below (λ k. weight (notes k)) n + weight note
notes_changed notes note h n lt =
    sum_changed (λ k. weight (notes k)) (λ k. weight (noted h note notes k)) h n lt (λ k ne. ap weight (noted_other h k note notes ne))
    ∙ ap (λ x. sum_below (λ k. weight (notes k)) n + weight x) (noted_same h h note notes refl)

-- an entry is work
entered_work : (script : ScriptValue) (play : Play) (h : ℕ) (event : Event) → h < script.harts → work script play < work script (entered play h event)
unfolding work weight
entered_work script play h event lt =
    let size = length_push play.history (entry_by h event) in
    let notes = notes_changed play.notes Unwalked h script.harts lt in
    let here = weight_le (play.notes h) in
    omega arith

weight_found : (b : Bool) → weight (cond b WalkFound WalkMissed) ≡ 1
unfolding weight
weight_found true = refl
weight_found false = refl

-- a walk of a hart without a note is work
walked_work : (script : ScriptValue) (play : Play) (h : ℕ) (b : Bool) → h < script.harts → play.notes h ≡ Unwalked → work script play < work script (walked play h b)
unfolding work weight
walked_work script play h b lt none =
    let notes = notes_changed play.notes (cond b WalkFound WalkMissed) h script.harts lt in
    let here = ap weight none in
    let there = weight_found b in
    omega arith

-- ---- turns

-- a hart makes its event or access now
abbrev Moves : Offer → Type 0
Moves Nothing = ⊥
Moves (Behind other) = ⊥
Moves (Single event) = Unit {0}
Moves (Touch target success fault) = Unit {0}

moves_or : (o : Offer) → Moves o ⊎ (Moves o → ⊥)
moves_or Nothing = inr (λ m. m)
moves_or (Behind k) = inr (λ m. m)
moves_or (Single event) = inl tt
moves_or (Touch target success fault) = inl tt

module _ (script : ScriptValue) (play : Play) (h : ℕ) where
  abbrev S : State
  S = after script play.history

  entry_work : (o : Offer) → h < script.harts → Moves o → work script play < work script (entry_turn script play S h o)
  entry_work Nothing lt moves = absurd moves
  entry_work (Behind k) lt moves = absurd moves
  entry_work (Single event) lt moves = entered_work script play h event lt
  entry_work (Touch target success fault) lt moves =
      entered_work script play h (ended_event success fault (ending (holds_target (tlb script play.history h) target) (play.notes h) (is_found S h target))) lt

  entry_still : (o : Offer) → (Moves o → ⊥) → entry_turn script play S h o ≡ play
  entry_still Nothing not = refl
  entry_still (Behind k) not = refl
  entry_still (Single event) not = absurd (not tt)
  entry_still (Touch target success fault) not = absurd (not tt)

  first_unwalked : (holds : Bool) (note : Note) → walks_first holds note ≡ true → note ≡ Unwalked
  first_unwalked true note e = cc
  first_unwalked false Unwalked e = refl
  first_unwalked false WalkFound e = cc
  first_unwalked false WalkMissed e = cc

  -- a turn of a hart that can go on is work, and of one that cannot none, or a walk
  sought_work : (o : Offer) (t : Option Target) → h < script.harts → Moves o → work script play < work script (sought_turn script play S h o t)
  sought_work o None lt moves = entry_work o lt moves
  sought_work o (Some target) lt moves = cond_both (walks_first (holds_target (tlb script play.history h) target) (play.notes h)) (walked play h (is_found S h target)) (entry_turn script play S h o) (λ p. work script play < work script p)
      (λ first. walked_work script play h (is_found S h target) lt (first_unwalked (holds_target (tlb script play.history h) target) (play.notes h) first))
      (λ then. entry_work o lt moves)

  sought_either : (o : Offer) (t : Option Target) → h < script.harts → (sought_turn script play S h o t ≡ play) ⊎ (work script play < work script (sought_turn script play S h o t))
  sought_either o t lt = ⊎_elim (λ m. inr (sought_work o t lt m)) (λ not. go t not) (moves_or o)
    where
      go : (u : Option Target) → (Moves o → ⊥) → (sought_turn script play (after script play.history) h o u ≡ play) ⊎ (work script play < work script (sought_turn script play (after script play.history) h o u))
      go None not = inl (entry_still o not)
      go (Some target) not = cond_both (walks_first (holds_target (tlb script play.history h) target) (play.notes h)) (walked play h (is_found (after script play.history) h target)) (entry_turn script play (after script play.history) h o) (λ p. (p ≡ play) ⊎ (work script play < work script p))
          (λ first. inr (walked_work script play h (is_found (after script play.history) h target) lt (first_unwalked (holds_target (tlb script play.history h) target) (play.notes h) first)))
          (λ then. inl (entry_still o not))

turn_open : (limit : ℕ) (script : ScriptValue) (play : Play) (h : ℕ) → length play.history < limit
    → turn limit script play h ≡ sought_turn script play (after script play.history) h (offer script (after script play.history) h) (sought script (after script play.history) h)
turn_open limit script play h room = cond-true (nat_lt (length play.history) limit) _ play (lt-ltb (length play.history) limit room)

-- a turn changes nothing, or is work
pub turn_work : (limit : ℕ) (script : ScriptValue) (play : Play) (h : ℕ) → h < script.harts → (turn limit script play h ≡ play) ⊎ (work script play < work script (turn limit script play h))
turn_work limit script play h lt = go (cases_lt (length play.history) limit)
  where
    opened : Play
    opened = sought_turn script play (after script play.history) h (offer script (after script play.history) h) (sought script (after script play.history) h)

    moved : (p : Play) → turn limit script play h ≡ p → (p ≡ play) ⊎ (work script play < work script p) → (turn limit script play h ≡ play) ⊎ (work script play < work script (turn limit script play h))
    moved p e (inl q) = inl (e ∙ q)
    moved p e (inr more) = inr (subst (λ t. work script play < work script t) (sym e) more)

    go : (length play.history < limit) ⊎ (limit ≤ length play.history) → (turn limit script play h ≡ play) ⊎ (work script play < work script (turn limit script play h))
    go (inl room) = moved opened (turn_open limit script play h room) (sought_either script play h (offer script (after script play.history) h) (sought script (after script play.history) h) lt)
    go (inr full) = inl (turn_full limit script play h full)

-- turns one after another change nothing, each of them, or are work
pub turns_work : (limit : ℕ) (script : ScriptValue) (hs : List ℕ) (play : Play) → AllByRecursion (λ h. h < script.harts) hs → (AllByRecursion (λ h. turn limit script play h ≡ play) hs × (fold (turn limit script) play hs ≡ play)) ⊎ (work script play < work script (fold (turn limit script) play hs))
turns_work limit script [] play all = inl (tt, refl)
turns_work limit script (h ∷ hs) play all = go (turn_work limit script play h all.0) (turns_work limit script hs play all.1) (turns_work limit script hs (turn limit script play h) all.1)
  where
    next : Play
    next = turn limit script play h

    go : (next ≡ play) ⊎ (work script play < work script next)
        → (AllByRecursion (λ k. turn limit script play k ≡ play) hs × (fold (turn limit script) play hs ≡ play)) ⊎ (work script play < work script (fold (turn limit script) play hs))
        → (AllByRecursion (λ k. turn limit script next k ≡ next) hs × (fold (turn limit script) next hs ≡ next)) ⊎ (work script next < work script (fold (turn limit script) next hs))
        → (((turn limit script play h ≡ play) × AllByRecursion (λ k. turn limit script play k ≡ play) hs) × (fold (turn limit script) next hs ≡ play)) ⊎ (work script play < work script (fold (turn limit script) next hs))
    go (inl e) (inl same) after' = inl ((e, same.0), ap (λ p. fold (turn limit script) p hs) e ∙ same.1)
    go (inl e) (inr more) after' = inr (subst (λ p. work script play < work script (fold (turn limit script) p hs)) (sym e) more)
    go (inr more) before' (inl same) = inr (subst (λ p. work script play < work script p) (sym same.1) more)
    go (inr more) before' (inr more') = inr (omega arith)

-- ---- where no hart can go on, no line is left, and nobody is inside

pub earlier_line : (phase : ℕ) (o : Option ScriptLine) → is_earlier phase o ≡ true → (l : ScriptLine) × (o ≡ Some l) × (l.phase < phase)
earlier_line phase None e = false-true e
earlier_line phase (Some l) e = (l, refl, ltb-true l.phase phase e)

-- a hart inside can go on
touch_moves : (guests : ℕ) (target : Target) (success : How → Event) (cause addr : ℕ) → Moves (guest_touch guests target success cause addr)
touch_moves guests target success cause addr = go (nat_lt addr (4096 * guests))
  where
    go : (b : Bool) → Moves (cond b (Touch target success (fault_exit cause addr)) (Single (fault_exit cause addr)))
    go true = tt
    go false = tt

deed_moves : (S : State) (h : ℕ) (seat : Seat) (deed : Deed) → Moves (deed_offer S h seat deed)
deed_moves S h seat Tires = tt
deed_moves S h seat (Fetches addr) = touch_moves (guests_in S seat.tvm) (fetch_target addr) (λ how. Event.Fetch how) 20 addr
deed_moves S h seat (Executes rd value pc file) = tt
deed_moves S h seat (Loads addr size signed rd) = touch_moves (guests_in S seat.tvm) (access_target addr) (λ how. Event.Access how) 21 addr
deed_moves S h seat (Stores addr size value) = touch_moves (guests_in S seat.tvm) (access_target addr) (λ how. Event.Access how) 23 addr
deed_moves S h seat (Asks act) = tt
deed_moves S h seat Waits = tt
deed_moves S h seat (Traps cause) = tt

line_moves : (S : State) (h : ℕ) (line : Line) → Moves (line_offer S h line)
line_moves S h (lines.Call call) = tt
line_moves S h (lines.Load addr) = tt
line_moves S h (lines.Store addr value) = tt

module _ (script : ScriptValue) (S : State) (still : (h : ℕ) → h < script.harts → Moves (offer script S h) → ⊥) where
  -- so a hart that has a line of which no hart is behind is not outside
  moves_next : (h : ℕ) (l : ScriptLine) → next_line script h (ended_by S h) ≡ Some l → first_behind script S l.phase ≡ None → Moves (offer script S h)
  moves_next h l next first = go (S.seats h)
    where
      inside : (b : Bool) (seat : Seat) → Moves (kicked_offer b (Some seat) (deed_offer S h seat (deed_of (cpu_of S seat))))
      inside true seat = tt
      inside false seat = deed_moves S h seat (deed_of (cpu_of S seat))

      go : (o : Option Seat) → Moves (kicked_offer (has h S.kicked) o (unkicked_offer script S h o))
      go None = subst (λ (o : Option ScriptLine). Moves (outside_offer script S h o)) (sym next) (subst (λ (o : Option ℕ). Moves (unless_behind o (line_offer S h l.line))) (sym first) (line_moves S h l.line))
      go (Some seat) = inside (has h S.kicked) seat

  descend : (fuel h : ℕ) (l : ScriptLine) → h < script.harts → next_line script h (ended_by S h) ≡ Some l → l.phase < fuel → ⊥
  descend zero h l lt next small = omega arith
  descend (suc fuel) h l lt next small = go (first_behind script S l.phase) refl (λ k m lt' next' small'. descend fuel k m lt' next' small')
    where
      go : (o : Option ℕ) → first_behind script S l.phase ≡ o → ((k : ℕ) (m : ScriptLine) → k < script.harts → next_line script k (ended_by S k) ≡ Some m → m.phase < fuel → ⊥) → ⊥
      go None e more = still h lt (moves_next h l next e)
      go (Some k) e more =
          let f = find_some (is_behind script S l.phase) (harts_below script.harts) k e in
          let m = earlier_line l.phase (next_line script k (ended_by S k)) f.0 in
          let lower = m.2 in
          more k m.0 (below_has script.harts k f.1) m.1 (omega arith)

  none_left : (h : ℕ) → h < script.harts → (o : Option ScriptLine) → next_line script h (ended_by S h) ≡ o → o ≡ None
  none_left h lt None e = refl
  none_left h lt (Some l) e = absurd (descend (suc l.phase) h l lt e (omega arith))

  all_over : (h : ℕ) → h < script.harts → next_line script h (ended_by S h) ≡ None
  all_over h lt = none_left h lt (next_line script h (ended_by S h)) refl

at_all : (P : ℕ → Type 0) (n : ℕ) → AllByRecursion P (harts_below n) → (h : ℕ) → h < n → P h
at_all P n all h lt = from 0 n all h (omega arith) (omega arith)
  where
    from : (a m : ℕ) → AllByRecursion P (range_with_len a m) → (k : ℕ) → a ≤ k → k < a + m → P k
    from a zero rest k low high = absurd (omega arith)
    from a (suc m) rest k low high = ⊎_elim (λ e. subst P e rest.0) (λ ne. let ne' : a ≢ k = ne in from (a + 1) m rest.1 k (omega arith) (omega arith)) (cases_eq a k)

-- a round that changes nothing is the last one
pub last_round : (limit : ℕ) (script : ScriptValue) (play : Play) → round limit script play ≡ play → IsEnded limit script play.history
last_round limit script play same = ⊎_elim
    (λ room. inr (all_over script (after script play.history) (still room)))
    inl
    (cases_lt (length play.history) limit)
  where
    unchanged : (AllByRecursion (λ h. turn limit script play h ≡ play) (harts_below script.harts) × (round limit script play ≡ play)) ⊎ (work script play < work script (round limit script play)) → AllByRecursion (λ h. turn limit script play h ≡ play) (harts_below script.harts)
    unchanged (inl all) = all.0
    unchanged (inr more) = let e = ap (work script) same in absurd (omega arith)

    still : length play.history < limit → (h : ℕ) → h < script.harts → Moves (offer script (after script play.history) h) → ⊥
    still room h lt moves =
        let S = after script play.history in
        let stays = at_all (λ k. turn limit script play k ≡ play) script.harts (unchanged (turns_work limit script (harts_below script.harts) play (harts_are_below script.harts))) h lt in
        let w = ap (work script) (sym (turn_open limit script play h room) ∙ stays) in
        let more = sought_work script play h (offer script S h) (sought script S h) lt moves in
        omega arith

-- ---- the rounds are enough

turn_size : (limit : ℕ) (script : ScriptValue) (play : Play) (h : ℕ) → length play.history ≤ limit → length (turn limit script play h).history ≤ limit
turn_size limit script play h le = cond_both (nat_lt (length play.history) limit) (sought_turn script play (after script play.history) h (offer script (after script play.history) h) (sought script (after script play.history) h)) play (λ p. length p.history ≤ limit)
    (λ room. sought_size (offer script (after script play.history) h) (sought script (after script play.history) h) (ltb-true (length play.history) limit room))
    (λ full. le)
  where
    one : (event : Event) → length play.history < limit → length (entered play h event).history ≤ limit
    one event lt = let size = length_push play.history (entry_by h event) in omega arith

    entry_size : (o : Offer) → length play.history < limit → length (entry_turn script play (after script play.history) h o).history ≤ limit
    entry_size Nothing lt = le
    entry_size (Behind k) lt = le
    entry_size (Single event) lt = one event lt
    entry_size (Touch target success fault) lt = one (ended_event success fault (ending (holds_target (tlb script play.history h) target) (play.notes h) (is_found (after script play.history) h target))) lt

    sought_size : (o : Offer) (t : Option Target) → length play.history < limit → length (sought_turn script play (after script play.history) h o t).history ≤ limit
    sought_size o None lt = entry_size o lt
    sought_size o (Some target) lt = cond_both (walks_first (holds_target (tlb script play.history h) target) (play.notes h)) (walked play h (is_found (after script play.history) h target)) (entry_turn script play (after script play.history) h o) (λ (p : Play). length p.history ≤ limit)
        (λ first. le)
        (λ then. entry_size o lt)

pub turns_size : (limit : ℕ) (script : ScriptValue) (hs : List ℕ) (play : Play) → length play.history ≤ limit → length (fold (turn limit script) play hs).history ≤ limit
turns_size limit script [] play le = le
turns_size limit script (h ∷ hs) play le = turns_size limit script hs (turn limit script play h) (turn_size limit script play h le)

pub rounds_size : (limit : ℕ) (script : ScriptValue) (n : ℕ) (play : Play) → length play.history ≤ limit → length (rounds limit script n play).history ≤ limit
rounds_size limit script zero play le = le
rounds_size limit script (suc n) play le = rounds_size limit script n (round limit script play) (turns_size limit script (harts_below script.harts) play le)

rounds_end : (limit : ℕ) (script : ScriptValue) (n : ℕ) (play : Play) → length play.history ≤ limit → 2 * limit + script.harts < work script play + n → IsEnded limit script (rounds limit script n play).history
unfolding work
rounds_end limit script zero play le many =
    let notes = notes_le play.notes script.harts in
    absurd (omega arith)
rounds_end limit script (suc n) play le many = go (turns_work limit script (harts_below script.harts) play (harts_are_below script.harts)) (λ more. rounds_end limit script n (round limit script play) (turns_size limit script (harts_below script.harts) play le) more)
  where
    go : (AllByRecursion (λ h. turn limit script play h ≡ play) (harts_below script.harts) × (round limit script play ≡ play)) ⊎ (work script play < work script (round limit script play)) → (2 * limit + script.harts < work script (round limit script play) + n → IsEnded limit script (rounds limit script n (round limit script play)).history) → IsEnded limit script (rounds limit script n (round limit script play)).history
    go (inl same) more = subst (λ (p : Play). IsEnded limit script p.history) (sym (rounds_stay limit script (suc n) play same.1)) (last_round limit script play same.1)
    go (inr grows) more = more (omega arith)

pub played_ends : (limit : ℕ) (script : ScriptValue) → IsEnded limit script (played limit script)
unfolding played
played_ends limit script = rounds_end limit script (enough limit script) (fold (turn limit script) unplayed script.turns) (turns_size limit script script.turns unplayed (omega arith)) (omega arith)

pub played_size : (limit : ℕ) (script : ScriptValue) → length (played limit script) ≤ limit
unfolding played
played_size limit script = rounds_size limit script (enough limit script) (fold (turn limit script) unplayed script.turns) (turns_size limit script script.turns unplayed (omega arith))
