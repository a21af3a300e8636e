-- A played history is legal and cached.
use Rattle.std.proofs.Common.{◌≡◌, ℕ, zero, suc, ◌<◌, ◌≤◌, Bool, true, false, cond, eqb, eq-eqb, nat_lt, le-ltb, true≢false, fold, length, List, [], ◌∷◌, ◌++◌, Option, Some, None, refl, sym, ap, subst, ◌∙◌, inl, inr, ◌⊎◌, ⊎_elim, append-nil, append_assoc}
use Rattle.std.proofs.lemmas.Bool.{cases_Bool, cases_eq, cond-true, cond-false, cond_both, ne_eqb}
use Rattle.std.proofs.lemmas.Option.{same_Some}
use Rattle.cove_base.proofs.ScriptLimits.{Limits}
use Rattle.cove_model.specs.Machine.{next_line, ScriptValue, Entry, Event, How, Hit, Walk, Target, harts_below, Seat, State, deed_of, ended_by, guest_limit, guests_in, IsCached, IsReached, ReachesWhere, WasFound, Legal, after, Offer, Nothing, Behind, Single, Touch, cpu_of, is_found, may_succeed, offer, sought, Note, Unwalked, WalkFound, WalkMissed, Play, ended_event, ending, enough, entered, entry_by, entry_turn, noted, played_out, round, rounds, sought_turn, turn, unplayed, walked, walks_first, Allows, Takes, done, holds_target, tlb}
use Rattle.cove_model.proofs.Aiming.{Shows, aim_still, offer_shows, sought_aims}
use Rattle.cove_model.specs.Aims.{aim, aimed_at, next_aim}
use Rattle.cove_model.proofs.AtTheEnd.{after_push, each_push, ended_other, legal_push, line_seats, own_alone, own_other}
use Rattle.cove_model.proofs.EventMoves.{seat_other}
use Rattle.cove_model.proofs.Histories.{entry_on_board, usable}
use Rattle.cove_model.proofs.Holding.{able_succeeds, found_able, held_since, holds_able}
use Rattle.cove_model.proofs.Running.{mode_apart, still_since}
use Rattle.cove_model.specs.Played.{played}

-- a walk that found its target did so since the hart's last entry, and the hart looks for it
abbrev NoteFits : ScriptValue → List Entry → (h : ℕ) → Note → Type 0
NoteFits script H h note =
    note ≡ WalkFound → (t : Target) → aimed_at script (after script H) h ((after script H).seats h) ≡ Some t → WasFound script H h t

pub record Fitting (script : ScriptValue) (play : Play) : Type 0 where
  pub legal : Legal script play.history
  pub cached : IsCached script play.history
  pub notes_fit : (h : ℕ) → h < script.harts → NoteFits script play.history h (play.notes h)

-- ---- notes

pub noted_same : (h k : ℕ) (note : Note) (notes : ℕ → Note) → k ≡ h → noted h note notes k ≡ note
noted_same h k note notes e = cond-true (eqb k h) note (notes k) (eq-eqb k h e)

pub noted_other : (h k : ℕ) (note : Note) (notes : ℕ → Note) → (k ≡ h → ⊥) → noted h note notes k ≡ notes k
noted_other h k note notes ne = cond-false (eqb k h) note (notes k) (ne_eqb k h ne)

abbrev pub was_longer : (script : ScriptValue) (H : List Entry) (e : Entry) (h : ℕ) (t : Target) → (e.hart.0 ≡ h → ⊥) → WasFound script H h t → WasFound script (H ++ e ∷ []) h t
was_longer script H e h t ne was = record {
  earlier = was.earlier;
  since = was.since ++ e ∷ [];
  split = ap (λ xs. xs ++ e ∷ []) was.split ∙ append_assoc was.earlier was.since (e ∷ []);
  silent = own_other was.since e h ne ∙ was.silent;
  found = was.found;
}

abbrev pub was_now : (script : ScriptValue) (H : List Entry) (h : ℕ) (t : Target) → is_found (after script H) h t ≡ true → WasFound script H h t
was_now script H h t found = record { earlier = H; since = []; split = sym (append-nil H); silent = refl; found = found }

-- ---- turns and rounds

pub turn_full : (limit : ℕ) (script : ScriptValue) (play : Play) (h : ℕ) → limit ≤ length play.history → turn limit script play h ≡ play
turn_full limit script play h full = cond-false (nat_lt (length play.history) limit) _ play (le-ltb (length play.history) limit full)

pub rounds_stay : (limit : ℕ) (script : ScriptValue) (n : ℕ) (play : Play) → round limit script play ≡ play → rounds limit script n play ≡ play
rounds_stay limit script zero play e = refl
rounds_stay limit script (suc n) play e = ap (rounds limit script n) e ∙ rounds_stay limit script n play e

module _ (script : ScriptValue) (limits : Limits script) where
  -- ---- an entry of another hart leaves what a hart aims at

  pub aimed_other : (H : List Entry) (e : Entry) (h : ℕ) → h < script.harts → Legal script H → Legal script (H ++ e ∷ []) → (h ≡ e.hart.0 → ⊥)
      → aimed_at script (after script (H ++ e ∷ [])) h ((after script (H ++ e ∷ [])).seats h) ≡ aimed_at script (after script H) h ((after script H).seats h)
  aimed_other H e h lt front legal ne =
      ap (aimed_at script T h) seats ∙ go ((after script H).seats h) refl
    where
      S : State
      S = after script H

      T : State
      T = after script (H ++ e ∷ [])

      D : State
      D = done (after script H) e.hart.0 e.event

      seats : (after script (H ++ e ∷ [])).seats h ≡ (after script H).seats h
      seats = ap (λ (X : State). X.seats h) (after_push script H e) ∙ ap (λ f. f h) (line_seats e.hart.0 (D.seats e.hart.0) D) ∙ seat_other (after script H) e.hart.0 h e.event ne

      go : (o : Option Seat) → (after script H).seats h ≡ o → aimed_at script (after script (H ++ e ∷ [])) h o ≡ aimed_at script (after script H) h o
      go None sits = ap (λ n. next_aim (next_line script h n)) (ap (λ (X : State). ended_by X h) (after_push script H e) ∙ ended_other (after script H) e.hart.0 h e.event ne)
      go (Some seat) sits =
          ap (λ mode. aim (guest_limit mode) (deed_of (cpu_of (after script (H ++ e ∷ [])) seat))) (mode_apart script limits H e h seat lt sits front)
          ∙ aim_still (guests_in (after script H) seat.tvm) (cpu_of (after script H) seat) (cpu_of (after script (H ++ e ∷ [])) seat) (still_since script limits H (e ∷ []) h seat lt sits front legal (own_alone e h (λ q. ne (sym q))))

  -- ---- an entry keeps a play fitting

  entry_notes : (play : Play) (h : ℕ) (event : Event) → Fitting script play → Legal script (play.history ++ entry_by h event ∷ []) → (k : ℕ) → k < script.harts
      → (k ≡ h) ⊎ (k ≡ h → ⊥) → NoteFits script (play.history ++ entry_by h event ∷ []) k (noted h Unwalked play.notes k)
  entry_notes play h event fitting legal k lt (inl e) = λ found t aims. let n = noted_same h k Unwalked play.notes e in cc
  entry_notes play h event fitting legal k lt (inr ne) = λ found t aims.
      let H = play.history in
      let entry = entry_by h event in
      was_longer script H entry k t (λ q. ne (sym q))
      (fitting.notes_fit k lt (sym (noted_other h k Unwalked play.notes ne) ∙ found) t (sym (aimed_other H entry k lt fitting.legal legal ne) ∙ aims))

  fitting_entered : (play : Play) (h : ℕ) (event : Event) → Fitting script play → Allows script (after script play.history) h event → IsReached script play.history h event → Fitting script (entered play h event)
  fitting_entered play h event fitting allows reached =
      let legal = legal_push script play.history (entry_by h event) fitting.legal allows in
      record {
        legal = legal;
        cached = each_push (λ before entry. IsReached script before entry.hart.0 entry.event) [] play.history (entry_by h event) fitting.cached reached;
        notes_fit = λ k lt. entry_notes play h event fitting legal k lt (cases_eq k h);
      }

  -- ---- so does a walk

  found_true : (b : Bool) → cond b WalkFound WalkMissed ≡ WalkFound → b ≡ true
  found_true true e = refl
  found_true false e = cc

  walk_notes : (play : Play) (h : ℕ) (target : Target) → Fitting script play → sought script (after script play.history) h ≡ Some target → (k : ℕ) → k < script.harts → (k ≡ h) ⊎ (k ≡ h → ⊥)
      → NoteFits script play.history k (noted h (cond (is_found (after script play.history) h target) WalkFound WalkMissed) play.notes k)
  walk_notes play h target fitting seeks k lt (inl e) = λ found t aims.
      let S = after script play.history in
      let note = sym (noted_same h k (cond (is_found S h target) WalkFound WalkMissed) play.notes e) ∙ found in
      let mine : aimed_at script S k (S.seats k) ≡ Some target = subst (λ j. aimed_at script S j (S.seats j) ≡ Some target) (sym e) (sought_aims script S h target seeks) in
      let same : target ≡ t = same_Some target t (sym mine ∙ aims) in
      was_now script play.history k t (ap (is_found S k) (sym same) ∙ ap (λ j. is_found S j target) e ∙ found_true (is_found S h target) note)
  walk_notes play h target fitting seeks k lt (inr ne) = λ found t aims.
      fitting.notes_fit k lt (sym (noted_other h k (cond (is_found (after script play.history) h target) WalkFound WalkMissed) play.notes ne) ∙ found) t aims

  fitting_walked : (play : Play) (h : ℕ) (target : Target) → Fitting script play → sought script (after script play.history) h ≡ Some target → Fitting script (walked play h (is_found (after script play.history) h target))
  fitting_walked play h target fitting seeks = record {
    legal = fitting.legal;
    cached = fitting.cached;
    notes_fit = λ k lt. walk_notes play h target fitting seeks k lt (cases_eq k h);
  }

  -- ---- an access ends rightly

  -- what is found may be
  found_may : (S : State) (h : ℕ) (t : Target) → is_found S h t ≡ true → may_succeed S h t ≡ true
  found_may S h t e = able_succeeds S h t (found_able S h t e)

  -- a hart that is offered an access is on the board: it may succeed or fault
  touch_on_board : (H : List Entry) (h : ℕ) (target : Target) (success : How → Event) (fault : Event) → Legal script H
      → offer script (after script H) h ≡ Touch target success fault → h < script.harts
  touch_on_board H h target success fault legal offered = ⊎_elim
      (λ may. entry_on_board script limits H (entry_by h (success Hit)) legal
      (subst (λ o. Takes (after script H) h o (success Hit)) (sym offered) (inl (Hit, refl, may))))
      (λ not. entry_on_board script limits H (entry_by h fault) legal
      (subst (λ o. Takes (after script H) h o fault) (sym offered) (inr (refl, absent not))))
      (cases_Bool (may_succeed (after script H) h target))
    where
      absent : may_succeed (after script H) h target ≡ false → is_found (after script H) h target ≡ false
      absent not = ⊎_elim (λ found. absurd (true≢false (sym (found_may (after script H) h target found) ∙ not))) (λ q. q) (cases_Bool (is_found (after script H) h target))

  module _ (play : Play) (fitting : Fitting script play) (h : ℕ) where
    abbrev H : List Entry
    H = play.history

    abbrev S : State
    S = after script play.history

    single : (event : Event) → offer script S h ≡ Single event → Shows script S h (S.seats h) (Single event) → Fitting script (entered play h event)
    single event offered shows = fitting_entered play h event fitting (subst (λ o. Takes S h o event) (sym offered) refl)
        (subst (ReachesWhere script H h) (sym shows) tt)

    -- how an access ended is right
    abbrev Ends : (target : Target) → Option How → Type 0
    Ends target (Some Hit) = holds_target (tlb script H h) target ≡ true
    Ends target (Some Walk) = (holds_target (tlb script H h) target ≡ false) × WasFound script H h target
    Ends target None = (holds_target (tlb script H h) target ≡ false) × (is_found S h target ≡ false)

    ends : (target : Target) → (h < script.harts) → aimed_at script S h (S.seats h) ≡ Some target → Ends target (ending (holds_target (tlb script H h) target) (play.notes h) (is_found S h target))
    ends target lt aims = go (holds_target (tlb script H h) target) refl (play.notes h) refl (is_found S h target) refl
      where
        go : (b : Bool) → holds_target (tlb script play.history h) target ≡ b → (n : Note) → play.notes h ≡ n → (f : Bool) → is_found (after script play.history) h target ≡ f → Ends target (ending b n f)
        go true e note n f q = e
        go false e Unwalked n true q = (e, was_now script play.history h target q)
        go false e Unwalked n false q = (e, q)
        go false e WalkFound n f q = (e, fitting.notes_fit h lt n target aims)
        go false e WalkMissed n true q = (e, was_now script play.history h target q)
        go false e WalkMissed n false q = (e, q)

    touch : (target : Target) (success : How → Event) (fault : Event) → offer script S h ≡ Touch target success fault → Shows script S h (S.seats h) (Touch target success fault)
        → (o : Option How) → Ends target o → Fitting script (entered play h (ended_event success fault o))
    touch target success fault offered shows (Some Hit) right =
        fitting_entered play h (success Hit) fitting
        (subst (λ o. Takes S h o (success Hit)) (sym offered) (inl (Hit, refl, able_succeeds S h target (holds_able S h (tlb script H h) target (usable script limits H fitting.legal h) right))))
        (subst (ReachesWhere script H h) (sym (shows.1.0 Hit)) right)
    touch target success fault offered shows (Some Walk) right =
        fitting_entered play h (success Walk) fitting
        (subst (λ o. Takes S h o (success Walk)) (sym offered) (inl (Walk, refl, held_since script H h target (touch_on_board H h target success fault fitting.legal offered) right.1)))
        (subst (ReachesWhere script H h) (sym (shows.1.0 Walk)) right)
    touch target success fault offered shows None right =
        fitting_entered play h fault fitting
        (subst (λ o. Takes S h o fault) (sym offered) (inr (refl, right.1)))
        (subst (ReachesWhere script H h) (sym shows.1.1) right.0)

    fitting_offer : (o : Offer) → offer script S h ≡ o → Fitting script (entry_turn script play S h o)
    fitting_offer Nothing e = fitting
    fitting_offer (Behind k) e = fitting
    fitting_offer (Single event) e = single event e (subst (Shows script S h (S.seats h)) e (offer_shows script S h))
    fitting_offer (Touch target success fault) e =
        let shows = subst (Shows script S h (S.seats h)) e (offer_shows script S h) in
        let lt = touch_on_board H h target success fault fitting.legal e in
        touch target success fault e shows (ending (holds_target (tlb script H h) target) (play.notes h) (is_found S h target)) (ends target lt shows.0)

    fitting_sought : (o : Option Target) → sought script S h ≡ o → Fitting script (sought_turn script play S h (offer script S h) o)
    fitting_sought None e = fitting_offer (offer script S h) refl
    fitting_sought (Some target) e = cond_both (walks_first (holds_target (tlb script H h) target) (play.notes h)) (walked play h (is_found S h target)) (entry_turn script play S h (offer script S h)) (Fitting script)
        (λ first. fitting_walked play h target fitting e)
        (λ then. fitting_offer (offer script S h) refl)

    pub fitting_turn : (limit : ℕ) → Fitting script (turn limit script play h)
    fitting_turn limit = cond_both (nat_lt (length play.history) limit) (sought_turn script play S h (offer script S h) (sought script S h)) play (Fitting script)
        (λ room. fitting_sought (sought script S h) refl)
        (λ full. fitting)

  pub fitting_turns : (limit : ℕ) → (hs : List ℕ) (play : Play) → Fitting script play → Fitting script (fold (turn limit script) play hs)
  fitting_turns limit [] play fitting = fitting
  fitting_turns limit (h ∷ hs) play fitting = fitting_turns limit hs (turn limit script play h) (fitting_turn play fitting h limit)

  pub fitting_rounds : (limit : ℕ) → (n : ℕ) (play : Play) → Fitting script play → Fitting script (rounds limit script n play)
  fitting_rounds limit zero play fitting = fitting
  fitting_rounds limit (suc n) play fitting = fitting_rounds limit n (round limit script play) (fitting_turns limit (harts_below script.harts) play fitting)

  fitting_unplayed : Fitting script unplayed
  fitting_unplayed = record { legal = tt; cached = tt; notes_fit = λ h lt found t aims. cc }

  pub fitting_played : (limit : ℕ) → Fitting script (played_out limit script)
  fitting_played limit = fitting_rounds limit (enough limit script) (fold (turn limit script) unplayed script.turns) (fitting_turns limit script.turns unplayed fitting_unplayed)

  -- the history that a script plays is legal and cached
  pub played_fits : (limit : ℕ) → Legal script (played limit script) × IsCached script (played limit script)
  unfolding played
  played_fits limit = let fitting = fitting_played limit in (fitting.legal, fitting.cached)
