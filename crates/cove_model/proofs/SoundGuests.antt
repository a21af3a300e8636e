-- An event of a hart leaves a sound state, whether it may be made or not.
use Rattle.std.proofs.Common.{◌≡◌, ℕ, ◌<◌, ap, true, false, List, Option, Some, None, refl, sym, subst, ◌∙◌, ⊎_elim}
use Rattle.std.specs.Option.{option_map_or}
use Rattle.cove_model.specs.Machine.{Event, Reply, change, page_at, without, word_stored, Within, IsHeldWithin, IsSound, IsSoundMapping, IsSoundTvm, page_of, word_place, Seat, State, harts_inside, is_in, on_cpu, seated, refusal, state_by, left_standing, left_tvm, restand, done, done_at, guest_done, host_done, left, left_by, line_ended, end_line, after_event, Standing, Present, Blocked, Tvm}
use Rattle.cove_base.specs.declared.events.Event.TheVariants as events
use Rattle.cove_base.specs.declared.events.Exit.{Exit}
use Rattle.cove_model.proofs.Runs.{change_cases}
use Rattle.cove_model.proofs.HartsInside.{has_inside, inside_apart, inside_has, inside_left}
use Rattle.cove_model.proofs.GuestChanges.{GetsUp, InsideChange, Left, Put, SeatChange, Stays, Wrote, change_guest}
use Rattle.cove_model.proofs.EventMoves.{wrote_move}
use Rattle.cove_model.proofs.Moves.{Same, Stores, outcome_state}
use Rattle.cove_model.proofs.Passing.{row_passed}
use Rattle.cove_model.proofs.Lists.{all_map, all_weaker}
use Rattle.cove_model.proofs.SoundCalls.{entered_held, sound_call, sound_from, sound_steady}
use Rattle.cove_model.proofs.SoundPages.{IsSteadyPage, steady_change, steady_f, steady_same}
use Rattle.cove_model.proofs.SoundTvms.{AllSound, left_sound, tvms_changed, tvms_moved, tvms_steady}

-- a word of the host's memory is stored
pub sound_store : (S : State) (h place value page : ℕ) → IsSound S → IsSound (record S { pages = change (word_stored place value) page 1 S.pages })
sound_store S h place value page sound =
    let T : State = record S { pages = change (word_stored place value) page 1 S.pages } in
    sound_from S T h refl (λ p. ⊎_elim (λ e. Same refl e) (λ e. Stores place value refl e) (change_cases (word_stored place value) page 1 S.pages p)) sound
    (tvms_steady S T (steady_change (word_stored place value) page 1 S.pages (steady_f (word_stored place value) (λ words. refl) (λ t purpose. refl))) (λ t. refl) S.tvms sound.tvms_sound)

sound_by : (o : Option Reply) (S T : State) → IsSound S → (o ≡ None → IsSound T) → IsSound (state_by o S T)
sound_by None S T sound accepted = accepted refl
sound_by (Some reply) S T sound accepted = sound

-- ---- exits

left_within : (h : ℕ) (inside now : List ℕ) → Within (without h inside) now → (s : Standing) → IsHeldWithin (without h inside) s → IsHeldWithin now s
left_within h inside now more Present held = tt
left_within h inside now more (Blocked list None) held = λ k e. more k (held k e)
left_within h inside now more (Blocked list (Some waiting)) held = held

left_other : (S T : State) (h : ℕ) (seat : Seat) → S.seats h ≡ Some seat → T.harts ≡ S.harts → T.pages ≡ S.pages → T.seats ≡ seated h None S.seats
    → (tvm : Tvm) → (tvm.number ≡ seat.tvm → ⊥) → IsSoundTvm S tvm → IsSoundTvm T tvm
left_other S T h seat sits harts pages seats tvm ne sound =
    subst (λ ps. AllSound ps (harts_inside T tvm.number) tvm.number tvm.mappings) (sym pages)
    (all_weaker (IsSoundMapping S.pages (harts_inside S tvm.number) tvm.number) (IsSoundMapping S.pages (harts_inside T tvm.number) tvm.number)
    (λ m s. record { held_within = entered_held (harts_inside S tvm.number) (harts_inside T tvm.number) (inside_apart S T h seat sits harts seats tvm.number ne) m.standing s.held_within; backed = s.backed })
    tvm.mappings sound)

sound_left : (S : State) (h : ℕ) (seat : Seat) (exit : Exit) → S.seats h ≡ Some seat → IsSound S → IsSound (left S h seat exit)
sound_left S h seat exit sits sound =
    let T = left S h seat exit in
    let t = seat.tvm in
    record {
      pages_sound = sound.pages_sound;
      on_board = sound.on_board;
      rising = sound.rising;
      tvms_sound = tvms_changed S T t (λ tvm. on_cpu seat.cpu (λ cpu. record (left_by exit cpu) { latched = None; fuel = 0 }) (left_tvm h tvm)) (λ tvm. refl)
          (λ tvm is all. all_map (IsSoundMapping S.pages (harts_inside S t) t) (IsSoundMapping S.pages (harts_inside T t) t) (restand (λ g. true) (left_standing h))
          (λ m s. record {
            held_within = left_within h (harts_inside S t) (harts_inside T t) (inside_left S T h refl refl t) (left_standing h m.standing) (left_sound h (harts_inside S t) m.standing s.held_within);
            backed = s.backed;
          }) tvm.mappings all)
          (left_other S T h seat sits refl refl refl) S.tvms sound.tvms_sound;
    }

-- ---- every event

sound_host : (S : State) (h : ℕ) (event : Event) → S.seats h ≡ None → IsSound S → IsSound (host_done S h event)
sound_host S h (events.Call call reply) outside sound =
    sound_by (refusal S h call) S (outcome_state S h call) sound (λ e. sound_call S h call outside (row_passed S h call e) sound)
sound_host S h (events.Store addr value how) outside sound = sound_store S h (word_place addr) value (page_of addr) sound
sound_host S h _ outside sound = sound

-- the same harts are inside, where seats stay
inside_stays : (S T : State) → T.harts ≡ S.harts → T.seats ≡ S.seats → (u : ℕ) → Within (harts_inside S u) (harts_inside T u)
inside_stays S T harts seats u k e =
    let q = inside_has S u k e in
    has_inside T u k (subst (λ n. k < n) (sym harts) q.0) (ap (λ f. option_map_or (is_in u) (f k) false) seats ∙ q.1)

steady_wrote : (S T : State) (p : ℕ) → Wrote S T p → IsSteadyPage (page_at S.pages p) (page_at T.pages p)
steady_wrote S T p (Left u e) = steady_same (page_at S.pages p) (page_at T.pages p) e
steady_wrote S T p (Put place value u e) =
    subst (IsSteadyPage (page_at S.pages p)) (sym e) (steady_f (word_stored place value) (λ words. refl) (λ t purpose. refl) (page_at S.pages p))

sound_guest : (S : State) (h : ℕ) (seat : Seat) (event : Event) → S.seats h ≡ Some seat → IsSound S → IsSound (guest_done S h seat event)
sound_guest S h seat event sits sound = go c.seat
  where
    T : State
    T = guest_done S h seat event

    c : InsideChange ⊥ S T h
    c = change_guest ⊥ S h seat event (λ e. absurd e) sits

    go : SeatChange ⊥ S T h → IsSound T
    go (Stays e) = sound_steady S T h c.framed.harts (λ p. wrote_move S T h p (c.wrote p)) (λ p. steady_wrote S T p (c.wrote p)) (inside_stays S T c.framed.harts e) c.tvms sound
    go (GetsUp other exit restless sat e) = subst IsSound (sym e) (sound_left S h other exit sat sound)

pub sound_done : (S : State) (h : ℕ) (event : Event) → IsSound S → IsSound (done S h event)
sound_done S h event sound = go (S.seats h) refl
  where
    go : (o : Option Seat) → S.seats h ≡ o → IsSound (done_at S h o event)
    go None e = sound_host S h event e sound
    go (Some seat) e = sound_guest S h seat event e sound

sound_line : (h : ℕ) (o : Option Seat) (S : State) → IsSound S → IsSound (line_ended h o S)
sound_line h None S sound = record {
  pages_sound = sound.pages_sound;
  on_board = sound.on_board;
  rising = sound.rising;
  tvms_sound = tvms_moved S (end_line h S) (λ u g b backed. backed) (λ u s held. held) S.tvms sound.tvms_sound;
}
sound_line h (Some seat) S sound = sound

pub sound_event : (S : State) (h : ℕ) (event : Event) → IsSound S → IsSound (after_event S h event)
sound_event S h event sound = sound_line h ((done S h event).seats h) (done S h event) (sound_done S h event sound)
