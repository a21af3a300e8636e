-- What an event does to each page, and to the seats of other harts.
use Rattle.std.proofs.Common.{◌≡◌, ℕ, Option, Some, None, refl, ap, ◌∙◌, ⊎_elim}
use Rattle.cove_model.specs.Machine.{HostCall, Convert, Run, Event, Reply, page_at, word_stored, page_of, word_place, Seat, State, refusal, state_by, done, done_at, guest_done, host_done}
use Rattle.cove_base.specs.declared.events.Event.TheVariants as events
use Rattle.cove_model.proofs.Runs.{change_cases}
use Rattle.cove_model.proofs.GuestChanges.{Left, Put, Wrote, change_guest, seats_after}
use Rattle.cove_model.proofs.HartsInside.{seated_other}
use Rattle.cove_model.proofs.Moves.{Move, Same, Stores, move_call, outcome_state}
use Rattle.cove_model.proofs.Passing.{row_passed}

pub wrote_move : (S T : State) (h p : ℕ) → Wrote S T p → Move S T h (page_at S.pages p) (page_at T.pages p)
wrote_move S T h p (Left u e) = Same u e
wrote_move S T h p (Put place value u e) = Stores place value u e

move_by : (S : State) (h : ℕ) (call : HostCall) (p : ℕ) (o : Option Reply) → refusal S h call ≡ o
    → Move S (state_by o S (outcome_state S h call)) h (page_at S.pages p) (page_at (state_by o S (outcome_state S h call)).pages p)
move_by S h call p None e = move_call S h call p (row_passed S h call e)
move_by S h call p (Some reply) e = Same refl refl

move_host : (S : State) (h : ℕ) (event : Event) (p : ℕ) → Move S (host_done S h event) h (page_at S.pages p) (page_at (host_done S h event).pages p)
move_host S h (events.Call call reply) p = move_by S h call p (refusal S h call) refl
move_host S h (events.Store addr value how) p =
    ⊎_elim (λ e. Same refl e) (λ e. Stores (word_place addr) value refl e) (change_cases (word_stored (word_place addr) value) (page_of addr) 1 S.pages p)
move_host S h _ p = Same refl refl

pub moves : (S : State) (h : ℕ) (event : Event) (p : ℕ) → Move S (done S h event) h (page_at S.pages p) (page_at (done S h event).pages p)
moves S h event p = go (S.seats h) refl
  where
    go : (o : Option Seat) → S.seats h ≡ o → Move S (done_at S h o event) h (page_at S.pages p) (page_at (done_at S h o event).pages p)
    go None e = move_host S h event p
    go (Some seat) e = wrote_move S (guest_done S h seat event) h p ((change_guest ⊥ S h seat event (λ c. absurd c) e).wrote p)

-- ---- seats of other harts

abbrev SeatStays : (k : ℕ) (S T : State) → Type 0
SeatStays k S T = T.seats k ≡ S.seats k

seat_call : (S : State) (h k : ℕ) (call : HostCall) → (k ≡ h → ⊥) → SeatStays k S (outcome_state S h call)
seat_call S h k (Run t v fuel) ne = seated_other h k (Some (record { tvm = t; cpu = v })) S.seats ne
seat_call S h k (Convert base n) ne = refl
seat_call S h k _ ne = refl

seat_by : (o : Option Reply) (S T : State) (k : ℕ) → SeatStays k S T → SeatStays k S (state_by o S T)
seat_by None S T k e = e
seat_by (Some reply) S T k e = refl

seat_guest : (S : State) (h k : ℕ) (seat : Seat) (event : Event) → S.seats h ≡ Some seat → (k ≡ h → ⊥) → SeatStays k S (guest_done S h seat event)
seat_guest S h k seat event sits ne = ⊎_elim
    (λ same. ap (λ f. f k) same)
    (λ left. ap (λ f. f k) left.1 ∙ seated_other h k None S.seats ne)
    (seats_after ⊥ S (guest_done S h seat event) h (change_guest ⊥ S h seat event (λ c. absurd c) sits).seat)

seat_host : (S : State) (h k : ℕ) (event : Event) → (k ≡ h → ⊥) → SeatStays k S (host_done S h event)
seat_host S h k (events.Call call reply) ne = seat_by (refusal S h call) S (outcome_state S h call) k (seat_call S h k call ne)
seat_host S h k (events.Store addr value how) ne = refl
seat_host S h k _ ne = refl

pub seat_other : (S : State) (h k : ℕ) (event : Event) → (k ≡ h → ⊥) → (done S h event).seats k ≡ S.seats k
seat_other S h k event ne = go (S.seats h) refl
  where
    go : (o : Option Seat) → S.seats h ≡ o → SeatStays k S (done_at S h o event)
    go None e = seat_host S h k event ne
    go (Some seat) e = seat_guest S h k seat event e ne
