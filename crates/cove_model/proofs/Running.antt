-- Along legal histories: harts sit on vCPUs that run, and entries of other harts leave a running vCPU as it is.
use Rattle.std.proofs.Common.{◌≡◌, ℕ, ◌<◌, List, [], ◌∷◌, ◌++◌, Option, None, Some, unwrap_or, refl, sym, ap, subst, ◌∙◌, append-nil, append_assoc}
use Rattle.std.proofs.lemmas.Option.{none-some}
use Rattle.cove_base.proofs.ScriptLimits.{Limits}
use Rattle.cove_model.specs.Machine.{ScriptValue, Entry, Legal, after, own, cpu_of, IsOn, IsSeated, IsStill, Seat, State, at, cpu_at, ended_by, mode_in, new_cpu, opening, after_event, done, Cpu, Tvm, new_tvm}
use Rattle.cove_model.proofs.AtTheEnd.{after_push, ended_other, from_end, legal_front, legal_last, line_seats, line_tvms}
use Rattle.cove_model.proofs.Cpus.{TvmStays, still_refl, still_then, tvm_stays, tvm_then}
use Rattle.cove_model.proofs.EventMoves.{seat_other}
use Rattle.cove_model.proofs.Histories.{after_harts, entry_on_board}
use Rattle.cove_model.proofs.Holding.{silent_parts}
use Rattle.cove_model.proofs.KeepingCalls.{Sits}
use Rattle.cove_model.proofs.Seating.{mode_done, seated_event, still_done}

-- a board of which no hart is inside is seated
pub none_seated : (S : State) → ((h : ℕ) → S.seats h ≡ None) → IsSeated S
none_seated S none = record {
  on = λ h seat on sits. absurd (none-some seat (sym (none h) ∙ sits));
  alone = λ h k seat other on within sits there same cpu. absurd (none-some seat (sym (none h) ∙ sits));
}

-- the vCPU that a seat is on
cpu_there : (S : State) (seat : Seat) (on : IsOn S seat) → cpu_of S seat ≡ on.cpu
cpu_there S seat on =
    ap (λ (o : Option Tvm). cpu_at (unwrap_or o (new_tvm seat.tvm)) seat.cpu) on.live ∙ ap (λ (o : Option Cpu). unwrap_or o (new_cpu seat.cpu)) on.there

-- a hart sits where it sat, and its vCPU is still
record Keeps (S T : State) (h : ℕ) (seat : Seat) : Type 0 where
  sits : T.seats h ≡ Some seat
  stays : TvmStays IsStill seat.tvm seat.cpu S.tvms T.tvms

module _ (script : ScriptValue) (limits : Limits script) where
  pub seated : (H : List Entry) → Legal script H → IsSeated (after script H)
  seated = from_end (λ H. Legal script H → IsSeated (after script H))
      (λ H e more legal.
      subst IsSeated (sym (after_push script H e))
      (seated_event (after script H) (more (legal_front script H e legal)) e.hart.0 e.event
      (subst (λ n. e.hart.0 < n) (sym (after_harts script H)) (entry_on_board script limits H e (legal_front script H e legal) (legal_last script H e legal)))))
      (λ legal. none_seated (opening script) (λ h. refl))

  keeps_since : (H : List Entry) (h : ℕ) (seat : Seat) → h < script.harts → (after script H).seats h ≡ Some seat
      → (since : List Entry) → Legal script (H ++ since) → own since h ≡ [] → Keeps (after script H) (after script (H ++ since)) h seat
  keeps_since H h seat lt sits = from_end (λ since. Legal script (H ++ since) → own since h ≡ [] → Keeps (after script H) (after script (H ++ since)) h seat)
      (λ since e more legal s.
      let parts = silent_parts since e h s in
      let front = H ++ since in
      let whole : H ++ (since ++ e ∷ []) ≡ front ++ e ∷ [] = sym (append_assoc H since (e ∷ [])) in
      let all = subst (Legal script) whole legal in
      let before = legal_front script front e all in
      let S = after script front in
      let board : (k : ℕ) → k < script.harts → k < S.harts = λ k l. subst (λ n. k < n) (sym (after_harts script front)) l in
      let lk = board e.hart.0 (entry_on_board script limits front e before (legal_last script front e all)) in
      let was = more before parts.0 in
      let ne : h ≡ e.hart.0 → ⊥ = λ q. parts.1 (sym q) in
      let D = done S e.hart.0 e.event in
      let now : Keeps (after script H) (after_event S e.hart.0 e.event) h seat = record {
        sits = ap (λ f. f h) (line_seats e.hart.0 (D.seats e.hart.0) D) ∙ seat_other S e.hart.0 h e.event ne ∙ was.sits;
        stays = subst (TvmStays IsStill seat.tvm seat.cpu (after script H).tvms) (sym (line_tvms e.hart.0 (D.seats e.hart.0) D))
            (tvm_then IsStill still_then seat.tvm seat.cpu (after script H).tvms S.tvms D.tvms was.stays
            (still_done S (seated front before) h seat (record { on_board = board h lt; sits = was.sits }) e.hart.0 e.event lk ne));
      } in
      subst (λ (T : State). Keeps (after script H) T h seat) (sym (ap (after script) whole ∙ after_push script front e)) now)
      (λ legal s. subst (λ front. Keeps (after script H) (after script front) h seat) (sym (append-nil H))
      (record { sits = sits; stays = tvm_stays IsStill still_refl seat.tvm seat.cpu (after script H).tvms }))

  -- a hart that sits is on a vCPU
  pub seat_on : (H : List Entry) (h : ℕ) (seat : Seat) → h < script.harts → (after script H).seats h ≡ Some seat → Legal script H → IsOn (after script H) seat
  seat_on H h seat lt sits legal = (seated H legal).on h seat (subst (λ n. h < n) (sym (after_harts script H)) lt) sits

  -- what other harts do leaves the vCPU that a hart runs
  pub still_since : (H since : List Entry) (h : ℕ) (seat : Seat) → h < script.harts → (after script H).seats h ≡ Some seat → Legal script H
      → Legal script (H ++ since) → own since h ≡ [] → IsStill (cpu_of (after script H) seat) (cpu_of (after script (H ++ since)) seat)
  still_since H since h seat lt sits front legal silent =
      let k = keeps_since H h seat lt sits since legal silent in
      let on = seat_on H h seat lt sits front in
      let a = k.stays on.tvm on.live in
      let b = a.stay on.cpu on.there on.runs in
      let later : IsOn (after script (H ++ since)) seat = record { tvm = a.now; live = a.live; runs = b.runs; cpu = b.now; there = b.there } in
      subst (λ c. IsStill c (cpu_of (after script (H ++ since)) seat)) (sym (cpu_there (after script H) seat on))
      (subst (IsStill on.cpu) (sym (cpu_there (after script (H ++ since)) seat later)) b.kept)

  -- and an entry of any hart the mode of its TVM
  pub mode_apart : (H : List Entry) (e : Entry) (h : ℕ) (seat : Seat) → h < script.harts → (after script H).seats h ≡ Some seat → Legal script H
      → mode_in (after script (H ++ e ∷ [])) seat.tvm ≡ mode_in (after script H) seat.tvm
  mode_apart H e h seat lt sits legal =
      let S = after script H in
      let D = done S e.hart.0 e.event in
      let sat : Sits S h seat = record { on_board = subst (λ n. h < n) (sym (after_harts script H)) lt; sits = sits } in
      ap (λ (T : State). mode_in T seat.tvm) (after_push script H e)
      ∙ ap (λ tvms. (unwrap_or (at (λ (tvm : Tvm). tvm.number) seat.tvm tvms) (new_tvm seat.tvm)).mode) (line_tvms e.hart.0 (D.seats e.hart.0) D)
      ∙ mode_done S h seat sat (seat_on H h seat lt sits legal) e.hart.0 e.event

-- ---- an entry of another hart, of any history

pub ended_apart : (script : ScriptValue) (H : List Entry) (e : Entry) (h : ℕ) → (e.hart.0 ≡ h → ⊥) → ended_by (after script (H ++ e ∷ [])) h ≡ ended_by (after script H) h
ended_apart script H e h ne = ap (λ T. ended_by T h) (after_push script H e) ∙ ended_other (after script H) e.hart.0 h e.event (λ q. ne (sym q))

pub seat_apart : (script : ScriptValue) (H : List Entry) (e : Entry) (h : ℕ) → (e.hart.0 ≡ h → ⊥) → (after script (H ++ e ∷ [])).seats h ≡ (after script H).seats h
seat_apart script H e h ne =
    let D = done (after script H) e.hart.0 e.event in
    ap (λ (T : State). T.seats h) (after_push script H e) ∙ ap (λ f. f h) (line_seats e.hart.0 (D.seats e.hart.0) D)
    ∙ seat_other (after script H) e.hart.0 h e.event (λ q. ne (sym q))
