-- Harts inside sit on vCPUs that run, no two on one, and what other harts do leaves those vCPUs as they are.
use Rattle.std.proofs.Common.{◌≡◌, ℕ, ◌+◌, ◌<◌, true, false, eqb, true≢false, map, List, [], ◌∷◌, Option, Some, None, is_some, is_none, unwrap_or, option_map, refl, sym, ap, subst, ◌∙◌, inl, inr, ◌⊎◌, ⊎_elim}
use Rattle.std.proofs.lemmas.Bool.{cases_eq, ne_eqb}
use Rattle.std.proofs.lemmas.Option.{none-some, same_Some}
use Rattle.cove_model.specs.Machine.{HostCall, Convert, Run, Event, Reply, Owner, has, Seat, State, board_in, find_cpu, find_tvm, harts_inside, new_cpu, on_cpu, mode_in, runner, tvm_at, refusal, state_by, rule, at, left_unbinding, rebound, IsOn, IsSeated, IsStill, after_event, done, done_at, end_line, guest_done, host_done, left_by, line_ended, Cpu, Mode, Tvm, Unbinding, created, new_tvm}
use Rattle.cove_base.specs.declared.events.Event.TheVariants as events
use Rattle.cove_base.specs.declared.events.Exit.{Exit}
use Rattle.cove_model.proofs.Cpus.{AllStay, Anyhow, TvmStays, none_runs, stay_append, stay_map, stay_on_cpu, stay_same, stay_then, still_refl, still_then, tvm_altered, tvm_stays, tvm_then}
use Rattle.cove_model.proofs.EventMoves.{seat_other}
use Rattle.cove_model.proofs.Frames.{framed_done}
use Rattle.cove_model.proofs.HartsInside.{seated_same}
use Rattle.cove_model.proofs.KeepingCalls.{Sits, sits_inside}
use Rattle.cove_model.proofs.KeyedLemmas.{at_alter_same, at_append, at_dropped}
use Rattle.cove_model.proofs.Moves.{outcome_state}
use Rattle.cove_model.proofs.Passing.{Passed, row_passed}
use Rattle.cove_model.proofs.Changes.{AddsCpu, Alters, Cpus, CpusStay, Finalizes, Grows, Leaves, Loses, Measures, NoTvm, Once, OnCpu, OneTvm, Parts, Rebinds, Spares, Starts, TvmsChange, Twice, Unmeasured, stopped_by}
use Rattle.cove_model.proofs.CheckedRuns.{not_false}
use Rattle.cove_model.proofs.GuestChanges.{change_done, change_guest, seats_after}

-- R holds of what is done to a vCPU, where that is the one that is changed
abbrev Suits : (R : Cpu → Cpu → Type 0) (S : State) (h u v : ℕ) → Type 0
Suits R S h u v = (t w : ℕ) (how : Cpu → Cpu) → Spares S h t w how → u ≡ t → v ≡ w → (cpu : Cpu) → R cpu (how cpu)

pub left_number : (exit : Exit) (cpu : Cpu) → (left_by exit cpu).number ≡ cpu.number
left_number Exit.Fuel cpu = refl
left_number Exit.Kicked cpu = refl
left_number Exit.Wfi cpu = refl
left_number (Exit.Fault cause page) cpu = refl
left_number (Exit.Trap cause) cpu = refl

runs_on : (Found : Type 0) (tvm now : Tvm) → Measures Found tvm now → tvm.runnable ≡ true → now.runnable ≡ true
runs_on Found tvm now (Unmeasured runs records) is = runs ∙ is
runs_on Found tvm now (Parts more built runs records all) is = runs ∙ is
runs_on Found tvm now (Finalizes pc arg built runs records) is = runs

module _ (R : Cpu → Cpu → Type 0) (refl_R : (cpu : Cpu) → R cpu cpu) (then_R : (one two three : Cpu) → R one two → R two three → R one three)
    (rebound_R : (how : Unbinding → Unbinding) (cpu : Cpu) → R cpu (rebound how cpu)) (S : State) (h u v : ℕ) (suits : Suits R S h u v) where
  stays_cpus : (Found : Type 0) (t : ℕ) (tvm now : Tvm) → u ≡ t → Found → (tvm.runnable ≡ true → now.runnable ≡ true) → Cpus Found S h t tvm now → AllStay R v tvm now
  stays_cpus Found t tvm now is found runs (CpusStay e) = stay_same R refl_R v tvm now e runs
  stays_cpus Found t tvm now is found runs (AddsCpu w e fresh) = stay_append R refl_R v (new_cpu w ∷ []) tvm now e runs
  stays_cpus Found t tvm now is found runs (Starts pc arg built e) = λ cpu there on. absurd (true≢false (sym on ∙ built found))
  stays_cpus Found t tvm now is found runs (OnCpu w how e numbers spares binds) = stay_on_cpu R refl_R v w how numbers (suits t w how spares is) tvm now e runs
  stays_cpus Found t tvm now is found runs (Rebinds how e) = stay_map R refl_R v (rebound how) (λ cpu. refl) (rebound_R how) tvm now e runs
  stays_cpus Found t tvm now is found runs (Leaves w exit e spares) =
      let mid : Tvm = record tvm { cpus = map (rebound (left_unbinding h)) tvm.cpus } in
      stay_then R then_R v tvm mid now
      (stay_map R refl_R v (rebound (left_unbinding h)) (λ cpu. refl) (rebound_R (left_unbinding h)) tvm mid refl (λ on. on))
      (stay_on_cpu R refl_R v w (stopped_by exit) (left_number exit) (suits t w (stopped_by exit) spares is) mid now e runs)

  stays_one : (Calm : Type 0) (pages : List Owner) (xs ys : List Tvm) → OneTvm Calm S pages h xs ys → TvmStays R u v xs ys
  stays_one Calm pages xs ys (NoTvm e) = subst (TvmStays R u v xs) (sym e) (tvm_stays R refl_R u v xs)
  stays_one Calm pages xs ys (Alters t how e names each) = subst (TvmStays R u v xs) (sym e)
      (tvm_altered R refl_R u v t how (λ tvm. (names tvm).0) (λ tvm. (names tvm).1) xs (λ is tvm live. stays_cpus _ t tvm (how tvm) is live (runs_on _ tvm (how tvm) (each tvm).measures) (each tvm).cpus))

  -- what stays of a vCPU of a TVM that is not empty
  stays_tvms : (Calm : Type 0) (T : State) → (harts_inside S u ≡ [] → ⊥) → TvmsChange Calm S T h → TvmStays R u v S.tvms T.tvms
  stays_tvms Calm T some (Once made one) = stays_one Calm T.pages S.tvms T.tvms one
  stays_tvms Calm T some (Twice made mid one two bound) = tvm_then R then_R u v S.tvms mid T.tvms (stays_one Calm T.pages S.tvms mid one) (stays_one Calm T.pages mid T.tvms two)
  stays_tvms Calm T some (Grows mode made e) = λ tvm live. record {
    now = tvm;
    live = ap (at (λ (x : Tvm). x.number) u) e ∙ at_append (λ (x : Tvm). x.number) u S.tvms (created (S.made + 1) mode (board_in S) ∷ []) tvm live;
    mode = refl;
    stay = stay_same R refl_R v tvm tvm refl (λ on. on);
  }
  stays_tvms Calm T some (Loses t made e pages nobody restless) = λ tvm live. record {
    now = tvm;
    live = ap (at (λ (x : Tvm). x.number) u) e ∙ at_dropped (λ (x : Tvm). x.number) (λ n. eqb n t) u (ne_eqb u t (λ is. some (ap (harts_inside S) is ∙ nobody))) S.tvms ∙ live;
    mode = refl;
    stay = stay_same R refl_R v tvm tvm refl (λ on. on);
  }

-- in whatever way its vCPUs change
anyhow_stays : (S T : State) (h : ℕ) (seat : Seat) → (harts_inside S seat.tvm ≡ [] → ⊥) → TvmsChange ⊥ S T h → TvmStays Anyhow seat.tvm seat.cpu S.tvms T.tvms
anyhow_stays S T h seat =
    stays_tvms Anyhow (λ cpu. tt) (λ one two three a b. tt) (λ how cpu. tt) S h seat.tvm seat.cpu (λ t w how spares is it cpu. tt) ⊥ T

-- a hart that sits in a TVM is inside
not_empty : (S : State) (h : ℕ) (seat : Seat) → Sits S h seat → harts_inside S seat.tvm ≡ [] → ⊥
not_empty S h seat sits e = true≢false (sym (sits_inside S h seat sits) ∙ ap (has h) e)

-- ---- an event of another hart

pub still_done : (S : State) → IsSeated S → (h : ℕ) (seat : Seat) → Sits S h seat → (k : ℕ) (event : Event) → k < S.harts → (h ≡ k → ⊥)
    → TvmStays IsStill seat.tvm seat.cpu S.tvms (done S k event).tvms
still_done S seated_S h seat sits k event lt ne =
    stays_tvms IsStill still_refl still_then (λ how cpu. record { x = refl; pc = refl; latched = refl; fuel = refl }) S k seat.tvm seat.cpu
    (λ t w how spares is it. spares seated_S lt h seat sits.on_board sits.sits ne (is) (it)) ⊥ (done S k event) (not_empty S h seat sits) (change_done S k event)

-- an event leaves the mode of a TVM that a hart sits in
pub mode_done : (S : State) (h : ℕ) (seat : Seat) → Sits S h seat → IsOn S seat → (k : ℕ) (event : Event) → mode_in (done S k event) seat.tvm ≡ mode_in S seat.tvm
mode_done S h seat sits on k event =
    let mode : Option Tvm → Mode = λ o. (unwrap_or o (new_tvm seat.tvm)).mode in
    let now = anyhow_stays S (done S k event) k seat (not_empty S h seat sits) (change_done S k event) on.tvm on.live in
    ap mode now.live ∙ now.mode ∙ sym (ap mode on.live)

-- ---- the seats after an event

-- a seat that was on a vCPU is on it
on_after : (R : Cpu → Cpu → Type 0) (S T : State) (seat : Seat) → IsOn S seat → TvmStays R seat.tvm seat.cpu S.tvms T.tvms → IsOn T seat
on_after R S T seat on stays =
    let a = stays on.tvm on.live in
    let b = a.stay on.cpu on.there on.runs in
    record { tvm = a.now; live = a.live; runs = b.runs; cpu = b.now; there = b.there }

-- what a run gives: a seat on a vCPU that no hart ran
record Entered (S T : State) (seat : Seat) : Type 0 where
  on : IsOn T seat
  empty : is_some (runner S seat.tvm seat.cpu) ≡ false

some_of : {X : Type 0} (o : Option X) → is_none o ≡ false → (x : X) × (o ≡ Some x)
some_of {X} None e = absurd (true≢false e)
some_of {X} (Some x) e = (x, refl)

run_on : (S : State) (k t v fuel : ℕ) → Passed (rule S k (Run t v fuel)).checks → Entered S (outcome_state S k (Run t v fuel)) (record { tvm = t; cpu = v })
run_on S k t v fuel ok =
    let start : Cpu → Cpu = λ cpu. record cpu { fuel = fuel; latched = None } in
    let tvm = some_of (find_tvm S t) ok.0 in
    let at_tvm : tvm_at S t ≡ tvm.0 = ap (λ (o : Option Tvm). unwrap_or o (new_tvm t)) tvm.1 in
    let cpu = some_of (find_cpu (tvm_at S t) v) ok.1.1.0 in
    record {
      on = record {
        tvm = on_cpu v start tvm.0;
        live = at_alter_same (λ (x : Tvm). x.number) t (on_cpu v start) (λ x. refl) S.tvms ∙ ap (option_map (on_cpu v start)) tvm.1;
        runs = ap (λ (x : Tvm). x.runnable) (sym at_tvm) ∙ not_false _ ok.1.0;
        cpu = start cpu.0;
        there = at_alter_same (λ (x : Cpu). x.number) v start (λ x. refl) tvm.0.cpus ∙ ap (option_map start) (ap (λ (x : Tvm). find_cpu x v) (sym at_tvm) ∙ cpu.1);
      };
      empty = ok.1.1.1.1.0;
    }

entered_call : (S : State) (k : ℕ) (call : HostCall) (seat : Seat) → Passed (rule S k call).checks → S.seats k ≡ None → (outcome_state S k call).seats k ≡ Some seat
    → Entered S (outcome_state S k call) seat
entered_call S k (Run t v fuel) seat ok none inside =
    let new : Seat = record { tvm = t; cpu = v } in
    subst (Entered S (outcome_state S k (Run t v fuel))) (same_Some new seat (sym (seated_same k (Some new) S.seats) ∙ inside)) (run_on S k t v fuel ok)
entered_call S k (Convert base n) seat ok none inside = absurd (none-some seat (sym none ∙ inside))
entered_call S k _ seat ok none inside = absurd (none-some seat (sym none ∙ inside))

entered_host : (S : State) (k : ℕ) (event : Event) (seat : Seat) → S.seats k ≡ None → (host_done S k event).seats k ≡ Some seat → Entered S (host_done S k event) seat
entered_host S k (events.Call call reply) seat none inside = by (refusal S k call) (λ q. entered_call S k call seat (row_passed S k call q) none) inside
  where
    by : (o : Option Reply) → (o ≡ None → (outcome_state S k call).seats k ≡ Some seat → Entered S (outcome_state S k call) seat)
        → (state_by o S (outcome_state S k call)).seats k ≡ Some seat → Entered S (state_by o S (outcome_state S k call)) seat
    by None accepted e = accepted refl e
    by (Some r) accepted e = absurd (none-some seat (sym none ∙ e))
entered_host S k (events.Store addr value how) seat none inside = absurd (none-some seat (sym none ∙ inside))
entered_host S k _ seat none inside = absurd (none-some seat (sym none ∙ inside))

-- a hart that was inside sits where it sat, or left
stayed_guest : (S : State) (k : ℕ) (other : Seat) (event : Event) (seat : Seat) → S.seats k ≡ Some other → (guest_done S k other event).seats k ≡ Some seat → other ≡ seat
stayed_guest S k other event seat was now = ⊎_elim
    (λ same. same_Some other seat (sym was ∙ ap (λ f. f k) (sym same) ∙ now))
    (λ left. absurd (none-some seat (sym (ap (λ f. f k) left.1 ∙ seated_same k None S.seats) ∙ now)))
    (seats_after ⊥ S (guest_done S k other event) k (change_guest ⊥ S k other event (λ c. absurd c) was).seat)

-- the seat of a hart after its event: on a vCPU, which it or nobody ran before
record Placed (S T : State) (k : ℕ) (seat : Seat) : Type 0 where
  on : IsOn T seat
  before : (S.seats k ≡ Some seat) ⊎ (is_some (runner S seat.tvm seat.cpu) ≡ false)

placed : (S : State) → IsSeated S → (k : ℕ) (event : Event) → k < S.harts → (seat : Seat) → (done S k event).seats k ≡ Some seat → Placed S (done S k event) k seat
placed S seated_S k event lt seat = go (S.seats k) refl
  where
    go : (o : Option Seat) → S.seats k ≡ o → (done_at S k o event).seats k ≡ Some seat → Placed S (done_at S k o event) k seat
    go None e now = let r = entered_host S k event seat e now in record { on = r.on; before = inr r.empty }
    go (Some other) e now =
        let same = stayed_guest S k other event seat e now in
        let was : S.seats k ≡ Some seat = e ∙ ap (λ (s : Seat). Some s) same in
        record {
          on = on_after Anyhow S (guest_done S k other event) seat (seated_S.on k seat lt was)
              (anyhow_stays S (guest_done S k other event) k seat
              (not_empty S k seat (record { on_board = lt; sits = was })) (change_guest ⊥ S k other event (λ c. absurd c) e).tvms);
          before = inl was;
        }

seated_done : (S : State) → IsSeated S → (k : ℕ) (event : Event) → k < S.harts → IsSeated (done S k event)
seated_done S seated_S k event lt = record { on = on; alone = alone }
  where
    T : State
    T = done S k event

    before : (h : ℕ) → h < T.harts → h < S.harts
    before h l = subst (λ n. h < n) (framed_done S k event).harts l

    was : (h : ℕ) (seat : Seat) → (h ≡ k → ⊥) → T.seats h ≡ Some seat → S.seats h ≡ Some seat
    was h seat ne e = sym (seat_other S k h event ne) ∙ e

    on : (h : ℕ) (seat : Seat) → h < T.harts → T.seats h ≡ Some seat → IsOn T seat
    on h seat l e = ⊎_elim
        (λ is. (placed S seated_S k event lt seat (subst (λ j. T.seats j ≡ Some seat) is e)).on)
        (λ ne. on_after IsStill S T seat (seated_S.on h seat (before h l) (was h seat ne e))
        (still_done S seated_S h seat (record { on_board = before h l; sits = was h seat ne e }) k event lt ne))
        (cases_eq h k)

    -- another hart is not on the vCPU of this one
    apart : (h : ℕ) (seat other : Seat) → h < T.harts → (h ≡ k → ⊥) → T.seats k ≡ Some seat → T.seats h ≡ Some other → other.tvm ≡ seat.tvm → other.cpu ≡ seat.cpu → ⊥
    apart h seat other l ne mine e t v = ⊎_elim
        (λ inside. ne (seated_S.alone h k other seat (before h l) lt (was h other ne e) inside t v))
        (λ empty. none_runs S h seat.tvm seat.cpu other (before h l) (was h other ne e) empty t v)
        (placed S seated_S k event lt seat mine).before

    alone : (h j : ℕ) (seat other : Seat) → h < T.harts → j < T.harts → T.seats h ≡ Some seat → T.seats j ≡ Some other → seat.tvm ≡ other.tvm → seat.cpu ≡ other.cpu → h ≡ j
    alone h j seat other lh lj eh ej t v = ⊎_elim
        (λ is. ⊎_elim
        (λ js. is ∙ sym js)
        (λ nj. absurd (apart j seat other lj nj (subst (λ i. T.seats i ≡ Some seat) is eh) ej (sym t) (sym v)))
        (cases_eq j k))
        (λ nh. ⊎_elim
        (λ js. absurd (apart h other seat lh nh (subst (λ i. T.seats i ≡ Some other) js ej) eh t v))
        (λ nj. seated_S.alone h j seat other (before h lh) (before j lj) (was h seat nh eh) (was j other nj ej) t v)
        (cases_eq j k))
        (cases_eq h k)

seated_line : (h : ℕ) (o : Option Seat) (S : State) → IsSeated S → IsSeated (line_ended h o S)
seated_line h (Some seat) S s = s
seated_line h None S s = record {
  on = λ k seat l e. on_after Anyhow S (end_line h S) seat (s.on k seat l e) (tvm_stays Anyhow (λ cpu. tt) seat.tvm seat.cpu S.tvms);
  alone = s.alone;
}

pub seated_event : (S : State) → IsSeated S → (k : ℕ) (event : Event) → k < S.harts → IsSeated (after_event S k event)
seated_event S s k event lt = seated_line k ((done S k event).seats k) (done S k event) (seated_done S s k event lt)
