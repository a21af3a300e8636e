-- What an event of a guest does, classified once: to the board, the seats, the pages and the live TVMs; and every event to these.
use Rattle.std.proofs.Common.{◌≡◌, ℕ, ◌/◌, Bool, true, false, true≢false, map, List, Option, Some, None, refl, sym, ap, ◌∙◌, inl, inr, ◌⊎◌, ⊎_elim, set as slice_set, length-set}
use Rattle.std.specs.Option.{option_map_or}
use Rattle.cove_base.specs.Executions.{merged}
use Rattle.cove_base.specs.Registers.{register}
use Rattle.cove_model.specs.Machine.{GuestAct, Event, Reply, refusal, refusal_by, state_after_rule, state_by, evidence_at, guest_rule, guest_word, overwritten, with_words, words_in, is_among, Rule, blocked_standing, left_standing, mapping_of, restand, cpu_of, bound_file_in, Owner, has, page_at, without, word_stored, IsHeldWithin, Seat, State, find_tvm, harts_inside, on_cpu, on_tvm, page_of, seated, tvm_at, word_place, acted, done, done_at, guest_done, guest_stored, host_done, left, on_seat, performed, stored_under, Backing, OwnPage, HostPage, Standing, Present, Blocked, Cpu, Mapping, Tvm}
use Rattle.cove_base.specs.declared.calls.GuestAct.TheVariants as acts
use Rattle.cove_base.specs.declared.events.Event.TheVariants as events
use Rattle.cove_base.specs.declared.events.Exit.{Exit}
use Rattle.cove_model.proofs.Changes.{Alters, KeepsName, Leaves, StaysBound, NoTvm, Once, OnCpu, OneTvm, Restands, Rewords, Spares, TvmChange, TvmsChange, Twice, Unmeasured, change_call, recpus, remaps, stays, stopped_by, unread}
use Rattle.cove_model.proofs.BoundPlaces.{places_altered}
use Rattle.cove_model.proofs.CallFrames.{Framed, framed}
use Rattle.cove_model.proofs.Keeping.{blocked_follows, left_follows}
use Rattle.cove_model.proofs.Members.{has_not, has_with}
use Rattle.cove_model.proofs.Moves.{outcome_state}
use Rattle.cove_model.proofs.Passing.{row_passed}
use Rattle.cove_model.proofs.Runs.{change_cases, length_change}
use Rattle.cove_model.proofs.SoundPages.{within_both, within_without}
use Rattle.cove_model.proofs.SoundTvms.{blocked_sound, overwritten_length}
use Rattle.cove_model.specs.Deeds.{Deed, Tires, Fetches, Executes, Loads, Stores as Writes, Asks, Waits, Traps, deed_of}

-- a page is stored to, or stays
pub data Wrote (S T : State) (p : ℕ) : Type 0 where
  Left : T.unanswered ≡ S.unanswered → page_at T.pages p ≡ page_at S.pages p → Wrote S T p
  Put : (place value : ℕ) → T.unanswered ≡ S.unanswered → page_at T.pages p ≡ word_stored place value (page_at S.pages p) → Wrote S T p

-- the hart stays in its seat, or leaves by an exit
pub data SeatChange (Calm : Type 0) (S T : State) (h : ℕ) : Type 0 where
  Stays : T.seats ≡ S.seats → SeatChange Calm S T h
  GetsUp : (seat : Seat) (exit : Exit) → (Calm → ⊥) → S.seats h ≡ Some seat → T ≡ left S h seat exit → SeatChange Calm S T h

pub seats_after : (Calm : Type 0) (S T : State) (h : ℕ) → SeatChange Calm S T h → (T.seats ≡ S.seats) ⊎ ((Calm → ⊥) × (T.seats ≡ seated h None S.seats))
seats_after Calm S T h (Stays e) = inl e
seats_after Calm S T h (GetsUp seat exit restless sits e) = inr (restless, ap (λ (U : State). U.seats) e)

-- what an event of a hart inside does; where it is calm for the hart, the hart stays in its seat and follows what it may
pub record InsideChange (Calm : Type 0) (S T : State) (h : ℕ) : Type 0 where
  pub framed : Framed S T
  pub seat : SeatChange Calm S T h
  pub wrote : (p : ℕ) → Wrote S T p
  pub tvms : TvmsChange Calm S T h

-- what it does before the vCPU goes on
record Midway (Calm : Type 0) (S M : State) (h : ℕ) : Type 0 where
  framed : Framed S M
  made : M.made ≡ S.made
  seats : M.seats ≡ S.seats
  wrote : (p : ℕ) → Wrote S M p
  one : (pages : List Owner) → OneTvm Calm S pages h S.tvms M.tvms

nothing_yet : (Calm : Type 0) (S : State) (h : ℕ) → Midway Calm S S h
nothing_yet Calm S h = record { framed = framed S; made = refl; seats = refl; wrote = λ p. Left refl refl; one = λ pages. NoTvm refl }

-- one TVM is changed
one_yet : (Calm : Type 0) (S : State) (h t : ℕ) (how : Tvm → Tvm) → KeepsName how
    → ((pages : List Owner) (tvm : Tvm) → TvmChange Calm (find_tvm S t ≡ Some tvm) S pages h t tvm (how tvm)) → Midway Calm S (on_tvm t how S) h
one_yet Calm S h t how names each = record {
  framed = record { harts = refl; files = refl; key = refl; ended = refl; size = refl };
  made = refl;
  seats = refl;
  wrote = λ p. Left refl refl;
  one = λ pages. Alters t how refl names (each pages);
}

-- the own vCPU of a hart is another hart's on no account
own_spares : (S : State) (h : ℕ) (seat : Seat) (how : Cpu → Cpu) → S.seats h ≡ Some seat → Spares S h seat.tvm seat.cpu how
own_spares S h seat how sits seated below x other lt sat ne is it cpu = absurd (ne (seated.alone x h other seat lt below sat sits is it))

-- then the vCPU goes on
goes_on : (Calm : Type 0) (S M : State) (h : ℕ) (seat : Seat) (how : Cpu → Cpu) → S.seats h ≡ Some seat → ((cpu : Cpu) → (how cpu).number ≡ cpu.number)
    → ((cpu : Cpu) → (how cpu).binding ≡ cpu.binding) → Midway Calm S M h → InsideChange Calm S (on_seat seat how M) h
goes_on Calm S M h seat how sits numbers bound mid = record {
  framed = record { harts = mid.framed.harts; files = mid.framed.files; key = mid.framed.key; ended = mid.framed.ended; size = mid.framed.size };
  seat = Stays mid.seats;
  wrote = λ p. wrote p (mid.wrote p);
  tvms = Twice mid.made M.tvms (mid.one M.pages)
      (Alters seat.tvm (on_cpu seat.cpu how) refl (λ tvm. (refl, refl))
      (λ tvm. recpus Calm _ S M.pages h seat.tvm tvm (on_cpu seat.cpu how tvm) refl refl refl (OnCpu seat.cpu how refl numbers (own_spares S h seat how sits) (StaysBound places))))
      (λ u w. places_altered seat.tvm seat.cpu how numbers places M.tvms u w);
}
  where
    places : (cpu : Cpu) → bound_file_in (how cpu).binding ≡ bound_file_in cpu.binding
    places cpu = ap bound_file_in (bound cpu)

    wrote : (p : ℕ) → Wrote S M p → Wrote S (on_seat seat how M) p
    wrote p (Left u e) = Left u e
    wrote p (Put place value u e) = Put place value u e

-- ---- instructions

stored_yet : (Calm : Type 0) (S : State) (h t addr word : ℕ) → Midway Calm S (guest_stored S t addr word) h
stored_yet Calm S h t addr word = go (mapping_of (tvm_at S t) (page_of addr))
  where
    under : (b : Backing) → Midway Calm S (stored_under S t addr word b) h
    under (OwnPage page words) = one_yet Calm S h t _ (λ tvm. (refl, refl)) (λ pages tvm. remaps Calm _ S pages h t tvm _ refl refl refl
        (Rewords (page_of addr) (λ ws. slice_set ws (word_place addr) word) refl (λ ws. length-set ws (word_place addr) word)))
    under (HostPage page) = record {
      framed = record { harts = refl; files = refl; key = refl; ended = refl; size = length_change (word_stored (word_place addr) word) page 1 S.pages };
      made = refl;
      seats = refl;
      wrote = λ p. ⊎_elim (λ e. Left refl e) (λ e. Put (word_place addr) word refl e) (change_cases (word_stored (word_place addr) word) page 1 S.pages p);
      one = λ pages. NoTvm refl;
    }

    go : (o : Option Mapping) → Midway Calm S (option_map_or (λ (m : Mapping). stored_under S t addr word m.backing) o S) h
    go None = nothing_yet Calm S h
    go (Some m) = under m.backing

idle : (Calm : Type 0) (S : State) (h : ℕ) → InsideChange Calm S S h
idle Calm S h = record { framed = framed S; seat = Stays refl; wrote = λ p. Left refl refl; tvms = Once refl (NoTvm refl) }

change_performed : (Calm : Type 0) (S : State) (h : ℕ) (seat : Seat) (deed : Deed) → S.seats h ≡ Some seat → InsideChange Calm S (performed S seat deed) h
change_performed Calm S h seat (Executes rd value pc file) sits = goes_on Calm S S h seat _ sits (λ cpu. refl) (λ cpu. refl) (nothing_yet Calm S h)
change_performed Calm S h seat (Loads addr size signed rd) sits = goes_on Calm S S h seat _ sits (λ cpu. refl) (λ cpu. refl) (nothing_yet Calm S h)
change_performed Calm S h seat (Writes addr size value) sits =
    let word = merged (guest_word S seat.tvm addr) addr size value in
    goes_on Calm S (guest_stored S seat.tvm addr word) h seat _ sits (λ cpu. refl) (λ cpu. refl) (stored_yet Calm S h seat.tvm addr word)
change_performed Calm S h seat Tires sits = idle Calm S h
change_performed Calm S h seat (Fetches addr) sits = idle Calm S h
change_performed Calm S h seat (Asks act) sits = idle Calm S h
change_performed Calm S h seat Waits sits = idle Calm S h
change_performed Calm S h seat (Traps cause) sits = idle Calm S h

-- ---- acts

-- an act that blocks mappings
abbrev pub blocks : GuestAct → Bool
blocks (acts.Share gpa len) = true
blocks (acts.Unshare gpa len) = true
blocks acts.Extend = false
blocks acts.Evidence = false
blocks (acts.Allow id) = false
blocks (acts.Deny id) = false
blocks acts.Other = false

blocking_yet : (Calm : Type 0) (S : State) (h t gpa n : ℕ) (shared : List ℕ) → (Calm → ⊥)
    → Midway Calm S (on_tvm t (λ tvm. record tvm { shared = shared; mappings = map (restand (is_among gpa n) (blocked_standing (without h (harts_inside S t)))) tvm.mappings }) S) h
blocking_yet Calm S h t gpa n shared restless =
    let others = without h (harts_inside S t) in
    one_yet Calm S h t _ (λ tvm. (refl, refl)) (λ pages tvm. remaps Calm _ S pages h t tvm _ refl refl refl
    (Restands (is_among gpa n) (blocked_standing others) refl restless (λ x here. blocked_follows x others here)
    (blocked_sound (harts_inside S t) others (λ k e. has_with h k (harts_inside S t) e))))

act_yet : (Calm : Type 0) (S : State) (h t a0 a1 : ℕ) (act : GuestAct) → (Calm → blocks act ≡ true → ⊥) → Midway Calm S (guest_rule S h t a0 a1 act).outcome.state h
act_yet Calm S h t a0 a1 (acts.Share gpa len) calm = blocking_yet Calm S h t gpa (len / 4096) _ (λ c. calm c refl)
act_yet Calm S h t a0 a1 (acts.Unshare gpa len) calm = blocking_yet Calm S h t gpa (len / 4096) _ (λ c. calm c refl)
act_yet Calm S h t a0 a1 acts.Extend calm = one_yet Calm S h t _ (λ tvm. (refl, refl)) (λ pages tvm. unread Calm _ S pages h t tvm _ refl refl refl refl)
act_yet Calm S h t a0 a1 acts.Evidence calm =
    let how = overwritten (word_place a1) (words_in (evidence_at S t a0)) in
    one_yet Calm S h t (with_words (page_of a1) how) (λ tvm. (refl, refl)) (λ pages tvm. remaps Calm _ S pages h t tvm _ refl refl refl
    (Rewords (page_of a1) how refl (overwritten_length (word_place a1) (words_in (evidence_at S t a0)))))
act_yet Calm S h t a0 a1 (acts.Allow id) calm = one_yet Calm S h t _ (λ tvm. (refl, refl)) (λ pages tvm. unread Calm _ S pages h t tvm _ refl refl refl refl)
act_yet Calm S h t a0 a1 (acts.Deny id) calm = one_yet Calm S h t _ (λ tvm. (refl, refl)) (λ pages tvm. unread Calm _ S pages h t tvm _ refl refl refl refl)
act_yet Calm S h t a0 a1 acts.Other calm = nothing_yet Calm S h

-- the rule of an act of the guest that a hart runs in a seat
abbrev pub act_rule : State → (h : ℕ) → Seat → GuestAct → Rule
act_rule S h seat act = guest_rule S h seat.tvm (register (cpu_of S seat).x 10) (register (cpu_of S seat).x 11) act

change_acted : (Calm : Type 0) (S : State) (h : ℕ) (seat : Seat) (act : GuestAct) → S.seats h ≡ Some seat → (Calm → blocks act ≡ true → refusal_by (act_rule S h seat act) ≡ None → ⊥)
    → InsideChange Calm S (acted S h seat act) h
change_acted Calm S h seat act sits calm = goes_on Calm S (state_after_rule S (act_rule S h seat act)) h seat _ sits (λ cpu. refl) (λ cpu. refl) (by (refusal_by (act_rule S h seat act)) refl)
  where
    by : (o : Option Reply) → refusal_by (act_rule S h seat act) ≡ o → Midway Calm S (state_by o S (act_rule S h seat act).outcome.state) h
    by None e = act_yet Calm S h seat.tvm (register (cpu_of S seat).x 10) (register (cpu_of S seat).x 11) act (λ c b. calm c b e)
    by (Some reply) e = nothing_yet Calm S h

-- ---- every event of a guest

-- an event that leaves to its hart what it may follow
abbrev pub IsCalm : State → (h : ℕ) → Seat → Event → Type 0
IsCalm S h seat (events.Guest act reply) = blocks act ≡ true → refusal_by (act_rule S h seat act) ≡ None → ⊥
IsCalm S h seat (events.Exit exit) = ⊥
IsCalm S h seat event = Unit {0}

apart_from : (h x : ℕ) (xs : List ℕ) → has x (without h xs) ≡ true → x ≡ h → ⊥
apart_from h x xs here is = true≢false (sym here ∙ ap (λ k. has k (without h xs)) is ∙ has_not h xs)

left_held : (h : ℕ) (inside : List ℕ) (s : Standing) → IsHeldWithin inside s → IsHeldWithin inside (left_standing h s)
left_held h inside Present held = tt
left_held h inside (Blocked list None) held = within_without h list inside held
left_held h inside (Blocked list (Some waiting)) held = within_both h list waiting held

pub change_guest : (Calm : Type 0) (S : State) (h : ℕ) (seat : Seat) (event : Event) → (Calm → IsCalm S h seat event) → S.seats h ≡ Some seat
    → InsideChange Calm S (guest_done S h seat event) h
change_guest Calm S h seat (events.Fetch how) calm sits = goes_on Calm S S h seat _ sits (λ cpu. refl) (λ cpu. refl) (nothing_yet Calm S h)
change_guest Calm S h seat events.Exec calm sits = change_performed Calm S h seat (deed_of (cpu_of S seat)) sits
change_guest Calm S h seat (events.Access how) calm sits = change_performed Calm S h seat (deed_of (cpu_of S seat)) sits
change_guest Calm S h seat (events.Guest act reply) calm sits = change_acted Calm S h seat act sits calm
change_guest Calm S h seat (events.Evidence quote) calm sits = change_acted Calm S h seat GuestAct.Evidence sits (λ c b. absurd (true≢false (sym b)))
change_guest Calm S h seat (events.Exit exit) calm sits = record {
  framed = record { harts = refl; files = refl; key = refl; ended = refl; size = refl };
  seat = GetsUp seat exit calm sits refl;
  wrote = λ p. Left refl refl;
  tvms = Once refl (Alters seat.tvm _ refl (λ tvm. (refl, refl)) (λ tvm. record {
    measures = Unmeasured refl refl;
    maps = Restands (λ g. true) (left_standing h) refl calm (λ x here. left_follows h x (apart_from h x (harts_inside S seat.tvm) here)) (left_held h (harts_inside S seat.tvm));
    cpus = Leaves seat.cpu exit refl (own_spares S h seat (stopped_by exit) sits);
  }));
}
change_guest Calm S h seat event calm sits = idle Calm S h

-- ---- every event

change_host : (S : State) (h : ℕ) (event : Event) → TvmsChange ⊥ S (host_done S h event) h
change_host S h (events.Call call reply) = by (refusal S h call) refl
  where
    by : (o : Option Reply) → refusal S h call ≡ o → TvmsChange ⊥ S (state_by o S (outcome_state S h call)) h
    by None e = change_call S h call (row_passed S h call e)
    by (Some other) e = stays S S h refl refl
change_host S h (events.Store addr value how) = stays S (host_done S h (events.Store addr value how)) h refl refl
change_host S h event = stays S S h refl refl

pub change_done : (S : State) (h : ℕ) (event : Event) → TvmsChange ⊥ S (done S h event) h
change_done S h event = go (S.seats h) refl
  where
    go : (o : Option Seat) → S.seats h ≡ o → TvmsChange ⊥ S (done_at S h o event) h
    go None e = change_host S h event
    go (Some seat) e = (change_guest ⊥ S h seat event (λ c. absurd c) e).tvms
