-- What a hart's translations name it may use, before and after each event.
use Rattle.std.proofs.Common.{◌≡◌, ℕ, zero, suc, ◌-◌, ◌<◌, Bool, true, false, cond, ◌&&◌, true≢false, List, [], ◌∷◌, ◌++◌, length, drop, Option, Some, None, unwrap_or, refl, sym, ap, subst, ◌∙◌, inl, inr, ◌⊎◌, ⊎_elim}
use Rattle.std.specs.List.{AllByRecursion}
use Rattle.std.specs.Option.{option_map_or}
use Rattle.std.proofs.lemmas.Bool.{and_parts}
use Rattle.std.proofs.lemmas.Option.{none-some}
use Rattle.cove_base.specs.Registers.{register}
use Rattle.cove_model.specs.Machine.{Success, ScriptValue, GuestAct, HostCall, Event, Hit, Walk, Reply, Target, may_use, page_at, word_stored, page_of, word_place, Seat, State, tvm_at, refusal, refusal_by, reply_to, state_by, guest_rule, Forgets, Keeps, ForgetsGuests, ForgetsAll, rule, is_own, mapping_of, may_follow, page_under, cpu_of, is_mapped_for, may_succeed, seat_mapping, IsSound, IsUsable, LeadsTo, Allows, acted, after_event, done, done_at, end_line, guest_done, host_done, line_ended, Came, Failed, Tlb, Touched, emptied_by, filled, forgets_at, forgets_by, forgets_inside, forgets_outside, pair_of, renewed, touched, where_accepted, with_target, with_touched, Mapping}
use Rattle.cove_base.specs.Rings.{ring_room}
use Rattle.cove_base.specs.Statuses.{is_success}
use Rattle.cove_base.specs.declared.calls.GuestAct.TheVariants as acts
use Rattle.cove_base.specs.declared.events.Event.TheVariants as events
use Rattle.cove_base.specs.declared.numbers.Gpn.{Gpn}
use Rattle.cove_base.specs.declared.walks.Target.TheVariants as target
use Rattle.cove_model.proofs.Runs.{change_cases}
use Rattle.cove_model.proofs.Answering.{guest_answer, host_answer}
use Rattle.cove_model.proofs.EventMoves.{moves, seat_other}
use Rattle.cove_model.proofs.GuestChanges.{IsCalm, act_rule, blocks, change_guest, seats_after}
use Rattle.cove_model.proofs.Fairness.{IsFair, fair}
use Rattle.cove_model.proofs.Keeping.{Keeps as KeepsTvm, keeps_same}
use Rattle.cove_model.proofs.KeepingCalls.{keeps_done, keeps_tvms}
use Rattle.cove_model.proofs.Lists.{all_append, all_weaker}
use Rattle.cove_model.proofs.Moves.{outcome_state}
use Rattle.cove_model.proofs.UsingPages.{Spares, use_call, use_move, use_stored, use_wrote}

-- ---- lists of translations

all_drop : {X : Type 0} (P : X → Type 0) (n : ℕ) (xs : List X) → AllByRecursion P xs → AllByRecursion P (drop n xs)
all_drop {X} P zero xs all = all
all_drop {X} P (suc n) [] all = tt
all_drop {X} P (suc n) (x ∷ xs) all = all_drop P n xs all.1

pub all_filled : {X : Type 0} (P : X → Type 0) (xs : List X) (x : X) → AllByRecursion P xs → P x → AllByRecursion P (filled xs x)
all_filled {X} P xs x all here = all_drop P (length (xs ++ x ∷ []) - ring_room) (xs ++ x ∷ []) (all_append P xs (x ∷ []) all (here, tt))

-- ---- what may succeed leads

-- a mapping of the hart's TVM that passes a test
pub record IsMapped (S : State) (h g : ℕ) (test : Mapping → Bool) : Type 0 where
  pub seat : Seat
  pub sits : S.seats h ≡ Some seat
  pub mapping : Mapping
  pub found : mapping_of (tvm_at S seat.tvm) g ≡ Some mapping
  pub passes : test mapping ≡ true

pub is_mapped : (S : State) (h g : ℕ) (test : Mapping → Bool) → is_mapped_for S h g test ≡ true → IsMapped S h g test
is_mapped S h g test e = go (S.seats h) refl e
  where
    inner : (seat : Seat) → S.seats h ≡ Some seat → (o : Option Mapping) → mapping_of (tvm_at S seat.tvm) g ≡ o → option_map_or test o false ≡ true → IsMapped S h g test
    inner seat s None f q = absurd (true≢false (sym q))
    inner seat s (Some m) f q = record { seat = seat; sits = s; mapping = m; found = f; passes = q }

    go : (o : Option Seat) → S.seats h ≡ o → option_map_or (λ seat. option_map_or test (seat_mapping S g seat) false) o false ≡ true → IsMapped S h g test
    go None s q = absurd (true≢false (sym q))
    go (Some seat) s q = inner seat s (mapping_of (tvm_at S seat.tvm) g) refl q

-- its page is that of the pair
pair_page : (S : State) (h g : ℕ) (seat : Seat) (m : Mapping) → S.seats h ≡ Some seat → mapping_of (tvm_at S seat.tvm) g ≡ Some m → page_under m.backing ≡ (pair_of S h g).1
pair_page S h g seat m sits found =
    sym (ap (λ o. option_map_or (λ (s : Seat). option_map_or (λ (k : Mapping). page_under k.backing) (seat_mapping S g s) 0) o 0) sits
    ∙ ap (λ o. option_map_or (λ (k : Mapping). page_under k.backing) o 0) found)

leads_fetch : (S : State) (h : ℕ) (g : Gpn) → may_succeed S h (target.Fetch g) ≡ true → LeadsTo S h true (pair_of S h g.0).0 (pair_of S h g.0).1
leads_fetch S h g e =
    let m = is_mapped S h g.0 (λ k. is_own k.backing && may_follow h k.standing) e in
    let parts = and_parts (is_own m.mapping.backing) (may_follow h m.mapping.standing) m.passes in
    record { seat = m.seat; sits = m.sits; mapping = m.mapping; found = m.found; kind = parts.0; shows = pair_page S h g.0 m.seat m.mapping m.sits m.found; follows = parts.1 }

leads_access : (S : State) (h : ℕ) (g : Gpn) → may_succeed S h (target.Access g) ≡ true → (own : Bool) × LeadsTo S h own (pair_of S h g.0).0 (pair_of S h g.0).1
leads_access S h g e =
    let m = is_mapped S h g.0 (λ k. may_follow h k.standing) e in (
      is_own m.mapping.backing,
      record { seat = m.seat; sits = m.sits; mapping = m.mapping; found = m.found; kind = refl; shows = pair_page S h g.0 m.seat m.mapping m.sits m.found; follows = m.passes },
    )

-- ---- before the event: what was held, and what it came to

usable_target : (S : State) (h : ℕ) (held : Tlb) (sought : Target) → may_succeed S h sought ≡ true → IsUsable S h held → IsUsable S h (with_target S h sought held)
usable_target S h held (target.Host p) e usable = record {
  pages = all_filled (λ q. may_use h (page_at S.pages q) ≡ true) held.pages p.0 usable.pages e;
  fetches = usable.fetches;
  accesses = usable.accesses;
}
usable_target S h held (target.Fetch g) e usable = record {
  pages = usable.pages;
  fetches = all_filled (λ (pair : ℕ × ℕ). LeadsTo S h true pair.0 pair.1) held.fetches (pair_of S h g.0) usable.fetches (leads_fetch S h g e);
  accesses = usable.accesses;
}
usable_target S h held (target.Access g) e usable = record {
  pages = usable.pages;
  fetches = usable.fetches;
  accesses = all_filled (λ (pair : ℕ × ℕ). (own : Bool) × LeadsTo S h own pair.0 pair.1) held.accesses (pair_of S h g.0) usable.accesses (leads_access S h g e);
}

usable_touched : (S : State) (h : ℕ) (held : Tlb) (t : Touched) → IsFair S h t → IsUsable S h held → IsUsable S h (with_touched S h t held)
usable_touched S h held None is usable = usable
usable_touched S h held (Some (sought, Came Hit)) is usable = usable
usable_touched S h held (Some (sought, Came Walk)) is usable = usable_target S h held sought is usable
usable_touched S h held (Some (sought, Failed)) is usable = usable

usable_emptied : (S : State) (h : ℕ) (held : Tlb) (forgets : Forgets) → IsUsable S h held → IsUsable S h (emptied_by forgets held)
usable_emptied S h held Keeps usable = usable
usable_emptied S h held ForgetsGuests usable = record { pages = usable.pages; fetches = tt; accesses = tt }
usable_emptied S h held ForgetsAll usable = record { pages = tt; fetches = tt; accesses = tt }

-- what is held after an allowed event could be used before it
pub usable_before : (script : ScriptValue) (S : State) (h : ℕ) (held : Tlb) (event : Event) → Allows script S h event → IsUsable S h held → IsUsable S h (renewed S h held event)
usable_before script S h held event allows usable =
    usable_emptied S h (with_touched S h (touched S h event) held) (forgets_by S h event) (usable_touched S h held (touched S h event) (fair script S h event allows) usable)

-- ---- from one state to another

-- what leads goes on leading where the seat stays and the mappings of its TVM are kept
pub leads_kept : (S T : State) (h : ℕ) (own : Bool) (g p : ℕ) → T.seats h ≡ S.seats h
    → ((seat : Seat) → S.seats h ≡ Some seat → KeepsTvm h (tvm_at S seat.tvm) (tvm_at T seat.tvm)) → LeadsTo S h own g p → LeadsTo T h own g p
leads_kept S T h own g p seats keeps leads =
    let k = keeps leads.seat leads.sits g leads.mapping leads.found leads.follows in
    record {
      seat = leads.seat;
      sits = seats ∙ leads.sits;
      mapping = k.0;
      found = k.1;
      kind = k.2.kind ∙ leads.kind;
      shows = k.2.shows ∙ leads.shows;
      follows = k.2.follows leads.follows;
    }

pub usable_kept : (S T : State) (h : ℕ) (held : Tlb) → ((p : ℕ) → may_use h (page_at S.pages p) ≡ true → may_use h (page_at T.pages p) ≡ true) → T.seats h ≡ S.seats h
    → ((seat : Seat) → S.seats h ≡ Some seat → KeepsTvm h (tvm_at S seat.tvm) (tvm_at T seat.tvm)) → IsUsable S h held → IsUsable T h held
usable_kept S T h held pages seats keeps usable = record {
  pages = all_weaker (λ p. may_use h (page_at S.pages p) ≡ true) (λ p. may_use h (page_at T.pages p) ≡ true) pages held.pages usable.pages;
  fetches = all_weaker (λ (pair : ℕ × ℕ). LeadsTo S h true pair.0 pair.1) (λ (pair : ℕ × ℕ). LeadsTo T h true pair.0 pair.1)
      (λ pair leads. leads_kept S T h true pair.0 pair.1 seats keeps leads) held.fetches usable.fetches;
  accesses = all_weaker (λ (pair : ℕ × ℕ). (own : Bool) × LeadsTo S h own pair.0 pair.1) (λ (pair : ℕ × ℕ). (own : Bool) × LeadsTo T h own pair.0 pair.1)
      (λ pair leads. (leads.0, leads_kept S T h leads.0 pair.0 pair.1 seats keeps leads.1)) held.accesses usable.accesses;
}

-- outside TVMs no guest page leads anywhere
usable_outside : (S T : State) (h : ℕ) (held : Tlb) → S.seats h ≡ None → ((p : ℕ) → may_use h (page_at S.pages p) ≡ true → may_use h (page_at T.pages p) ≡ true)
    → IsUsable S h held → IsUsable T h held
usable_outside S T h held outside pages usable = record {
  pages = all_weaker (λ p. may_use h (page_at S.pages p) ≡ true) (λ p. may_use h (page_at T.pages p) ≡ true) pages held.pages usable.pages;
  fetches = all_weaker (λ (pair : ℕ × ℕ). LeadsTo S h true pair.0 pair.1) (λ (pair : ℕ × ℕ). LeadsTo T h true pair.0 pair.1) (λ pair leads. absurd (apart leads)) held.fetches usable.fetches;
  accesses = all_weaker (λ (pair : ℕ × ℕ). (own : Bool) × LeadsTo S h own pair.0 pair.1) (λ (pair : ℕ × ℕ). (own : Bool) × LeadsTo T h own pair.0 pair.1) (λ pair leads. absurd (apart leads.1)) held.accesses usable.accesses;
}
  where
    apart : {own : Bool} {g p : ℕ} → LeadsTo S h own g p → ⊥
    apart leads = none-some leads.seat (sym outside ∙ leads.sits)

usable_pages : (S T : State) (h : ℕ) (held : Tlb) → ((p : ℕ) → may_use h (page_at S.pages p) ≡ true → may_use h (page_at T.pages p) ≡ true)
    → IsUsable S h held → IsUsable T h (emptied_by ForgetsGuests held)
usable_pages S T h held pages usable = record {
  pages = all_weaker (λ p. may_use h (page_at S.pages p) ≡ true) (λ p. may_use h (page_at T.pages p) ≡ true) pages held.pages usable.pages;
  fetches = tt;
  accesses = tt;
}

-- ---- a call of the hart's own

usable_accepted : (S : State) (h : ℕ) (call : HostCall) (held : Tlb) → h < S.harts → S.seats h ≡ None → IsUsable S h held
    → (f : Forgets) → (rule S h call).forgets ≡ f → IsUsable (outcome_state S h call) h (emptied_by f held)
usable_accepted S h call held lt outside usable Keeps e =
    usable_outside S (outcome_state S h call) h held outside (λ p q. use_call S h call p (subst Spares (sym e) tt) lt q) usable
usable_accepted S h call held lt outside usable ForgetsGuests e =
    usable_pages S (outcome_state S h call) h held (λ p q. use_call S h call p (subst Spares (sym e) tt) lt q) usable
usable_accepted S h call held lt outside usable ForgetsAll e = record { pages = tt; fetches = tt; accesses = tt }

usable_call : (S : State) (h : ℕ) (call : HostCall) (held : Tlb) → h < S.harts → S.seats h ≡ None → IsUsable S h held → (o : Option Reply) → refusal S h call ≡ o
    → IsUsable (state_by o S (outcome_state S h call)) h (emptied_by (where_accepted (reply_to S h call) (rule S h call).forgets) held)
usable_call S h call held lt outside usable None e =
    let success : is_success (reply_to S h call).status ≡ true = ap (λ o. is_success (unwrap_or {T = Reply} o (record { status = Success; value = (rule S h call).outcome.value })).status) e in
    let f = (rule S h call).forgets in
    subst (λ b. IsUsable (outcome_state S h call) h (emptied_by (cond b f Keeps) held)) (sym success) (usable_accepted S h call held lt outside usable f refl)
usable_call S h call held lt outside usable (Some reply) e = usable_emptied S h held (where_accepted (reply_to S h call) (rule S h call).forgets) usable

-- ---- an event of the hart's own

usable_host : (script : ScriptValue) (S : State) (h : ℕ) (held : Tlb) (event : Event) → Allows script S h event → h < S.harts → S.seats h ≡ None → IsUsable S h held
    → IsUsable (host_done S h event) h (emptied_by (forgets_outside S h event) held)
usable_host script S h held (events.Call call reply) allows lt outside usable =
    subst (λ (r : Reply). IsUsable (host_done S h (events.Call call reply)) h (emptied_by (where_accepted r (rule S h call).forgets) held)) (sym (host_answer script S h call reply allows outside))
    (usable_call S h call held lt outside usable (refusal S h call) refl)
usable_host script S h held (events.Store addr value how) allows lt outside usable =
    usable_outside S (host_done S h (events.Store addr value how)) h held outside
    (λ p e. ⊎_elim (λ q. ap (may_use h) q ∙ e) (λ q. ap (may_use h) q ∙ use_stored h (word_place addr) value (page_at S.pages p) e)
    (change_cases (word_stored (word_place addr) value) (page_of addr) 1 S.pages p)) usable
usable_host script S h held _ allows lt outside usable = usable

-- an event of the hart's own, inside: its seat and the mappings that it may follow stay, or the translations of guests go
pub data OwnKeeps (S T : State) (h : ℕ) (forgets : Forgets) : Type 0 where
  KeepsAll : T.seats h ≡ S.seats h → ((seat : Seat) → S.seats h ≡ Some seat → KeepsTvm h (tvm_at S seat.tvm) (tvm_at T seat.tvm)) → OwnKeeps S T h forgets
  Empties : forgets ≡ ForgetsGuests → OwnKeeps S T h forgets

forgets_blocking : (S : State) (h t a0 a1 : ℕ) (a : GuestAct) → blocks a ≡ true → (guest_rule S h t a0 a1 a).forgets ≡ ForgetsGuests
forgets_blocking S h t a0 a1 (acts.Share gpa len) b = refl
forgets_blocking S h t a0 a1 (acts.Unshare gpa len) b = refl
forgets_blocking S h t a0 a1 acts.Extend b = absurd (true≢false (sym b))
forgets_blocking S h t a0 a1 acts.Evidence b = absurd (true≢false (sym b))
forgets_blocking S h t a0 a1 (acts.Allow id) b = absurd (true≢false (sym b))
forgets_blocking S h t a0 a1 (acts.Deny id) b = absurd (true≢false (sym b))
forgets_blocking S h t a0 a1 acts.Other b = absurd (true≢false (sym b))

-- a calm event keeps all
calm_keeps : (S : State) (h : ℕ) (seat : Seat) (event : Event) (forgets : Forgets) → IsCalm S h seat event → S.seats h ≡ Some seat → OwnKeeps S (guest_done S h seat event) h forgets
calm_keeps S h seat event forgets calm sits =
    let c = change_guest (IsCalm S h seat event) S h seat event (λ e. e) sits in
    KeepsAll (⊎_elim (λ e. ap (λ f. f h) e) (λ q. absurd (q.0 calm)) (seats_after (IsCalm S h seat event) S (guest_done S h seat event) h c.seat))
    (λ s q. keeps_tvms (IsCalm S h seat event) S (guest_done S h seat event) h h s.tvm (inl calm) c.tvms)

act_keeps : (script : ScriptValue) (S : State) (h : ℕ) (seat : Seat) (act : GuestAct) (reply : Reply) → Allows script S h (events.Guest act reply) → S.seats h ≡ Some seat
    → OwnKeeps S (acted S h seat act) h (forgets_inside S h seat (events.Guest act reply))
act_keeps script S h seat act reply allows sits = go (blocks act) refl (refusal_by (act_rule S h seat act)) refl
  where
    kept : IsCalm S h seat (events.Guest act reply) → OwnKeeps S (acted S h seat act) h (forgets_inside S h seat (events.Guest act reply))
    kept calm = calm_keeps S h seat (events.Guest act reply) (forgets_inside S h seat (events.Guest act reply)) calm sits

    go : (b : Bool) → blocks act ≡ b → (o : Option Reply) → refusal_by (act_rule S h seat act) ≡ o → OwnKeeps S (acted S h seat act) h (forgets_inside S h seat (events.Guest act reply))
    go false b o e = kept (λ t q. true≢false (sym t ∙ b))
    go true b (Some r) e = kept (λ t q. none-some r (sym q ∙ e))
    go true b None e =
        let r = act_rule S h seat act in
        let success : is_success reply.status ≡ true =
        ap (λ (x : Reply). is_success x.status) (guest_answer script S h seat act reply allows sits)
        ∙ ap (λ o. is_success (unwrap_or {T = Reply} o (record { status = Success; value = r.outcome.value })).status) e in
        Empties (ap (λ c. cond c r.forgets Keeps) success ∙ forgets_blocking S h seat.tvm (register (cpu_of S seat).x 10) (register (cpu_of S seat).x 11) act b)

pub guest_keeps : (script : ScriptValue) (S : State) (h : ℕ) (seat : Seat) (event : Event) → Allows script S h event → S.seats h ≡ Some seat
    → OwnKeeps S (guest_done S h seat event) h (forgets_inside S h seat event)
guest_keeps script S h seat (events.Guest act reply) allows sits = act_keeps script S h seat act reply allows sits
guest_keeps script S h seat (events.Exit exit) allows sits = Empties refl
guest_keeps script S h seat event allows sits = calm_keeps S h seat event (forgets_inside S h seat event) tt sits

usable_guest : (script : ScriptValue) (S : State) (h : ℕ) (seat : Seat) (held : Tlb) (event : Event) → Allows script S h event → S.seats h ≡ Some seat → IsUsable S h held
    → IsUsable (guest_done S h seat event) h (emptied_by (forgets_inside S h seat event) held)
usable_guest script S h seat held event allows sits usable = go (guest_keeps script S h seat event allows sits)
  where
    pages : (p : ℕ) → may_use h (page_at S.pages p) ≡ true → may_use h (page_at (guest_done S h seat event).pages p) ≡ true
    pages p e = use_wrote S (guest_done S h seat event) h p ((change_guest ⊥ S h seat event (λ c. absurd c) sits).wrote p) e

    go : OwnKeeps S (guest_done S h seat event) h (forgets_inside S h seat event) → IsUsable (guest_done S h seat event) h (emptied_by (forgets_inside S h seat event) held)
    go (KeepsAll seats keeps) = usable_emptied (guest_done S h seat event) h held (forgets_inside S h seat event) (usable_kept S (guest_done S h seat event) h held pages seats keeps usable)
    go (Empties e) = subst (λ f. IsUsable (guest_done S h seat event) h (emptied_by f held)) (sym e) (usable_pages S (guest_done S h seat event) h held pages usable)

usable_done : (script : ScriptValue) (S : State) (h : ℕ) (held : Tlb) (event : Event) → Allows script S h event → h < S.harts → IsUsable S h held
    → IsUsable (done S h event) h (emptied_by (forgets_by S h event) held)
usable_done script S h held event allows lt usable = go (S.seats h) refl
  where
    go : (o : Option Seat) → S.seats h ≡ o → IsUsable (done_at S h o event) h (emptied_by (forgets_at S h o event) held)
    go None e = usable_host script S h held event allows lt e usable
    go (Some seat) e = usable_guest script S h seat held event allows e usable

usable_line : (h k : ℕ) (o : Option Seat) (S : State) (held : Tlb) → IsUsable S k held → IsUsable (line_ended h o S) k held
usable_line h k None S held usable =
    usable_kept S (end_line h S) k held (λ p e. e) refl (λ s q. keeps_same k (tvm_at S s.tvm) (tvm_at S s.tvm) refl) usable
usable_line h k (Some seat) S held usable = usable

-- what a hart holds after an event of its own it may use
pub usable_own : (script : ScriptValue) (S : State) (h : ℕ) (held : Tlb) (event : Event) → Allows script S h event → h < S.harts → IsUsable S h held
    → IsUsable (after_event S h event) h (renewed S h held event)
usable_own script S h held event allows lt usable =
    usable_line h h ((done S h event).seats h) (done S h event) (renewed S h held event)
    (usable_done script S h (with_touched S h (touched S h event) held) event allows lt (usable_touched S h held (touched S h event) (fair script S h event allows) usable))

-- and what it holds it may use after an event of another hart
pub usable_other : (S : State) (h k : ℕ) (held : Tlb) (event : Event) → IsSound S → h < S.harts → (h ≡ k → ⊥) → IsUsable S h held → IsUsable (after_event S k event) h held
usable_other S h k held event sound lt ne usable =
    usable_line k h ((done S k event).seats k) (done S k event) held
    (usable_kept S (done S k event) h held
    (λ p e. use_move S (done S k event) k h (page_at S.pages p) (page_at (done S k event).pages p) (moves S k event p) (sound.pages_sound p) lt ne e)
    (seat_other S k h event ne)
    (λ seat sits. keeps_done S h seat k event sound (record { on_board = lt; sits = sits }) ne) usable)

-- the end of a line leaves what leads
pub leads_line : (h k : ℕ) (o : Option Seat) (S : State) (own : Bool) (g p : ℕ) → LeadsTo S k own g p → LeadsTo (line_ended h o S) k own g p
leads_line h k None S own g p leads = record { seat = leads.seat; sits = leads.sits; mapping = leads.mapping; found = leads.found; kind = leads.kind; shows = leads.shows; follows = leads.follows }
leads_line h k (Some seat) S own g p leads = leads

-- what led before an event leads after it, in the same TVM
pub record LeadsOn (S T : State) (h : ℕ) (own : Bool) (g p : ℕ) (leads : LeadsTo S h own g p) : Type 0 where
  pub later : LeadsTo T h own g p
  pub same : later.seat.tvm ≡ leads.seat.tvm

pub leads_on : (S T : State) (k : ℕ) (o : Option Seat) (h : ℕ) (own : Bool) (g p : ℕ) → T.seats h ≡ S.seats h
    → ((seat : Seat) → S.seats h ≡ Some seat → KeepsTvm h (tvm_at S seat.tvm) (tvm_at T seat.tvm)) → (leads : LeadsTo S h own g p) → LeadsOn S (line_ended k o T) h own g p leads
unfolding leads_line leads_kept
leads_on S T k None h own g p seats keeps leads = let l = leads_kept S T h own g p seats keeps leads in record { later = leads_line k h None T own g p l; same = refl }
leads_on S T k (Some seat) h own g p seats keeps leads = record { later = leads_kept S T h own g p seats keeps leads; same = refl }

-- an entry of a hart: each pair that it holds afterwards leads on, where it led before
pub leads_own : (script : ScriptValue) (S : State) (h : ℕ) (held : Tlb) (event : Event) → Allows script S h event
    → ((own : Bool) (g p : ℕ) (leads : LeadsTo S h own g p) → LeadsOn S (after_event S h event) h own g p leads) ⊎ (((renewed S h held event).fetches ≡ []) × ((renewed S h held event).accesses ≡ []))
leads_own script S h held event allows = go (S.seats h) refl (done S h event) refl (forgets_by S h event) refl
  where
    none : (f : Forgets) (t : Tlb) → f ≡ ForgetsGuests → ((emptied_by f t).fetches ≡ []) × ((emptied_by f t).accesses ≡ [])
    none f t e = (ap (λ x. (emptied_by x t).fetches) e, ap (λ x. (emptied_by x t).accesses) e)

    inside : (seat : Seat) → S.seats h ≡ Some seat → (T : State) → guest_done S h seat event ≡ T → (f : Forgets) → forgets_inside S h seat event ≡ f → OwnKeeps S (guest_done S h seat event) h (forgets_inside S h seat event)
        → ((own : Bool) (g p : ℕ) (leads : LeadsTo S h own g p) → LeadsOn S (line_ended h (T.seats h) T) h own g p leads)
        ⊎ (((emptied_by f (with_touched S h (touched S h event) held)).fetches ≡ []) × ((emptied_by f (with_touched S h (touched S h event) held)).accesses ≡ []))
    inside seat sits T is f fs (KeepsAll seats keeps) =
        let Q : State → Type 0 = λ U. (own : Bool) (g p : ℕ) (leads : LeadsTo S h own g p) → LeadsOn S (line_ended h (U.seats h) U) h own g p leads in
        inl (subst Q is (λ own g p leads. leads_on S (guest_done S h seat event) h ((guest_done S h seat event).seats h) h own g p seats keeps leads))
    inside seat sits T is f fs (Empties e) = inr (none f (with_touched S h (touched S h event) held) (sym fs ∙ e))

    go : (o : Option Seat) → S.seats h ≡ o → (T : State) → done_at S h o event ≡ T → (f : Forgets) → forgets_at S h o event ≡ f
        → ((own : Bool) (g p : ℕ) (leads : LeadsTo S h own g p) → LeadsOn S (line_ended h (T.seats h) T) h own g p leads)
        ⊎ (((emptied_by f (with_touched S h (touched S h event) held)).fetches ≡ []) × ((emptied_by f (with_touched S h (touched S h event) held)).accesses ≡ []))
    go None outside T is f fs = inl (λ own g p leads. absurd (none-some leads.seat (sym outside ∙ leads.sits)))
    go (Some seat) sits T is f fs = inside seat sits T is f fs (guest_keeps script S h seat event allows sits)
