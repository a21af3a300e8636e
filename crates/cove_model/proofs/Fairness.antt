-- What a hart's event looked for is what it was offered: a success may be, and a fault did not find it.
use Rattle.std.proofs.Common.{◌≡◌, ℕ, ◌*◌, ◌≤◌, Bool, true, false, cond, eqb, nat_lt, Option, Some, None, refl, sym, ap, subst, ◌∙◌, inl, inr, ◌⊎◌, arith, ltb-false, true≢false}
use Rattle.std.specs.Option.{option_map_or}
use Rattle.std.specs.Prelude.{is_some}
use Rattle.std.proofs.lemmas.Bool.{le-ltb}
use Rattle.cove_base.specs.Executions.{plan}
use Rattle.cove_model.specs.Machine.{next_line, ScriptValue, GuestAct, Event, How, Line, ScriptLine, Reply, Target, has, page_of, Seat, State, ended_by, guests_in, refusal_by, reply_by, Deed, Tires, Fetches, Executes, Loads, Stores, Asks, Waits, Traps, csr_deed, deed_of, deed_with, is_woken, next_place, planned, guest_rule, Single, Touch, access_target, act_event, cpu_of, deed_offer, fault_exit, fetch_target, first_behind, guest_touch, is_found, kicked_offer, line_offer, may_succeed, outside_offer, unkicked_offer, unless_behind, Allows, Takes, Came, Failed, Touched, data_address, guest_touched, host_touched, missed, touched, touched_at, Cpu}
use Rattle.cove_base.specs.Instructions.{decoded}
use Rattle.cove_base.specs.Registers.{register}
use Rattle.cove_base.specs.declared.calls.GuestAct.TheVariants as acts
use Rattle.cove_base.specs.declared.instructions.Insn.{Insn}
use Rattle.cove_base.specs.declared.plans.Plan.{Plan}
use Rattle.cove_base.specs.declared.plans.Plan.TheVariants as plans
use Rattle.cove_base.specs.declared.scripts.Line.TheVariants as lines
use Rattle.cove_base.specs.InterruptFiles.{csr_read}

-- a success may be, and a fault did not find its target
abbrev pub IsFair : State → (h : ℕ) → Touched → Type 0
IsFair S h None = Unit {0}
IsFair S h (Some (target, Came how)) = may_succeed S h target ≡ true
IsFair S h (Some (target, Failed)) = is_found S h target ≡ false

-- ---- outside TVMs

fair_line : (S : State) (h : ℕ) (line : Line) (event : Event) → Takes S h (line_offer S h line) event → IsFair S h (host_touched event)
fair_line S h (lines.Call call) event takes = subst (λ e. IsFair S h (host_touched e)) (sym takes) tt
fair_line S h (lines.Load addr) event (inl takes) = subst (λ e. IsFair S h (host_touched e)) (sym takes.1) takes.2
fair_line S h (lines.Load addr) event (inr takes) = subst (λ e. IsFair S h (host_touched e)) (sym takes.0) takes.1
fair_line S h (lines.Store addr value) event (inl takes) = subst (λ e. IsFair S h (host_touched e)) (sym takes.1) takes.2
fair_line S h (lines.Store addr value) event (inr takes) = subst (λ e. IsFair S h (host_touched e)) (sym takes.0) takes.1

fair_behind : (S : State) (h : ℕ) (o : Option ℕ) (line : Line) (event : Event) → Takes S h (unless_behind o (line_offer S h line)) event → IsFair S h (host_touched event)
fair_behind S h None line event takes = fair_line S h line event takes
fair_behind S h (Some k) line event takes = absurd takes

fair_outside : (script : ScriptValue) (S : State) (h : ℕ) (o : Option ScriptLine) (event : Event) → Takes S h (outside_offer script S h o) event → IsFair S h (host_touched event)
fair_outside script S h None event takes = absurd takes
fair_outside script S h (Some line) event takes = fair_behind S h (first_behind script S line.phase) line.line event takes

-- ---- inside a TVM

-- a vCPU fetches at its place
planned_apart : (cpu : Cpu) (p : Plan) (addr : ℕ) → planned cpu p ≡ Fetches addr → ⊥
planned_apart cpu (plans.Done rd value pc) addr e = cc
planned_apart cpu (plans.Load a size signed rd) addr e = cc
planned_apart cpu (plans.Store a size value) addr e = cc
planned_apart cpu (plans.Csr csr mode source writes rd) addr e = go (cond (is_some cpu.binding) (csr_read cpu.file csr) None) e
  where
    go : (o : Option ℕ) → csr_deed cpu csr mode source writes rd o ≡ Fetches addr → ⊥
    go None q = cc
    go (Some old) q = cc
planned_apart cpu plans.Ecall addr e = cc
planned_apart cpu (plans.Trap cause) addr e = cc
planned_apart cpu plans.Wfi addr e = go (is_woken cpu) e
  where
    go : (b : Bool) → cond b (Executes 0 0 (next_place cpu.pc) cpu.file) Waits ≡ Fetches addr → ⊥
    go true q = cc
    go false q = cc

pub deed_place : (cpu : Cpu) (addr : ℕ) → deed_of cpu ≡ Fetches addr → addr ≡ cpu.pc
deed_place cpu addr e = latched cpu.latched e
  where
    tired : (b : Bool) → cond b Tires (Fetches cpu.pc) ≡ Fetches addr → addr ≡ cpu.pc
    tired true q = absurd (other q)
      where
        other : Tires ≡ Fetches addr → ⊥
        other r = cc
    tired false q = same q
      where
        same : Fetches cpu.pc ≡ Fetches addr → addr ≡ cpu.pc
        same r = cc

    known : (o : Option Insn) → option_map_or (λ insn. planned cpu (plan cpu.x cpu.pc insn)) o (Traps 2) ≡ Fetches addr → addr ≡ cpu.pc
    known None q = absurd (other q)
      where
        other : Traps 2 ≡ Fetches addr → ⊥
        other r = cc
    known (Some insn) q = absurd (planned_apart cpu (plan cpu.x cpu.pc insn) addr q)

    latched : (o : Option ℕ) → deed_with cpu o ≡ Fetches addr → addr ≡ cpu.pc
    latched None q = tired (eqb cpu.fuel 0) q
    latched (Some word) q = known (decoded word) q

-- a fault below the limit of guest addresses looked for its page, and one past it for none
fair_missed : (S : State) (h guests cause addr : ℕ) (sought : Target) → cond (eqb cause 20) (fetch_target addr) (access_target addr) ≡ sought
    → (nat_lt addr (4096 * guests) ≡ false) ⊎ (is_found S h sought ≡ false) → IsFair S h (missed guests cause (record { 0 = page_of addr }))
fair_missed S h guests cause addr sought is why = go (nat_lt (page_of addr) guests) refl why
  where
    go : (b : Bool) → nat_lt (page_of addr) guests ≡ b → (nat_lt addr (4096 * guests) ≡ false) ⊎ (is_found S h sought ≡ false)
        → IsFair S h (cond b (Some (cond (eqb cause 20) (fetch_target addr) (access_target addr), Failed)) None)
    go false e w = tt
    go true e (inr absent) = ap (is_found S h) is ∙ absent
    go true e (inl past) =
        let high : 4096 * guests ≤ addr = ltb-false addr (4096 * guests) past in
        let low : nat_lt (page_of addr) guests ≡ false = le-ltb (page_of addr) guests (omega arith) in
        absurd (true≢false (sym e ∙ low))

fair_exit : (S : State) (h : ℕ) (seat : Seat) (cause addr : ℕ) (sought : Target) → cond (eqb cause 20) (fetch_target addr) (access_target addr) ≡ sought
    → (nat_lt addr (4096 * guests_in S seat.tvm) ≡ false) ⊎ (is_found S h sought ≡ false) → (event : Event) → event ≡ fault_exit cause addr → IsFair S h (guest_touched S seat event)
fair_exit S h seat cause addr sought is why event e = subst (λ x. IsFair S h (guest_touched S seat x)) (sym e) (fair_missed S h (guests_in S seat.tvm) cause addr sought is why)

fair_touch : (S : State) (h : ℕ) (seat : Seat) (sought : Target) (success : How → Event) (cause addr : ℕ)
    → ((how : How) → guest_touched S seat (success how) ≡ Some (sought, Came how))
    → cond (eqb cause 20) (fetch_target addr) (access_target addr) ≡ sought
    → (event : Event) → Takes S h (guest_touch (guests_in S seat.tvm) sought success cause addr) event → IsFair S h (guest_touched S seat event)
fair_touch S h seat sought success cause addr comes is event takes = go (nat_lt addr (4096 * guests_in S seat.tvm)) refl takes
  where
    go : (b : Bool) → nat_lt addr (4096 * guests_in S seat.tvm) ≡ b → Takes S h (cond b (Touch sought success (fault_exit cause addr)) (Single (fault_exit cause addr))) event → IsFair S h (guest_touched S seat event)
    go true e (inl t) = subst (λ x. IsFair S h (guest_touched S seat x)) (sym t.1) (subst (IsFair S h) (sym (comes t.0)) t.2)
    go true e (inr t) = fair_exit S h seat cause addr sought is (inr t.1) event t.0
    go false e t = fair_exit S h seat cause addr sought is (inl e) event t

fair_act : (S : State) (h : ℕ) (seat : Seat) (t nonce : ℕ) (act : GuestAct) (refused : Option Reply) (reply : Reply) → IsFair S h (guest_touched S seat (act_event S t nonce act refused reply))
fair_act S h seat t nonce acts.Evidence None reply = tt
fair_act S h seat t nonce acts.Evidence (Some r) reply = tt
fair_act S h seat t nonce (acts.Share gpa len) refused reply = tt
fair_act S h seat t nonce _ refused reply = tt

fair_deed : (S : State) (h : ℕ) (seat : Seat) (deed : Deed) → deed_of (cpu_of S seat) ≡ deed → (event : Event) → Takes S h (deed_offer S h seat deed) event → IsFair S h (guest_touched S seat event)
fair_deed S h seat Tires is event takes = subst (λ x. IsFair S h (guest_touched S seat x)) (sym takes) tt
fair_deed S h seat (Fetches addr) is event takes =
    fair_touch S h seat (fetch_target addr) (λ how. Event.Fetch how) 20 addr
    (λ how. ap (λ a. Some (fetch_target a, Came how)) (sym (deed_place (cpu_of S seat) addr is))) refl event takes
fair_deed S h seat (Executes rd value pc file) is event takes = subst (λ x. IsFair S h (guest_touched S seat x)) (sym takes) tt
fair_deed S h seat (Loads addr size signed rd) is event takes =
    fair_touch S h seat (access_target addr) (λ how. Event.Access how) 21 addr (λ how. ap (λ d. Some (access_target (data_address d), Came how)) is) refl event takes
fair_deed S h seat (Stores addr size value) is event takes =
    fair_touch S h seat (access_target addr) (λ how. Event.Access how) 23 addr (λ how. ap (λ d. Some (access_target (data_address d), Came how)) is) refl event takes
fair_deed S h seat (Asks act) is event takes =
    let x = (cpu_of S seat).x in
    let r = guest_rule S h seat.tvm (register x 10) (register x 11) act in
    subst (λ e. IsFair S h (guest_touched S seat e)) (sym takes) (fair_act S h seat seat.tvm (register x 10) act (refusal_by r) (reply_by r))
fair_deed S h seat Waits is event takes = subst (λ x. IsFair S h (guest_touched S seat x)) (sym takes) tt
fair_deed S h seat (Traps cause) is event takes = subst (λ x. IsFair S h (guest_touched S seat x)) (sym takes) tt

fair_inside : (script : ScriptValue) (S : State) (h : ℕ) (kicked : Bool) (seat : Seat) (event : Event)
    → Takes S h (kicked_offer kicked (Some seat) (unkicked_offer script S h (Some seat))) event → IsFair S h (guest_touched S seat event)
fair_inside script S h true seat event takes = subst (λ x. IsFair S h (guest_touched S seat x)) (sym takes) tt
fair_inside script S h false seat event takes = fair_deed S h seat (deed_of (cpu_of S seat)) refl event takes

pub fair : (script : ScriptValue) (S : State) (h : ℕ) (event : Event) → Allows script S h event → IsFair S h (touched S h event)
fair script S h event allows = go (S.seats h) allows
  where
    go : (o : Option Seat) → Takes S h (kicked_offer (has h S.kicked) o (unkicked_offer script S h o)) event → IsFair S h (touched_at S o event)
    go None takes = fair_outside script S h (next_line script h (ended_by S h)) event takes
    go (Some seat) takes = fair_inside script S h (has h S.kicked) seat event takes
