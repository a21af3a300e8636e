-- What a hart is offered, what it seeks, and what its event then looked for.
use Rattle.std.proofs.Common.{◌≡◌, ℕ, ◌*◌, ◌<◌, ◌≤◌, Bool, true, false, cond, eqb, nat_lt, ltb-true, ltb-false, lt-ltb, le-ltb, Option, Some, None, is_some, refl, sym, ap, ◌∙◌, arith}
use Rattle.std.specs.Option.{option_map_or}
use Rattle.std.proofs.lemmas.Bool.{cond-true, cond-false}
use Rattle.cove_base.specs.Executions.{plan}
use Rattle.cove_model.specs.Machine.{next_line, ScriptValue, GuestAct, Event, How, Line, ScriptLine, Reply, Target, has, page_of, Seat, State, ended_by, guests_in, refusal_by, reply_by, Deed, Tires, Fetches, Executes, Loads, Stores, Asks, Waits, Traps, csr_deed, deed_of, deed_with, is_woken, next_place, planned, guest_rule, Offer, Nothing, Behind, Single, Touch, access_target, act_event, cpu_of, deed_offer, fault_exit, fetch_target, first_behind, guest_touch, kicked_offer, line_offer, offer, outside_offer, sought, target_of, unkicked_offer, unless_behind, IsStill, Came, Failed, data_address, guest_touched, missed, touched_at, Cpu}
use Rattle.cove_base.specs.Instructions.{decoded}
use Rattle.cove_base.specs.Registers.{register}
use Rattle.cove_base.specs.declared.calls.GuestAct.TheVariants as acts
use Rattle.cove_base.specs.declared.instructions.Insn.{Insn}
use Rattle.cove_base.specs.declared.plans.Plan.{Plan}
use Rattle.cove_base.specs.declared.plans.Plan.TheVariants as plans
use Rattle.cove_base.specs.declared.scripts.Line.TheVariants as lines
use Rattle.cove_model.proofs.Fairness.{deed_place}
use Rattle.cove_model.specs.Aims.{aim, aimed_at, below_limit, line_aim, next_aim}
use Rattle.cove_base.specs.InterruptFiles.{csr_read}

-- ---- a vCPU that is left as it was aims as it did

aim_cut : (guests : ℕ) (b : Bool) (d e : Deed) → aim guests d ≡ None → aim guests e ≡ None → aim guests (cond b d e) ≡ None
aim_cut guests true d e p q = p
aim_cut guests false d e p q = q

aim_csr : (guests : ℕ) (cpu : Cpu) (p : ℕ) (mode : _) (source : ℕ) (writes : Bool) (rd : ℕ) (o : Option ℕ) → aim guests (csr_deed cpu p mode source writes rd o) ≡ None
aim_csr guests cpu p mode source writes rd None = refl
aim_csr guests cpu p mode source writes rd (Some old) = refl

aim_planned : (guests : ℕ) (cpu now : Cpu) (p : Plan) → aim guests (planned now p) ≡ aim guests (planned cpu p)
aim_planned guests cpu now (plans.Done rd value pc) = refl
aim_planned guests cpu now (plans.Load addr size signed rd) = refl
aim_planned guests cpu now (plans.Store addr size value) = refl
aim_planned guests cpu now (plans.Csr csr mode source writes rd) =
    aim_csr guests now csr mode source writes rd (cond (is_some now.binding) (csr_read now.file csr) None)
    ∙ sym (aim_csr guests cpu csr mode source writes rd (cond (is_some cpu.binding) (csr_read cpu.file csr) None))
aim_planned guests cpu now plans.Ecall = refl
aim_planned guests cpu now (plans.Trap cause) = refl
aim_planned guests cpu now plans.Wfi =
    aim_cut guests (is_woken now) (Executes 0 0 (next_place now.pc) now.file) Waits refl refl
    ∙ sym (aim_cut guests (is_woken cpu) (Executes 0 0 (next_place cpu.pc) cpu.file) Waits refl refl)

pub aim_still : (guests : ℕ) (cpu now : Cpu) → IsStill cpu now → aim guests (deed_of now) ≡ aim guests (deed_of cpu)
aim_still guests cpu now still = ap (λ o. aim guests (deed_with now o)) still.latched ∙ go cpu.latched
  where
    insn : (o : Option Insn) → aim guests (option_map_or (λ i. planned now (plan now.x now.pc i)) o (Traps 2)) ≡ aim guests (option_map_or (λ i. planned cpu (plan cpu.x cpu.pc i)) o (Traps 2))
    insn None = refl
    insn (Some i) = ap (λ x. aim guests (planned now (plan x now.pc i))) still.x ∙ ap (λ pc. aim guests (planned now (plan cpu.x pc i))) still.pc ∙ aim_planned guests cpu now (plan cpu.x cpu.pc i)

    go : (o : Option ℕ) → aim guests (deed_with now o) ≡ aim guests (deed_with cpu o)
    go None = ap (λ f. aim guests (cond (eqb f 0) Tires (Fetches now.pc))) still.fuel ∙ ap (λ pc. aim guests (cond (eqb cpu.fuel 0) Tires (Fetches pc))) still.pc
    go (Some word) = insn (decoded word)

-- ---- offers

-- an offer of one event looks for nothing; one of an access for what the hart aims at, and its events show that
abbrev pub Shows : ScriptValue → State → (h : ℕ) → Option Seat → Offer → Type 0
Shows script S h o Nothing = Unit {0}
Shows script S h o (Behind other) = Unit {0}
Shows script S h o (Single event) = touched_at S o event ≡ None
Shows script S h o (Touch target success fault) =
    (aimed_at script S h o ≡ Some target) × (((how : How) → touched_at S o (success how) ≡ Some (target, Came how)) × (touched_at S o fault ≡ Some (target, Failed)))

shows_line : (script : ScriptValue) (S : State) (h : ℕ) (line : ScriptLine) → next_line script h (ended_by S h) ≡ Some line
    → (l : Line) → line.line ≡ l → Shows script S h None (line_offer S h l)
shows_line script S h line next (lines.Call call) is = refl
shows_line script S h line next (lines.Load addr) is = (ap next_aim next ∙ ap line_aim is, ((λ how. refl), refl))
shows_line script S h line next (lines.Store addr value) is = (ap next_aim next ∙ ap line_aim is, ((λ how. refl), refl))

shows_outside : (script : ScriptValue) (S : State) (h : ℕ) (o : Option ScriptLine) → next_line script h (ended_by S h) ≡ o → Shows script S h None (outside_offer script S h o)
shows_outside script S h None e = tt
shows_outside script S h (Some line) e = go (first_behind script S line.phase)
  where
    go : (o : Option ℕ) → Shows script S h None (unless_behind o (line_offer S h line.line))
    go None = shows_line script S h line e line.line refl
    go (Some k) = tt

missed_below : (guests cause addr : ℕ) (target : Target) → cond (eqb cause 20) (fetch_target addr) (access_target addr) ≡ target → nat_lt addr (4096 * guests) ≡ true
    → missed guests cause (record { 0 = page_of addr }) ≡ Some (target, Failed)
missed_below guests cause addr target is low =
    let l : addr < 4096 * guests = ltb-true addr (4096 * guests) low in
    cond-true (nat_lt (page_of addr) guests) (Some (cond (eqb cause 20) (fetch_target addr) (access_target addr), Failed)) None (lt-ltb (page_of addr) guests (omega arith))
    ∙ ap (λ (t : Target). Some (t, Failed)) is

missed_past : (guests cause addr : ℕ) → nat_lt addr (4096 * guests) ≡ false → missed guests cause (record { 0 = page_of addr }) ≡ None
missed_past guests cause addr high =
    let l : 4096 * guests ≤ addr = ltb-false addr (4096 * guests) high in
    cond-false (nat_lt (page_of addr) guests) (Some (cond (eqb cause 20) (fetch_target addr) (access_target addr), Failed)) None (le-ltb (page_of addr) guests (omega arith))

shows_touch : (script : ScriptValue) (S : State) (h : ℕ) (seat : Seat) (target : Target) (success : How → Event) (cause addr : ℕ)
    → aimed_at script S h (Some seat) ≡ below_limit (guests_in S seat.tvm) target addr
    → ((how : How) → guest_touched S seat (success how) ≡ Some (target, Came how))
    → cond (eqb cause 20) (fetch_target addr) (access_target addr) ≡ target
    → Shows script S h (Some seat) (guest_touch (guests_in S seat.tvm) target success cause addr)
shows_touch script S h seat target success cause addr aims comes is = go (nat_lt addr (4096 * guests_in S seat.tvm)) refl
  where
    go : (b : Bool) → nat_lt addr (4096 * guests_in S seat.tvm) ≡ b → Shows script S h (Some seat) (cond b (Touch target success (fault_exit cause addr)) (Single (fault_exit cause addr)))
    go true e = (aims ∙ cond-true (nat_lt addr (4096 * guests_in S seat.tvm)) (Some target) None e, (comes, missed_below (guests_in S seat.tvm) cause addr target is e))
    go false e = missed_past (guests_in S seat.tvm) cause addr e

shows_act : (S : State) (seat : Seat) (t nonce : ℕ) (act : GuestAct) (refused : Option Reply) (reply : Reply) → guest_touched S seat (act_event S t nonce act refused reply) ≡ None
shows_act S seat t nonce acts.Evidence None reply = refl
shows_act S seat t nonce acts.Evidence (Some r) reply = refl
shows_act S seat t nonce (acts.Share gpa len) refused reply = refl
shows_act S seat t nonce _ refused reply = refl

shows_deed : (script : ScriptValue) (S : State) (h : ℕ) (seat : Seat) (deed : Deed) → deed_of (cpu_of S seat) ≡ deed → Shows script S h (Some seat) (deed_offer S h seat deed)
shows_deed script S h seat Tires is = refl
shows_deed script S h seat (Fetches addr) is =
    shows_touch script S h seat (fetch_target addr) (λ how. Event.Fetch how) 20 addr (ap (aim (guests_in S seat.tvm)) is)
    (λ how. ap (λ a. Some (fetch_target a, Came how)) (sym (deed_place (cpu_of S seat) addr is))) refl
shows_deed script S h seat (Executes rd value pc file) is = refl
shows_deed script S h seat (Loads addr size signed rd) is =
    shows_touch script S h seat (access_target addr) (λ how. Event.Access how) 21 addr (ap (aim (guests_in S seat.tvm)) is) (λ how. ap (λ d. Some (access_target (data_address d), Came how)) is) refl
shows_deed script S h seat (Stores addr size value) is =
    shows_touch script S h seat (access_target addr) (λ how. Event.Access how) 23 addr (ap (aim (guests_in S seat.tvm)) is) (λ how. ap (λ d. Some (access_target (data_address d), Came how)) is) refl
shows_deed script S h seat (Asks act) is =
    let x = (cpu_of S seat).x in
    let r = guest_rule S h seat.tvm (register x 10) (register x 11) act in
    shows_act S seat seat.tvm (register x 10) act (refusal_by r) (reply_by r)
shows_deed script S h seat Waits is = refl
shows_deed script S h seat (Traps cause) is = refl

shows_inside : (script : ScriptValue) (S : State) (h : ℕ) (kicked : Bool) (seat : Seat) → Shows script S h (Some seat) (kicked_offer kicked (Some seat) (unkicked_offer script S h (Some seat)))
shows_inside script S h true seat = refl
shows_inside script S h false seat = shows_deed script S h seat (deed_of (cpu_of S seat)) refl

pub offer_shows : (script : ScriptValue) (S : State) (h : ℕ) → Shows script S h (S.seats h) (offer script S h)
offer_shows script S h = go (S.seats h)
  where
    go : (o : Option Seat) → Shows script S h o (kicked_offer (has h S.kicked) o (unkicked_offer script S h o))
    go None = shows_outside script S h (next_line script h (ended_by S h)) refl
    go (Some seat) = shows_inside script S h (has h S.kicked) seat

-- what a hart seeks it aims at
shows_aim : (script : ScriptValue) (S : State) (h : ℕ) (o : Option Seat) (offered : Offer) (target : Target) → Shows script S h o offered → target_of offered ≡ Some target → aimed_at script S h o ≡ Some target
shows_aim script S h o Nothing target shows e = cc
shows_aim script S h o (Behind k) target shows e = cc
shows_aim script S h o (Single event) target shows e = cc
shows_aim script S h o (Touch other success fault) target shows e = shows.0 ∙ e

pub sought_aims : (script : ScriptValue) (S : State) (h : ℕ) (target : Target) → sought script S h ≡ Some target → aimed_at script S h (S.seats h) ≡ Some target
sought_aims script S h target e = go (S.seats h) e
  where
    go : (o : Option Seat) → target_of (unkicked_offer script S h o) ≡ Some target → aimed_at script S h o ≡ Some target
    go None q = shows_aim script S h None (outside_offer script S h (next_line script h (ended_by S h))) target (shows_outside script S h (next_line script h (ended_by S h)) refl) q
    go (Some seat) q = shows_aim script S h (Some seat) (deed_offer S h seat (deed_of (cpu_of S seat))) target (shows_deed script S h seat (deed_of (cpu_of S seat)) refl) q
