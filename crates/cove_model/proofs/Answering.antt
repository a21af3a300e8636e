-- The answers of calls in allowed events.
use Rattle.std.proofs.Common.{◌≡◌, ℕ, ◌*◌, Bool, true, false, cond, nat_lt, List, Option, Some, None, sym, ap, subst, ◌∙◌, inl, inr}
use Rattle.cove_model.specs.Machine.{next_line, ScriptValue, GuestAct, HostCall, Event, How, Line, ScriptLine, Reply, Target, has, refusal_by, reply_by, reply_to, Deed, Tires, Fetches, Executes, Loads, Stores, Asks, Waits, Traps, deed_of, guest_rule, Rule, Single, Touch, access_target, act_event, cpu_of, deed_offer, fault_exit, fetch_target, first_behind, guest_touch, kicked_offer, line_offer, outside_offer, unkicked_offer, unless_behind, Seat, State, ended_by, guests_in, Allows, Takes}
use Rattle.cove_base.specs.Registers.{register}
use Rattle.cove_base.specs.declared.calls.GuestAct.TheVariants as acts
use Rattle.cove_base.specs.declared.events.Event.TheVariants as events
use Rattle.cove_base.specs.declared.events.Exit.{Exit}
use Rattle.cove_base.specs.declared.scripts.Line.TheVariants as lines

-- ---- an act of a guest

act_parts : (S : State) (t nonce : ℕ) (act act' : GuestAct) (refused : Option Reply) (reply answer : Reply)
    → events.Guest act reply ≡ act_event S t nonce act' refused answer → (act ≡ act') × (reply ≡ answer)
act_parts S t nonce act acts.Evidence None reply answer e = absurd (apart e)
  where
    apart : {quote : List ℕ} → events.Guest act reply ≡ events.Evidence quote → ⊥
    apart q = cc
act_parts S t nonce act acts.Evidence (Some r) reply answer e = (cc, cc)
act_parts S t nonce act (acts.Share gpa len) refused reply answer e = (cc, cc)
act_parts S t nonce act (acts.Unshare gpa len) refused reply answer e = (cc, cc)
act_parts S t nonce act acts.Extend refused reply answer e = (cc, cc)
act_parts S t nonce act (acts.Allow id) refused reply answer e = (cc, cc)
act_parts S t nonce act (acts.Deny id) refused reply answer e = (cc, cc)
act_parts S t nonce act acts.Other refused reply answer e = (cc, cc)

no_exit : {act : GuestAct} {reply : Reply} {exit : Exit} → events.Guest act reply ≡ events.Exit exit → ⊥
no_exit e = cc

touch_apart : (S : State) (h guests : ℕ) (sought : Target) (success : How → Event) (cause addr : ℕ) (act : GuestAct) (reply : Reply)
    → ((how : How) → events.Guest act reply ≡ success how → ⊥) → Takes S h (guest_touch guests sought success cause addr) (events.Guest act reply) → ⊥
touch_apart S h guests sought success cause addr act reply apart takes = go (nat_lt addr (4096 * guests)) takes
  where
    go : (b : Bool) → Takes S h (cond b (Touch sought success (fault_exit cause addr)) (Single (fault_exit cause addr))) (events.Guest act reply) → ⊥
    go true (inl t) = apart t.0 t.1
    go true (inr t) = no_exit t.0
    go false t = no_exit t

deed_answer : (S : State) (h : ℕ) (seat : Seat) (deed : Deed) (act : GuestAct) (reply : Reply) → Takes S h (deed_offer S h seat deed) (events.Guest act reply)
    → reply ≡ reply_by (guest_rule S h seat.tvm (register (cpu_of S seat).x 10) (register (cpu_of S seat).x 11) act)
deed_answer S h seat Tires act reply takes = absurd (no_exit takes)
deed_answer S h seat (Fetches addr) act reply takes = absurd (touch_apart S h (guests_in S seat.tvm) (fetch_target addr) (λ how. Event.Fetch how) 20 addr act reply (λ how. apart) takes)
  where
    apart : {how : How} → events.Guest act reply ≡ events.Fetch how → ⊥
    apart e = cc
deed_answer S h seat (Executes rd value pc file) act reply takes = absurd (apart takes)
  where
    apart : events.Guest act reply ≡ events.Exec → ⊥
    apart e = cc
deed_answer S h seat (Loads addr size signed rd) act reply takes = absurd (touch_apart S h (guests_in S seat.tvm) (access_target addr) (λ how. Event.Access how) 21 addr act reply (λ how. apart) takes)
  where
    apart : {how : How} → events.Guest act reply ≡ events.Access how → ⊥
    apart e = cc
deed_answer S h seat (Stores addr size value) act reply takes = absurd (touch_apart S h (guests_in S seat.tvm) (access_target addr) (λ how. Event.Access how) 23 addr act reply (λ how. apart) takes)
  where
    apart : {how : How} → events.Guest act reply ≡ events.Access how → ⊥
    apart e = cc
deed_answer S h seat (Asks act') act reply takes =
    let x = (cpu_of S seat).x in
    let r : GuestAct → Rule = λ a. guest_rule S h seat.tvm (register x 10) (register x 11) a in
    let parts = act_parts S seat.tvm (register x 10) act act' (refusal_by (r act')) reply (reply_by (r act')) takes in
    parts.1 ∙ ap (λ a. reply_by (guest_rule S h seat.tvm (register x 10) (register x 11) a)) (sym parts.0)
deed_answer S h seat Waits act reply takes = absurd (no_exit takes)
deed_answer S h seat (Traps cause) act reply takes = absurd (no_exit takes)

-- the answer to a guest is that of its rule
pub guest_answer : (script : ScriptValue) (S : State) (h : ℕ) (seat : Seat) (act : GuestAct) (reply : Reply) → Allows script S h (events.Guest act reply) → S.seats h ≡ Some seat
    → reply ≡ reply_by (guest_rule S h seat.tvm (register (cpu_of S seat).x 10) (register (cpu_of S seat).x 11) act)
guest_answer script S h seat act reply allows sits =
    inside (has h S.kicked) (subst (λ o. Takes S h (kicked_offer (has h S.kicked) o (unkicked_offer script S h o)) (events.Guest act reply)) sits allows)
  where
    inside : (b : Bool) → Takes S h (kicked_offer b (Some seat) (unkicked_offer script S h (Some seat))) (events.Guest act reply)
        → reply ≡ reply_by (guest_rule S h seat.tvm (register (cpu_of S seat).x 10) (register (cpu_of S seat).x 11) act)
    inside true t = absurd (no_exit t)
    inside false t = deed_answer S h seat (deed_of (cpu_of S seat)) act reply t

-- ---- a call of the host

line_answer : (S : State) (h : ℕ) (line : Line) (call : HostCall) (reply : Reply) → Takes S h (line_offer S h line) (events.Call call reply) → reply ≡ reply_to S h call
line_answer S h (lines.Call call') call reply takes = let e : call ≡ call' = cc in let q : reply ≡ reply_to S h call' = cc in q ∙ ap (reply_to S h) (sym e)
line_answer S h (lines.Load addr) call reply (inl takes) = absurd (apart takes.1)
  where
    apart : {how : How} {value : ℕ} → events.Call call reply ≡ events.Load addr how value → ⊥
    apart e = cc
line_answer S h (lines.Load addr) call reply (inr takes) = absurd (apart takes.0)
  where
    apart : events.Call call reply ≡ events.LoadFault addr → ⊥
    apart e = cc
line_answer S h (lines.Store addr value) call reply (inl takes) = absurd (apart takes.1)
  where
    apart : {how : How} → events.Call call reply ≡ events.Store addr value how → ⊥
    apart e = cc
line_answer S h (lines.Store addr value) call reply (inr takes) = absurd (apart takes.0)
  where
    apart : events.Call call reply ≡ events.StoreFault addr value → ⊥
    apart e = cc

pub host_answer : (script : ScriptValue) (S : State) (h : ℕ) (call : HostCall) (reply : Reply) → Allows script S h (events.Call call reply) → S.seats h ≡ None → reply ≡ reply_to S h call
host_answer script S h call reply allows outside =
    lined (next_line script h (ended_by S h)) (subst (λ o. Takes S h (kicked_offer (has h S.kicked) o (unkicked_offer script S h o)) (events.Call call reply)) outside allows)
  where
    behind : (o : Option ℕ) (line : Line) → Takes S h (unless_behind o (line_offer S h line)) (events.Call call reply) → reply ≡ reply_to S h call
    behind None line t = line_answer S h line call reply t
    behind (Some k) line t = absurd t

    lined : (o : Option ScriptLine) → Takes S h (outside_offer script S h o) (events.Call call reply) → reply ≡ reply_to S h call
    lined None t = absurd t
    lined (Some line) t = behind (first_behind script S line.phase) line.line t
