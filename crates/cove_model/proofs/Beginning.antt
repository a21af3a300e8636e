-- A legal history begins its script, and follows it, with nobody inside, where no line is left.
use Rattle.std.proofs.Common.{◌≡◌, ℕ, suc, ◌+◌, ◌*◌, ◌<◌, ◌≤◌, Bool, true, false, cond, nat_lt, List, [], ◌∷◌, ◌++◌, length, length-take-le, take, take_all, slice_get, slice_index, replicate, Option, Some, None, option_map, refl, sym, ap, subst, ◌∙◌, inl, inr, ⊎_elim, add-one, append-nil, arith, filter_map}
use Rattle.std.specs.List.{cons_option}
use Rattle.std.proofs.lemmas.Bool.{cases_eq}
use Rattle.std.proofs.lemmas.List.{length-map, length-replicate}
use Rattle.std.proofs.lemmas.List.Elements.{filter_map-append}
use Rattle.std.proofs.lemmas.Option.{slice_get-map, slice_get_within}
use Rattle.cove_model.specs.Machine.{lines_of, next_line, ScriptValue, GuestAct, Entry, Event, How, Line, ScriptLine, Reply, Target, has, refusal_by, reply_by, Deed, Tires, Fetches, Executes, Loads, Stores, Asks, Waits, Traps, deed_of, guest_rule, Follows, Legal, after, own, told, wanted, offer, Offer, Nothing, Behind, Single, Touch, access_target, act_event, cpu_of, deed_offer, fault_exit, fetch_target, first_behind, guest_touch, kicked_offer, line_offer, outside_offer, unkicked_offer, unless_behind, IsOver, Seat, State, ended_by, guests_in, Allows, Takes, after_event, asked, done}
use Rattle.cove_base.specs.Registers.{register}
use Rattle.cove_base.specs.declared.calls.GuestAct.TheVariants as acts
use Rattle.cove_base.specs.declared.scripts.Line.TheVariants as lines
use Rattle.cove_model.proofs.Lists.{none_past, replicate_zero, take_next}
use Rattle.cove_model.proofs.AtTheEnd.{after_push, ended_inside, ended_length, ended_other, ended_own, from_end, legal_front, legal_last, line_seats, own_same, told_other, told_same}
use Rattle.cove_model.proofs.EventMoves.{seat_other}
use Rattle.cove_model.specs.Histories.{Begins}

-- ---- the line that an event answers

-- each event of an offer answers this line, or none
abbrev Tells : Option Line → Offer → Type 0
Tells o Nothing = Unit {0}
Tells o (Behind other) = Unit {0}
Tells o (Single event) = asked event ≡ o
Tells o (Touch target success fault) = ((how : How) → asked (success how) ≡ o) × (asked fault ≡ o)

tells : (o : Option Line) (S : State) (h : ℕ) (offered : Offer) (event : Event) → Tells o offered → Takes S h offered event → asked event ≡ o
tells o S h Nothing event t takes = absurd takes
tells o S h (Behind other) event t takes = absurd takes
tells o S h (Single only) event t takes = ap asked takes ∙ t
tells o S h (Touch target success fault) event t (inl takes) = ap asked takes.1 ∙ t.0 takes.0
tells o S h (Touch target success fault) event t (inr takes) = ap asked takes.0 ∙ t.1

tells_line : (S : State) (h : ℕ) (line : Line) → Tells (Some line) (line_offer S h line)
tells_line S h (lines.Call call) = refl
tells_line S h (lines.Load addr) = ((λ how. refl), refl)
tells_line S h (lines.Store addr value) = ((λ how. refl), refl)

tells_touch : (guests : ℕ) (target : Target) (success : How → Event) (cause addr : ℕ) → ((how : How) → asked (success how) ≡ None) → Tells None (guest_touch guests target success cause addr)
tells_touch guests target success cause addr none = go (nat_lt addr (4096 * guests))
  where
    go : (b : Bool) → Tells None (cond b (Touch target success (fault_exit cause addr)) (Single (fault_exit cause addr)))
    go true = (none, refl)
    go false = refl

tells_act : (S : State) (t nonce : ℕ) (act : GuestAct) (refused : Option Reply) (reply : Reply) → asked (act_event S t nonce act refused reply) ≡ None
tells_act S t nonce acts.Evidence None reply = refl
tells_act S t nonce acts.Evidence (Some r) reply = refl
tells_act S t nonce (acts.Share gpa len) refused reply = refl
tells_act S t nonce _ refused reply = refl

tells_deed : (S : State) (h : ℕ) (seat : Seat) (deed : Deed) → Tells None (deed_offer S h seat deed)
tells_deed S h seat Tires = refl
tells_deed S h seat (Fetches addr) = tells_touch (guests_in S seat.tvm) (fetch_target addr) (λ how. Event.Fetch how) 20 addr (λ how. refl)
tells_deed S h seat (Executes rd value pc file) = refl
tells_deed S h seat (Loads addr size signed rd) = tells_touch (guests_in S seat.tvm) (access_target addr) (λ how. Event.Access how) 21 addr (λ how. refl)
tells_deed S h seat (Stores addr size value) = tells_touch (guests_in S seat.tvm) (access_target addr) (λ how. Event.Access how) 23 addr (λ how. refl)
tells_deed S h seat (Asks act) =
    let x = (cpu_of S seat).x in
    let r = guest_rule S h seat.tvm (register x 10) (register x 11) act in
    tells_act S seat.tvm (register x 10) act (refusal_by r) (reply_by r)
tells_deed S h seat Waits = refl
tells_deed S h seat (Traps cause) = refl

-- an event of a guest answers no line
pub inside_tells : (script : ScriptValue) (S : State) (h : ℕ) (seat : Seat) (event : Event) → S.seats h ≡ Some seat → Allows script S h event → asked event ≡ None
inside_tells script S h seat event sits allows =
    tells None S h (kicked_offer (has h S.kicked) (Some seat) (deed_offer S h seat (deed_of (cpu_of S seat)))) event (go (has h S.kicked))
    (subst (λ o. Takes S h (kicked_offer (has h S.kicked) o (unkicked_offer script S h o)) event) sits allows)
  where
    go : (b : Bool) → Tells None (kicked_offer b (Some seat) (deed_offer S h seat (deed_of (cpu_of S seat))))
    go true = refl
    go false = tells_deed S h seat (deed_of (cpu_of S seat))

-- what each hart is offered answers one line, or none
pub offer_tells : (script : ScriptValue) (S : State) (h : ℕ) → (o : Option Line) × Tells o (offer script S h)
offer_tells script S h = go (S.seats h)
  where
    behind : (o : Option ℕ) (line : Line) → (told : Option Line) × Tells told (unless_behind o (line_offer S h line))
    behind None line = (Some line, tells_line S h line)
    behind (Some k) line = (None, tt)

    lined : (o : Option ScriptLine) → (told : Option Line) × Tells told (outside_offer script S h o)
    lined None = (None, tt)
    lined (Some line) = behind (first_behind script S line.phase) line.line

    inside : (b : Bool) (seat : Seat) → Tells None (kicked_offer b (Some seat) (unkicked_offer script S h (Some seat)))
    inside true seat = refl
    inside false seat = tells_deed S h seat (deed_of (cpu_of S seat))

    go : (o : Option Seat) → (told : Option Line) × Tells told (kicked_offer (has h S.kicked) o (unkicked_offer script S h o))
    go None = lined (next_line script h (ended_by S h))
    go (Some seat) = (None, inside (has h S.kicked) seat)

-- two events of a hart answer one line, or none
pub one_line : (script : ScriptValue) (S : State) (h : ℕ) (one other : Event) → Allows script S h one → Allows script S h other → asked one ≡ asked other
one_line script S h one other a b =
    let t = offer_tells script S h in
    tells t.0 S h (offer script S h) one t.1 a ∙ sym (tells t.0 S h (offer script S h) other t.1 b)

-- an event of a hart outside answers its next line
pub record Due (script : ScriptValue) (S : State) (h : ℕ) (event : Event) : Type 0 where
  pub next : ScriptLine
  pub found : next_line script h (ended_by S h) ≡ Some next
  pub is : asked event ≡ Some next.line

pub outside_due : (script : ScriptValue) (S : State) (h : ℕ) (event : Event) → S.seats h ≡ None → Allows script S h event → Due script S h event
outside_due script S h event outside allows =
    go (next_line script h (ended_by S h)) refl (subst (λ o. Takes S h (kicked_offer (has h S.kicked) o (unkicked_offer script S h o)) event) outside allows)
  where
    go : (o : Option ScriptLine) → next_line script h (ended_by S h) ≡ o → Takes S h (outside_offer script S h o) event → Due script S h event
    go None e t = absurd t
    go (Some line) e t = behind (first_behind script S line.phase) t
      where
        behind : (o : Option ℕ) → Takes S h (unless_behind o (line_offer S h line.line)) event → Due script S h event
        behind None takes = record { next = line; found = e; is = tells (Some line.line) S h (line_offer S h line.line) event (tells_line S h line.line) takes }
        behind (Some k) takes = absurd takes

-- ---- legal histories

-- how many lines a hart began: those that it ended, and one more where it is inside
abbrev is_inside : Option Seat → ℕ
is_inside None = 0
is_inside (Some seat) = 1

abbrev begun_by : State → (h : ℕ) → ℕ
begun_by S h = ended_by S h + is_inside (S.seats h)

-- the lines that a hart answered are as many of its first ones as it began
pub record Begun (script : ScriptValue) (H : List Entry) : Type 0 where
  pub size : length (after script H).ended ≡ script.harts
  pub told : (h : ℕ) → h < script.harts → told H h ≡ take (begun_by (after script H) h) (wanted script h)
  pub few : (h : ℕ) → h < script.harts → begun_by (after script H) h ≤ length (wanted script h)

begun_none : (script : ScriptValue) → Begun script []
begun_none script = record {
  size = length-replicate script.harts 0;
  told = λ h lt. ap (λ n. take n (wanted script h)) (sym (none h));
  few = λ h lt. let e = none h in omega arith;
}
  where
    none : (h : ℕ) → slice_index (replicate script.harts 0) h + 0 ≡ 0
    none h = ap (λ n. n + 0) (replicate_zero script.harts h)

module _ (script : ScriptValue) (H : List Entry) (e : Entry) (begun : Begun script H) (allows : Allows script (after script H) e.hart.0 e.event) where
  -- one line more than the hart had ended
  own_begun : e.hart.0 < script.harts → begun_by (after script (H ++ e ∷ [])) e.hart.0 ≡ suc (ended_by (after script H) e.hart.0)
  own_begun lt = ap (λ T. begun_by T e.hart.0) (after_push script H e) ∙ ap (λ o. ended_by (after_event (after script H) e.hart.0 e.event) e.hart.0 + is_inside o) seats ∙ go ((done (after script H) e.hart.0 e.event).seats e.hart.0) refl
    where
      seats : (after_event (after script H) e.hart.0 e.event).seats e.hart.0 ≡ (done (after script H) e.hart.0 e.event).seats e.hart.0
      seats = ap (λ f. f e.hart.0) (line_seats e.hart.0 ((done (after script H) e.hart.0 e.event).seats e.hart.0) (done (after script H) e.hart.0 e.event))

      go : (o : Option Seat) → (done (after script H) e.hart.0 e.event).seats e.hart.0 ≡ o → ended_by (after_event (after script H) e.hart.0 e.event) e.hart.0 + is_inside o ≡ suc (ended_by (after script H) e.hart.0)
      go None q = let size = begun.size in let s = ended_own (after script H) e.hart.0 e.event (omega arith) q in omega arith
      go (Some seat) q = let s = ended_inside (after script H) e.hart.0 e.event seat q in omega arith

  -- where the hart was inside, it began no line more
  inside_told : (seat : Seat) → (after script H).seats e.hart.0 ≡ Some seat → e.hart.0 < script.harts
      → (told (H ++ e ∷ []) e.hart.0 ≡ told H e.hart.0) × (begun_by (after script (H ++ e ∷ [])) e.hart.0 ≡ begun_by (after script H) e.hart.0)
  inside_told seat sits lt = (
    ap (filter_map (λ (x : Entry). asked x.event)) (own_same H e e.hart.0 refl)
        ∙ filter_map-append (λ (x : Entry). asked x.event) (own H e.hart.0) (e ∷ [])
        ∙ ap (λ o. told H e.hart.0 ++ cons_option o []) (inside_tells script (after script H) e.hart.0 seat e.event sits allows)
        ∙ append-nil (told H e.hart.0),
    own_begun lt ∙ sym (add-one (ended_by (after script H) e.hart.0)) ∙ ap (λ o. ended_by (after script H) e.hart.0 + is_inside o) (sym sits),
  )

  -- where it was outside, it began its next line
  outside_begun : (after script H).seats e.hart.0 ≡ None → begun_by (after script H) e.hart.0 ≡ ended_by (after script H) e.hart.0
  outside_begun outside = ap (λ o. ended_by (after script H) e.hart.0 + is_inside o) outside ∙ plus_none (ended_by (after script H) e.hart.0)
    where
      plus_none : (n : ℕ) → n + 0 ≡ n
      plus_none n = omega arith

  wanted_next : (due : Due script (after script H) e.hart.0 e.event) → slice_get (wanted script e.hart.0) (ended_by (after script H) e.hart.0) ≡ Some due.next.line
  wanted_next due =
      slice_get-map (λ (l : ScriptLine). l.line) (lines_of script e.hart.0) (ended_by (after script H) e.hart.0) ∙ ap (option_map (λ (l : ScriptLine). l.line)) due.found

  abbrev Own : Type 0
  Own = (told (H ++ e ∷ []) e.hart.0 ≡ take (begun_by (after script (H ++ e ∷ [])) e.hart.0) (wanted script e.hart.0))
      × (begun_by (after script (H ++ e ∷ [])) e.hart.0 ≤ length (wanted script e.hart.0))

  own_outside : e.hart.0 < script.harts → (after script H).seats e.hart.0 ≡ None → Own
  own_outside lt outside =
      let due = outside_due script (after script H) e.hart.0 e.event outside allows in
      let n = ended_by (after script H) e.hart.0 in
      let w = slice_get_within (wanted script e.hart.0) n due.next.line (wanted_next due) in
      let now = own_begun lt in (
        told_same H e e.hart.0 due.next.line refl due.is
            ∙ ap (λ xs. xs ++ due.next.line ∷ []) (begun.told e.hart.0 lt ∙ ap (λ k. take k (wanted script e.hart.0)) (outside_begun outside))
            ∙ sym (take_next (wanted script e.hart.0) n due.next.line (wanted_next due))
            ∙ ap (λ k. take k (wanted script e.hart.0)) (sym now),
        omega arith,
      )

  own_inside : (seat : Seat) → e.hart.0 < script.harts → (after script H).seats e.hart.0 ≡ Some seat → Own
  own_inside seat lt sits =
      let same = inside_told seat sits lt in
      let few = begun.few e.hart.0 lt in
      let count = same.1 in
      (same.0 ∙ begun.told e.hart.0 lt ∙ ap (λ k. take k (wanted script e.hart.0)) (sym count), omega arith)

  own_kept : e.hart.0 < script.harts → Own
  own_kept lt = go ((after script H).seats e.hart.0) refl
    where
      go : (o : Option Seat) → (after script H).seats e.hart.0 ≡ o → Own
      go None q = own_outside lt q
      go (Some seat) q = own_inside seat lt q

  other_begun : (h : ℕ) → (e.hart.0 ≡ h → ⊥) → begun_by (after script (H ++ e ∷ [])) h ≡ begun_by (after script H) h
  other_begun h ne =
      let D = done (after script H) e.hart.0 e.event in
      let ended = ended_other (after script H) e.hart.0 h e.event (λ q. ne (sym q)) in
      let seats = ap (λ f. f h) (line_seats e.hart.0 (D.seats e.hart.0) D) ∙ seat_other (after script H) e.hart.0 h e.event (λ q. ne (sym q)) in
      ap (λ T. begun_by T h) (after_push script H e) ∙ ap (λ n. n + is_inside ((after_event (after script H) e.hart.0 e.event).seats h)) ended
      ∙ ap (λ o. ended_by (after script H) h + is_inside o) seats

  begun_push : Begun script (H ++ e ∷ [])
  begun_push = record {
    size = ap (λ (T : State). length T.ended) (after_push script H e) ∙ ended_length (after script H) e.hart.0 e.event ∙ begun.size;
    told = λ h lt. ⊎_elim
        (λ same. subst (λ k. told (H ++ e ∷ []) k ≡ take (begun_by (after script (H ++ e ∷ [])) k) (wanted script k)) same (own_kept (subst (λ k. k < script.harts) (sym same) lt)).0)
        (λ ne. told_other H e h ne ∙ begun.told h lt ∙ ap (λ n. take n (wanted script h)) (sym (other_begun h ne)))
        (cases_eq e.hart.0 h);
    few = λ h lt. ⊎_elim
        (λ same. subst (λ k. begun_by (after script (H ++ e ∷ [])) k ≤ length (wanted script k)) same (own_kept (subst (λ k. k < script.harts) (sym same) lt)).1)
        (λ ne. let o = other_begun h ne in let f = begun.few h lt in omega arith)
        (cases_eq e.hart.0 h);
  }

pub begun : (script : ScriptValue) (H : List Entry) → Legal script H → Begun script H
begun script = from_end (λ H. Legal script H → Begun script H)
    (λ H e more legal. begun_push script H e (more (legal_front script H e legal)) (legal_last script H e legal))
    (λ legal. begun_none script)

pub legal_begins : (script : ScriptValue) (H : List Entry) → Legal script H → Begins script H
legal_begins script H legal h lt =
    let b = begun script H legal in
    let n = begun_by (after script H) h in
    let few = b.few h lt in
    let size : length (told H h) ≡ n = ap length (b.told h lt) ∙ length-take-le n (wanted script h) few in
    ap (λ k. take k (wanted script h)) size ∙ sym (b.told h lt)

-- where no line of a hart is left, it is outside, and has answered all of them
over_hart : (script : ScriptValue) (H : List Entry) → Legal script H → (h : ℕ) → h < script.harts → next_line script h (ended_by (after script H) h) ≡ None
    → (told H h ≡ wanted script h) × ((after script H).seats h ≡ None)
over_hart script H legal h lt over = go ((after script H).seats h) refl
  where
    b : Begun script H
    b = begun script H legal

    past : length (lines_of script h) ≤ ended_by (after script H) h
    past = none_past (lines_of script h) (ended_by (after script H) h) over

    size : length (wanted script h) ≡ length (lines_of script h)
    size = length-map (lines_of script h) (λ (l : ScriptLine). l.line)

    go : (o : Option Seat) → (after script H).seats h ≡ o → (told H h ≡ wanted script h) × (o ≡ None)
    go None q =
        let n = begun_by (after script H) h in
        let count = ap (λ s. ended_by (after script H) h + is_inside s) q in
        let many = past in
        let long = size in
        (b.told h lt ∙ take_all n (wanted script h) (omega arith), refl)
    go (Some seat) q =
        let few = b.few h lt in
        let count = ap (λ s. ended_by (after script H) h + is_inside s) q in
        let many = past in
        let long = size in
        absurd (omega arith)

pub over_follows : (script : ScriptValue) (H : List Entry) → Legal script H → IsOver script H → Follows script H
over_follows script H legal over = record {
  answered = λ h lt. (over_hart script H legal h lt (over h lt)).0;
  outside = λ h lt. (over_hart script H legal h lt (over h lt)).1;
}
