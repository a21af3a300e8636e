-- While run is not built, every hart is outside.
use Rattle.std.proofs.Common.{◌≡◌, ℕ, List, Option, Some, None, refl, sym, ap, subst, ◌∙◌}
use Rattle.cove_model.specs.Machine.{ScriptValue, next_line, HostCall, Run, Entry, Event, Reply, effect, refusal, state_after, state_by, after, kicked_offer, offer, outside_offer, unkicked_offer, has, Seat, State, ended_by, after_event, done, done_at, end_line, host_done, line_ended, Tlb, emptied_by, forgets_at, forgets_outside, host_touched, renewed, touched, touched_at, with_touched}
use Rattle.cove_base.specs.declared.events.Event.TheVariants as events
use Rattle.cove_model.proofs.AtTheEnd.{after_push, from_end}

pub record AreOutside (S : State) : Type 0 where
  pub outside : (h : ℕ) → S.seats h ≡ None

outside_by : (o : Option Reply) (S T : State) → AreOutside S → AreOutside T → AreOutside (state_by o S T)
outside_by None S T before accepted = accepted
outside_by (Some reply) S T before accepted = before

-- a call but run leaves every seat
outside_call : (S : State) (h : ℕ) (call : HostCall) → AreOutside S → AreOutside (state_after S h call)
outside_call S h (Run t v fuel) e = e
outside_call S h call e = outside_by (refusal S h call) S (effect S h call) e (record { outside = e.outside })

outside_host : (S : State) (h : ℕ) (event : Event) → AreOutside S → AreOutside (host_done S h event)
outside_host S h (events.Call call reply) e = outside_call S h call e
outside_host S h (events.Store addr value how) e = record { outside = e.outside }
outside_host S h _ e = e

outside_line : (h : ℕ) (o : Option Seat) (S : State) → AreOutside S → AreOutside (line_ended h o S)
outside_line h None S e = record { outside = e.outside }
outside_line h (Some seat) S e = e

-- ---- what a step is where every hart is outside

module _ (S : State) (h : ℕ) (all : AreOutside S) where
  pub done_outside : (event : Event) → done S h event ≡ host_done S h event
  done_outside event = ap (λ o. done_at S h o event) (all.outside h)

  pub done_leaves_outside : (event : Event) → AreOutside (done S h event)
  done_leaves_outside event = subst AreOutside (sym (done_outside event)) (outside_host S h event all)

  pub ended_line : (event : Event) → after_event S h event ≡ end_line h (host_done S h event)
  ended_line event =
      ap (λ o. line_ended h o (done S h event)) ((done_leaves_outside event).outside h) ∙ ap (end_line h) (done_outside event)

  pub outside_step : (event : Event) → AreOutside (after_event S h event)
  outside_step event = outside_line h ((done S h event).seats h) (done S h event) (done_leaves_outside event)

  pub offer_outside : (script : ScriptValue) → offer script S h ≡ outside_offer script S h (next_line script h (ended_by S h))
  offer_outside script = ap (λ o. kicked_offer (has h S.kicked) o (unkicked_offer script S h o)) (all.outside h)

  pub touched_outside : (event : Event) → touched S h event ≡ host_touched event
  touched_outside event = ap (λ o. touched_at S o event) (all.outside h)

  pub renewed_outside : (held : Tlb) (event : Event) → renewed S h held event ≡ emptied_by (forgets_outside S h event) (with_touched S h (host_touched event) held)
  renewed_outside held event =
      ap (λ t. emptied_by (forgets_at S h (S.seats h) event) (with_touched S h t held)) (touched_outside event)
      ∙ ap (λ o. emptied_by (forgets_at S h o event) (with_touched S h (host_touched event) held)) (all.outside h)

-- ---- every history

pub all_outside : (script : ScriptValue) (H : List Entry) → AreOutside (after script H)
all_outside script = from_end (λ H. AreOutside (after script H))
    (λ H e more. subst AreOutside (sym (after_push script H e)) (outside_step (after script H) e.hart.0 more e.event))
    (record { outside = λ h. refl })

pub outside_after : (script : ScriptValue) (H : List Entry) (h : ℕ) → (after script H).seats h ≡ None
outside_after script H h = (all_outside script H).outside h
