-- What no event changes: the board's numbers and key, the ended lines, and how many pages there are.
use Rattle.std.proofs.Common.{◌≡◌, ℕ, Option, Some, None, refl}
use Rattle.cove_model.specs.Machine.{Event, Reply, refusal, state_by, rule, word_stored, Seat, State, page_of, word_place, done, done_at, host_done}
use Rattle.cove_base.specs.declared.events.Event.TheVariants as events
use Rattle.cove_model.proofs.CallFrames.{Framed, framed, framed_call}
use Rattle.cove_model.proofs.GuestChanges.{change_guest}
use Rattle.cove_model.proofs.Runs.{length_change}

framed_by : (o : Option Reply) (S T : State) → Framed S T → Framed S (state_by o S T)
framed_by None S T f = f
framed_by (Some reply) S T f = framed S

framed_host : (S : State) (h : ℕ) (event : Event) → Framed S (host_done S h event)
framed_host S h (events.Call call reply) = framed_by (refusal S h call) S (rule S h call).outcome.state (framed_call S h call)
framed_host S h (events.Store addr value how) = record {
  harts = refl;
  files = refl;
  key = refl;
  ended = refl;
  size = length_change (word_stored (word_place addr) value) (page_of addr) 1 S.pages;
}
framed_host S h _ = framed S

pub framed_done : (S : State) (h : ℕ) (event : Event) → Framed S (done S h event)
framed_done S h event = go (S.seats h) refl
  where
    go : (o : Option Seat) → S.seats h ≡ o → Framed S (done_at S h o event)
    go None e = framed_host S h event
    go (Some seat) e = (change_guest ⊥ S h seat event (λ c. absurd c) e).framed
