-- What a load that may be made shows, and that a hart which answers a line is outside.
use Rattle.std.proofs.Common.{◌≡◌, ℕ, true, Option, Some, None, refl, sym, ap, subst, ◌∙◌, inl, inr}
use Rattle.std.proofs.lemmas.Option.{none-some}
use Rattle.cove_model.specs.Machine.{next_line, ScriptValue, HostCall, Event, How, Line, ScriptLine, Reply, reply_to, first_behind, kicked_offer, line_offer, outside_offer, unkicked_offer, unless_behind, has, may_use, page_at, Seat, State, ended_by, page_of, word_at, Allows, Takes, asked}
use Rattle.cove_base.specs.declared.events.Event.TheVariants as events
use Rattle.cove_base.specs.declared.scripts.Line.TheVariants as lines
use Rattle.cove_model.proofs.Answering.{host_answer}
use Rattle.cove_model.proofs.Beginning.{inside_tells}

-- a hart that may make an event of a line is outside
pub outside_by_line : (script : ScriptValue) (S : State) (h : ℕ) (event : Event) (line : Line) → asked event ≡ Some line → Allows script S h event → S.seats h ≡ None
outside_by_line script S h event line is allows = go (S.seats h) refl
  where
    go : (o : Option Seat) → S.seats h ≡ o → S.seats h ≡ None
    go None e = e
    go (Some seat) e = absurd (none-some line (sym (inside_tells script S h seat event e allows) ∙ is))

pub call_answered : (script : ScriptValue) (S : State) (h : ℕ) (call : HostCall) (reply : Reply) → Allows script S h (events.Call call reply) → reply ≡ reply_to S h call
call_answered script S h call reply allows =
    host_answer script S h call reply allows (outside_by_line script S h (events.Call call reply) (lines.Call call) refl allows)

-- a load shows the word of a page that its hart may use
abbrev IsLoad : State → (h addr value : ℕ) → Type 0
IsLoad S h addr value = (may_use h (page_at S.pages (page_of addr)) ≡ true) × (value ≡ word_at S addr)

line_loads : (S : State) (h : ℕ) (l : Line) (addr : ℕ) (how : How) (value : ℕ) → Takes S h (line_offer S h l) (events.Load addr how value) → IsLoad S h addr value
line_loads S h (lines.Call call) addr how value takes = absurd cc
line_loads S h (lines.Load a) addr how value (inl takes) =
    let at : addr ≡ a = let e = takes.1 in cc in
    let shows : value ≡ word_at S a = let e = takes.1 in cc in
    (subst (λ b. may_use h (page_at S.pages (page_of b)) ≡ true) (sym at) takes.2, shows ∙ ap (word_at S) (sym at))
line_loads S h (lines.Load a) addr how value (inr takes) = let e = takes.0 in absurd cc
line_loads S h (lines.Store a v) addr how value (inl takes) = let e = takes.1 in absurd cc
line_loads S h (lines.Store a v) addr how value (inr takes) = let e = takes.0 in absurd cc

pub load_told : (script : ScriptValue) (S : State) (h addr : ℕ) (how : How) (value : ℕ) → Allows script S h (events.Load addr how value) → IsLoad S h addr value
load_told script S h addr how value allows =
    let out = outside_by_line script S h (events.Load addr how value) (lines.Load addr) refl allows in
    lined (next_line script h (ended_by S h)) (subst (λ o. Takes S h (kicked_offer (has h S.kicked) o (unkicked_offer script S h o)) (events.Load addr how value)) out allows)
  where
    behind : (o : Option ℕ) (l : Line) → Takes S h (unless_behind o (line_offer S h l)) (events.Load addr how value) → IsLoad S h addr value
    behind None l takes = line_loads S h l addr how value takes
    behind (Some k) l takes = absurd takes

    lined : (o : Option ScriptLine) → Takes S h (outside_offer script S h o) (events.Load addr how value) → IsLoad S h addr value
    lined None takes = absurd takes
    lined (Some l) takes = behind (first_behind script S l.phase) l.line takes
