use Rattle.std.proofs.lemmas.Option.{none-some, same_Some}
use Rattle.std.proofs.Common.{ℕ, ◌≡◌, ◌<◌, ◌∷◌, ◌++◌, [], Some, length, slice_get, refl, sym, subst, ap, ◌∙◌, arith}
use Rattle.cove_base.specs.Guards.{guard_after}
use Rattle.cove_model.specs.Machine.{Entry, ENTRY_LIMIT}
use Rattle.cove_core.proofs.Making.{allows_on, behind_at, can_do, entry_from, has_next, last_entry, made, next_at, none_behind, performing, some_last}
use Rattle.cove_core.specs.Made.{IsMade, IsPerformed}
use Rattle.cove_hart.specs.HartStates.{hart_value}
use Rattle.cove_hart.specs.declared.states.HartState.{HartState}
use Rattle.cove_core.proofs.steps.event_step.Goals as goal

pub unreachable-requires : goal.unreachable-requires
unreachable-requires g c =
    has_next c.args.script.now c.args.mon.now.history (hart_value c.args.hart.now) c.requires.fits c.requires.prepared (sym c.line_at.ensures.line ∙ c.in_default.is)

pub returns-in-Some-first_behind-clause-ahead : goal.returns-in-Some-first_behind-clause-ahead
returns-in-Some-first_behind-clause-ahead g c =
    let at = sym c.line_at.ensures.line ∙ c.in-Some.is in
    record {
      line = c.in-Some.line;
      next = next_at c.args.script.now c.args.mon.now.history (hart_value c.args.hart.now) c.requires.fits c.in-Some.line at;
      first = c.in-Some-first_behind.ensures.some;
    }

pub returns-in-Some-first_behind-clause-behind : goal.returns-in-Some-first_behind-clause-behind
returns-in-Some-first_behind-clause-behind g c =
    let script = c.args.script.now in
    let history = c.args.mon.now.history in
    let held = hart_value c.args.hart.now in
    let l = c.in-Some.line in
    let next = next_at script history held c.requires.fits l (sym c.line_at.ensures.line ∙ c.in-Some.is) in
    let size = c.len-place.ensures.number in
    let room : length history < ENTRY_LIMIT = omega (arith, c.if-place.false) in
    λ other. (
      λ same. (room, record { line = l; next = next; first = c.in-Some-first_behind.ensures.some ∙ ap (λ (k : ℕ). Some k) same }),
      λ behind. same_Some c.in-Some-first_behind.other.0 other (sym c.in-Some-first_behind.ensures.some ∙ behind_at script history held l other next behind.1),
    )

pub returns-clause-behind : goal.returns-clause-behind
returns-clause-behind g c =
    let script = c.args.script.now in
    let history = c.args.mon.now.history in
    let held = hart_value c.args.hart.now in
    let l = c.in-Some.line in
    let next = next_at script history held c.requires.fits l (sym c.line_at.ensures.line ∙ c.in-Some.is) in
    λ other. (
      λ same. absurd same,
      λ behind. none-some other (sym (none_behind script history l c.first_behind.result c.in_default-first_behind.is c.first_behind.ensures.none) ∙ behind_at script history held l other next behind.1),
    )

pub perform-event-requires-clause-can : goal.perform-event-requires-clause-can
perform-event-requires-clause-can g c =
    let script = c.args.script.now in
    let words = g.W.Words.words c.args.w.now in
    let mon = c.args.mon.now in
    let held = hart_value c.args.hart.now in
    let kept = c.requires.kept in
    let l = c.in-Some.line in
    let at : slice_get script.lines held.place ≡ Some l = sym c.line_at.ensures.line ∙ c.in-Some.is in
    let size = c.len-place.ensures.number in
    let room : length mon.history < ENTRY_LIMIT = omega (arith, c.if-place.false) in
    can_do script c.line_at.ensures.within words mon kept held c.requires.fits l at (next_at script mon.history held c.requires.fits l at) room l.line refl

pub perform-event-requires-clause-allowed : goal.perform-event-requires-clause-allowed
perform-event-requires-clause-allowed g c =
    let script = c.args.script.now in
    let mon = c.args.mon.now in
    let board = c.requires.kept.board in
    allows_on (g.W.Words.allows (g.W.Words.guard c.args.w.now)) script.pages mon.ground.pages script.harts mon.ground.harts c.args.hart.now.hart.0 board.pages board.harts (g.W.Words.words c.args.w.now) c.requires.allowed

pub enter-requires-clause-performed : goal.enter-requires-clause-performed
enter-requires-clause-performed g c =
    let script = c.args.script.now in
    let mon = c.args.mon.now in
    let held = hart_value c.args.hart.now in
    let l = c.in-Some.line in
    let step = c.perform-event in
    let none = none_behind script mon.history l c.first_behind.result c.in_default-first_behind.is c.first_behind.ensures.none in
    let did = performing script c.line_at.ensures.within (g.W.Words.words c.args.w.now) mon c.requires.kept held c.requires.fits refl c.requires.prepared l (sym c.line_at.ensures.line ∙ c.in-Some.is) none
    (g.W.Words.words step.new.w) step.new.g step.new.hart.rings step.result step.ensures.done in
    subst (λ h. IsPerformed script (g.W.Words.words step.new.w) (record { ground = step.new.g; history = mon.history; progress = mon.progress }) (hart_value h) step.result) (sym step.ensures.hart) did.performed

pub returns-clause-made : goal.returns-clause-made
returns-clause-made g c =
    let script = c.args.script.now in
    let words = g.W.Words.words c.args.w.now in
    let mon = c.args.mon.now in
    let held = hart_value c.args.hart.now in
    let l = c.in-Some.line in
    let at : slice_get script.lines held.place ≡ Some l = sym c.line_at.ensures.line ∙ c.in-Some.is in
    let step = c.perform-event in
    let now = g.W.Words.words step.new.w in
    let event = step.result in
    let none = none_behind script mon.history l c.first_behind.result c.in_default-first_behind.is c.first_behind.ensures.none in
    let did = performing script c.line_at.ensures.within words mon c.requires.kept held c.requires.fits refl c.requires.prepared l at none now step.new.g step.new.hart.rings event step.ensures.done in
    let hart : step.new.hart.hart ≡ c.args.hart.now.hart = ap (λ (h : HartState). h.hart) step.ensures.hart in
    let entry : Entry = entry_from c.args.hart.now.hart event in
    let grown : c.enter.new.mon.history ≡ mon.history ++ entry ∷ [] =
    c.enter.ensures.grown ∙ ap (λ h. mon.history ++ entry_from h event ∷ []) hart in
    last_entry (λ e. IsMade script words (g.W.Words.words c.enter.new.w) mon c.enter.new.mon held (hart_value c.enter.new.hart) e) mon.history c.enter.new.mon.history entry c.len-place.result grown c.len-place.ensures.number
    (made script c.line_at.ensures.within words mon c.requires.kept held c.requires.fits l at (next_at script mon.history held c.requires.fits l at) now step.new.g step.new.hart.rings event did.performed did.parts
    (g.W.Words.words c.enter.new.w) c.enter.new.mon (hart_value c.enter.new.hart)
    c.enter.ensures.kept c.enter.ensures.fits grown (ap (λ n. n.0) (c.enter.ensures.hart ∙ hart)) c.enter.ensures.rings c.enter.ensures.used c.enter.ensures.words)

pub returns-clause-entry : goal.returns-clause-entry
returns-clause-entry g c =
    (c.len-place.ensures.number, some_last c.args.mon.now.history c.enter.new.mon.history (entry_from c.perform-event.new.hart.hart c.perform-event.result) c.len-place.result c.enter.ensures.grown c.len-place.ensures.number)

pub returns-clause-guard : goal.returns-clause-guard
returns-clause-guard g c =
    let step = c.perform-event in
    let entry : Entry = entry_from step.new.hart.hart step.result in
    last_entry (λ e. g.W.Words.guard c.enter.new.w ≡ guard_after (g.W.Words.guard c.args.w.now) (g.W.Words.words c.enter.new.w) e) c.args.mon.now.history c.enter.new.mon.history entry c.len-place.result c.enter.ensures.grown c.len-place.ensures.number
    (c.enter.ensures.guard ∙ ap (λ q. guard_after q (g.W.Words.words c.enter.new.w) entry) step.ensures.guard)

pub returns-clause-due : goal.returns-clause-due
returns-clause-due g c =
    let script = c.args.script.now in
    let history = c.args.mon.now.history in
    let l = c.in-Some.line in
    record {
      line = l;
      next = next_at script history (hart_value c.args.hart.now) c.requires.fits l (sym c.line_at.ensures.line ∙ c.in-Some.is);
      none = none_behind script history l c.first_behind.result c.in_default-first_behind.is c.first_behind.ensures.none;
    }
