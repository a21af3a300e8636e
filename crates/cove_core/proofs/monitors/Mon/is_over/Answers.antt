use Rattle.std.proofs.Common.{◌≡◌, None, sym, ap, ◌∙◌, below_more, arith}
use Rattle.std.proofs.lemmas.Bool.{false≢true}
use Rattle.cove_model.specs.Machine.{next_line, ScriptValue, after, ended_by}
use Rattle.cove_core.proofs.Rounds.{is_nothing, some_is_none}
use Rattle.cove_core.proofs.monitors.Mon.is_over.Goals as goal

pub returns-then-is_some : goal.returns-then-is_some
returns-then-is_some c =
    let harts = ap (λ (s : ScriptValue). s.harts) c.script.view_is in (
      λ e. absurd (false≢true e),
      λ over. absurd (some_is_none c.next_line.result (sym c.is_some.ensures ∙ c.if-is_some.true) (c.next_line.ensures ∙ over c.loop-k.k (omega (arith, c.loop-k-test.true)))),
    )

pub loop-k-preserved : goal.loop-k-preserved
loop-k-preserved c =
    let script = c.args.script.now in
    let S = after script c.args.self.now.history in
    below_more (λ j. next_line script j (ended_by S j) ≡ None) c.loop-k.k c.loop-k.invariant
    (sym c.next_line.ensures ∙ is_nothing c.next_line.result (sym c.is_some.ensures ∙ c.if-is_some.false))
