use Rattle.std.proofs.Common.{◌≡◌, false, sym, ap, ◌∙◌, below_more, arith}
use Rattle.cove_model.specs.Machine.{ScriptValue, after, is_behind, is_earlier}
use Rattle.cove_core.proofs.Behind.{find_first, find_none}
use Rattle.cove_core.proofs.monitors.Mon.first_behind.Goals as goal

pub returns-then-is_earlier-clause-some : goal.returns-then-is_earlier-clause-some
returns-then-is_earlier-clause-some c =
    let script = c.args.script.now in
    let harts = ap (λ (s : ScriptValue). s.harts) c.script.view_is in
    let is = sym (c.is_earlier.ensures ∙ ap (is_earlier c.args.phase) c.next_line.ensures) ∙ c.if-is_earlier.true in
    find_first (is_behind script (after script c.args.self.now.history) c.args.phase) 0 script.harts c.loop-k.k (omega arith) (omega (arith, c.loop-k-test.true)) is c.loop-k.invariant

pub loop-k-preserved : goal.loop-k-preserved
loop-k-preserved c =
    let script = c.args.script.now in
    let is = sym (c.is_earlier.ensures ∙ ap (is_earlier c.args.phase) c.next_line.ensures) ∙ c.if-is_earlier.false in
    below_more (λ j. is_behind script (after script c.args.self.now.history) c.args.phase j ≡ false) c.loop-k.k c.loop-k.invariant is

pub returns-clause-none : goal.returns-clause-none
returns-clause-none c =
    let script = c.args.script.now in
    let harts = ap (λ (s : ScriptValue). s.harts) c.script.view_is in
    find_none (is_behind script (after script c.args.self.now.history) c.args.phase) 0 script.harts (λ j low high. c.loop-k.invariant j (omega (arith, c.loop-k-test.false)))
