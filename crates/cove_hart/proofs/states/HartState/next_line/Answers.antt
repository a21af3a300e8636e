use Rattle.std.proofs.Common.{◌∙◌, slice_get, ap}
use Rattle.cove_base.specs.Scripts.{ScriptValue}
use Rattle.cove_base.proofs.HartPlaceLemmas.{line_at_place}
use Rattle.cove_base.proofs.ScriptLimits.{small_pages}
use Rattle.cove_hart.proofs.states.HartState.next_line.Goals as goal

pub returns-clause-line : goal.returns-clause-line
returns-clause-line c =
    let hart = c.args.self.now in
    c.copied.ensures
    ∙ c.get.ensures.item
    ∙ ap (λ (script : ScriptValue). slice_get script.lines hart.place) c.script.view_is
    ∙ line_at_place c.args.script.now hart.hart.0 hart.ended hart.place c.requires

pub returns-clause-small : goal.returns-clause-small
returns-clause-small c =
    let hart = c.args.self.now in
    let within = rw c.script.view_is at c.script.invariant in
    let line =
    c.copied.ensures
    ∙ c.get.ensures.item
    ∙ ap (λ (script : ScriptValue). slice_get script.lines hart.place) c.script.view_is in
    rw line (small_pages c.args.script.now within hart.place)
