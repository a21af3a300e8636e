use Rattle.std.proofs.Common.{get_or, slice_get, ap, ◌∙◌}
use Rattle.cove_base.proofs.HartPlaceLemmas.{line_at_place}
use Rattle.cove_model.specs.Machine.{after, ended_by}
use Rattle.cove_core.proofs.monitors.Mon.next_line.Goals as goal

pub returns : goal.returns
returns c =
    let script = c.args.script.now in
    let hart = c.args.hart.0 in
    c.line_at.ensures.line ∙ ap (slice_get script.lines) c.place.ensures
    ∙ line_at_place script hart (ended_by (after script c.args.self.now.history) hart) (get_or c.args.self.now.progress hart 0) (c.requires.progress.each hart c.requires.on_board)
