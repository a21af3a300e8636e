use Rattle.std.proofs.Common.{◌≡◌, sym, ◌∙◌, ap, subst}
use Rattle.cove_board.specs.Parts.{HartPart, hart_of, left_part, monitor_of}
use Rattle.cove_board.specs.Passes.{PassValue}
use Rattle.cove_hart.specs.HartStates.{hart_value}
use Rattle.cove_monitor.specs.Events.{HasStepped}
use Rattle.cove_monitor.proofs.Joining.{allows_lawful, counts_entries, held_joined}
use Rattle.cove_monitor.proofs.Leaving.{keeper_again, left_by, seat_again}
use Rattle.cove_monitor.proofs.events.held_event.Goals as goal

pub event_step-stepped-requires : goal.event_step-stepped-requires
event_step-stepped-requires c =
    let board = c.args.board.now in
    let script = c.args.script.now in
    let mon = c.args.mon.now in
    let held = hart_value c.args.state.now in
    let hold = c.hold-held in
    let part = hold.result.part in
    let j = held_joined board script mon held c.args.hart c.args.keeper hold.result c.requires.script c.requires.seat c.requires.keeper hold.ensures.parts hold.ensures.known hold.ensures.right in
    record {
      kept = j.kept;
      fits = j.fits;
      prepared = c.requires.prepared;
      allowed = allows_lawful script mon held hold.result.table (monitor_of part) (hart_of part) j;
      counted = counts_entries script mon held hold.result.table (monitor_of part) (hart_of part) j;
    }

pub returns : goal.returns
returns c =
    let board = c.args.board.now in
    let script = c.args.script.now in
    let mon = c.args.mon.now in
    let held = hart_value c.args.state.now in
    let hold = c.hold-held in
    let step = c.event_step-stepped in
    let now = step.new.w in
    let known = c.release-hart.ensures.kept in
    let j = held_joined board script mon held c.args.hart c.args.keeper hold.result c.requires.script c.requires.seat c.requires.keeper hold.ensures.parts hold.ensures.known hold.ensures.right in
    let same_mine = sym (ap (λ v. (hart_of v).mine) hold.ensures.parts.1) in
    let same_seen = sym (ap (λ v. (hart_of v).seen) hold.ensures.parts.1) in
    let left = left_by script board.table mon step.new.mon c.args.state.now step.new.hart hold.result now j hold.ensures.table (hart_of c.args.hart.part) same_mine same_seen known step.result
    step.ensures.made step.ensures.entry step.ensures.guard step.ensures.clean step.ensures.used step.ensures.limit step.ensures.ahead step.ensures.still in
    let hart = c.release-hart.result.0 in
    let keeper = c.release-hart.result.1 in
    let hart_is = c.release-hart.ensures.hart in
    let m = monitor_of now.part in
    let p = hart_of now.part in
    let part_is : hart_of hart.part ≡ left_part m p = ap (λ (v : PassValue). hart_of v.part) hart_is in
    let seat = seat_again script board.table step.new.mon (hart_value step.new.hart) now known left.after hart hart_is in
    record {
      hart = record {
        table = ap (λ (v : PassValue). v.table) hart_is ∙ left.after.table_is;
        alone = seat.alone;
        script_is = ap (λ (x : HartPart). x.script) part_is ∙ known.held.same_script ∙ left.after.script_is ∙ sym c.requires.script;
      };
      seat = seat;
      keeper = keeper_again script board.table step.new.mon (hart_value step.new.hart) now known left.after keeper c.release-hart.ensures.monitor;
      stepped = subst (HasStepped script step.result held (hart_value step.new.hart) (hart_of c.args.hart.part)) (sym part_is) left.leaves;
    }
