use Rattle.cove_board.specs.Parts.{hart_of}
use Rattle.cove_hart.specs.HartStates.{hart_value}
use Rattle.cove_monitor.proofs.Meeting.{keeper_same, met_by}
use Rattle.cove_monitor.proofs.closing.held_meeting.Goals as goal

pub returns : goal.returns
returns c =
    let board = c.args.board.now in
    let hold = c.hold-held in
    record {
      same = keeper_same board.table c.args.mon.now c.args.keeper (hart_of c.args.hart.part) hold.result c.release-hart.result.1 c.requires.keeper hold.ensures.table hold.ensures.parts c.release-hart.ensures.monitor;
      met = met_by board c.args.mon.now (hart_value c.args.state.now) c.args.hart c.args.keeper c.requires.seat c.requires.keeper hold.ensures.known hold.ensures.right;
    }
