use Rattle.std.proofs.Common.{subst}
use Rattle.cove_board.specs.Parts.{monitor_of}
use Rattle.cove_board.specs.Passes.{PassValue}
use Rattle.cove_board.specs.Ruled.{IsMonitor}
use Rattle.cove_monitor.proofs.Meeting.{right_by}
use Rattle.cove_monitor.proofs.monitors.Monitor.close.Goals as goal
use Rattle.cove_monitor.specs.Closing.{IsHistoryOf}
use Rattle.cove_monitor.specs.Seats.{HasKeeper}

pub returns-clause-right : goal.returns-clause-right
returns-clause-right g c =
    let script = c.self.inside.board.script in
    let kept = subst (HasKeeper g.B.Room.table c.mon.inside.mon) c.in-Some.is c.mon.invariant in
    let monitor = subst (λ (v : PassValue). IsMonitor script (monitor_of v.part)) c.meet_all-keeper.ensures.same c.close.ensures in
    subst (λ k. IsHistoryOf k c.mon.inside.mon.history) c.self.view_is (right_by script g.B.Room.table c.mon.inside.mon c.in-Some.keeper kept monitor)
