use Rattle.std.proofs.Common.{◌≡◌}
use Rattle.cove_board.proofs.boards.Board.deal_all.Given as goal
use Rattle.cove_board.specs.Parts.{dealt_part, monitor_alone}
use Rattle.cove_board.specs.Passes.{AreDealt}

abbrev pub invariant-loop-k : goal.invariant-loop-k
invariant-loop-k l =
    AreDealt l.fn.self.script l.fn.self.table l._k l.passes
    × (l.monitor ≡ record { table = l.fn.self.table; part = monitor_alone (dealt_part l.fn.self.script l._k) })
