use Rattle.std.proofs.Common.{fold, take}
use Rattle.cove_model.specs.Machine.{ENTRY_LIMIT, turn}
use Rattle.cove_core.specs.Plays.{AreReady, GoesOn}
use Rattle.cove_core.proofs.plays.named_turns.Given as goal

abbrev pub invariant-loop-i : goal.invariant-loop-i
invariant-loop-i l =
    AreReady l.fn.script l.words l.mon l.harts
    × GoesOn l.fn.mon l.mon l.fn.harts l.harts (λ play. fold (turn ENTRY_LIMIT l.fn.script) play (take l.i l.fn.script.turns))
