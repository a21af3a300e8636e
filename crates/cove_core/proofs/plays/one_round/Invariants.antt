use Rattle.std.proofs.Common.{◌≡◌, false, fold}
use Rattle.cove_model.specs.Machine.{ENTRY_LIMIT, turn, harts_below}
use Rattle.cove_core.specs.Plays.{AreReady, GoesOn, Stays}
use Rattle.cove_core.proofs.Rounds.{IsWork}
use Rattle.cove_core.proofs.plays.one_round.Given as goal

abbrev pub invariant-loop-k : goal.invariant-loop-k
invariant-loop-k l = record {
  ready : AreReady l.fn.script l.words l.mon l.harts;
  goes : GoesOn l.fn.mon l.mon l.fn.harts l.harts (λ play. fold (turn ENTRY_LIMIT l.fn.script) play (harts_below l.k));
  stays : l.changed ≡ false → Stays l.fn.mon l.fn.harts (λ play. fold (turn ENTRY_LIMIT l.fn.script) play (harts_below l.k));
  work : IsWork l.fn.script l.fn.mon l.fn.harts l.changed (harts_below l.k);
}
