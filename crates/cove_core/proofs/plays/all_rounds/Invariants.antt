use Rattle.std.proofs.Common.{◌≡◌}
use Rattle.cove_core.specs.Plays.{AreReady}
use Rattle.cove_core.proofs.Rounds.{AreMade}
use Rattle.cove_core.proofs.plays.all_rounds.Given as goal

abbrev pub invariant-loop : goal.invariant-loop
invariant-loop l = record {
  ready : AreReady l.fn.script l.words l.mon l.harts;
  rounds : AreMade l.fn.script l.fn.mon l.mon l.fn.harts l.harts l.counter;
  count : l.made ≡ l.counter;
}
