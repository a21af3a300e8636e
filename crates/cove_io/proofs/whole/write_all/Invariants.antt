use Rattle.std.proofs.Common.{◌≡◌, ◌-◌, ◌≤◌, length, take}
use Rattle.std.specs.Io.KnownBytes.{Appends}
use Rattle.cove_io.proofs.whole.write_all.Given as goal

abbrev pub invariant-loop-at : goal.invariant-loop-at
invariant-loop-at g l = record {
  within : l.at ≤ length l.piece;
  clean : g.K.Sink.count l.sink ≡ g.K.Sink.count l.fn.sink;
  bytes : Appends (g.K.Sink.taken l.fn.sink) (g.K.Sink.taken l.sink) (take l.at l.piece);
}

abbrev pub decreases-loop-at : goal.decreases-loop-at
decreases-loop-at g l = length l.piece - l.at
