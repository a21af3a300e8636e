use Rattle.std.proofs.Common.{◌≡◌, take}
use Rattle.std.specs.Io.KnownBytes.{Appends}
use Rattle.std.specs.Prelude.{flat_map}
use Rattle.cove_model.specs.Reports.{ended_line, entry_line}
use Rattle.cove_run.proofs.printing.print_journal.Given as goal

-- the sink took the lines of the entries so far
abbrev pub invariant-loop-i : goal.invariant-loop-i
invariant-loop-i g l = record {
  clean : g.K.Sink.count l.sink ≡ g.K.Sink.count l.fn.sink;
  taken : Appends (g.K.Sink.taken l.fn.sink) (g.K.Sink.taken l.sink) (flat_map (λ entry. ended_line (entry_line entry)) (take l.i l.fn.history));
}
