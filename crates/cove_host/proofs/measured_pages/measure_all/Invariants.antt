use Rattle.cove_host.specs.MeasuredRuns.{ExtendsBy}
use Rattle.cove_host.proofs.measured_pages.measure_all.Given as goal

-- the pages so far are measured
abbrev pub invariant-loop-i : goal.invariant-loop-i
invariant-loop-i l = ExtendsBy l.first.0 l.page.0 l.i l.memory l.initial.registers l.registers
