use Rattle.std.proofs.Common.{◌≡◌, drop, filter}
use Rattle.cove_base.specs.HartPlaces.{is_line_of}
use Rattle.cove_hart.proofs.states.next_place.Given as goal

abbrev pub invariant-loop-place : goal.invariant-loop-place
invariant-loop-place l = filter (is_line_of l.hart.0) (drop l.place l.lines) ≡ filter (is_line_of l.hart.0) (drop l.from l.lines)
