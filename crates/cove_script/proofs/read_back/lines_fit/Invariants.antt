use Rattle.std.proofs.Common.{All, take}
use Rattle.cove_script.specs.MachineNumbers.{HasFittingNumbers}
use Rattle.cove_script.proofs.read_back.lines_fit.Given as goal

abbrev pub invariant-loop-script_line : goal.invariant-loop-script_line
invariant-loop-script_line l = All HasFittingNumbers (take l.script_line-index l.lines)
