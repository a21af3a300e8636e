use Rattle.std.proofs.Common.{All, take}
use Rattle.cove_script.specs.MachineNumbers.{HasBytes}
use Rattle.cove_script.proofs.read_back.fills_fit.Given as goal

abbrev pub invariant-loop-fill : goal.invariant-loop-fill
invariant-loop-fill l = All HasBytes (take l.fill-index l.fills)
