use Rattle.std.proofs.Common.{◌≡◌, replicate}
use Rattle.cove_base.specs.InterruptFiles.{empty_file}
use Rattle.cove_imsic.proofs.files.Files.new.Given as goal

abbrev pub invariant-loop : goal.invariant-loop
invariant-loop l = l.states.items ≡ replicate l.counter empty_file
