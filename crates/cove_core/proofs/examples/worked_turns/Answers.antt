use Rattle.std.proofs.Common.{refl}
use Rattle.cove_base.specs.declared.calls.HostCall.TheVariants.{Convert, LocalFence}
use Rattle.cove_base.specs.declared.scripts.Line.TheVariants.{Call}
use Rattle.cove_model.specs.Examples.{call, load}
use Rattle.cove_core.proofs.examples.worked_turns.Goals as goal

pub returns-clause-a_call : goal.returns-clause-a_call
returns-clause-a_call c = record { line = call 0 (Convert 0x4000 1); next = refl; ready = refl }

pub returns-clause-in_the_ring : goal.returns-clause-in_the_ring
returns-clause-in_the_ring c = record { line = load 0 0x4000; next = refl; ready = refl }

pub returns-clause-walked : goal.returns-clause-walked
returns-clause-walked c = record { line = load 0 0x4000; next = refl; ready = refl }

pub returns-clause-first : goal.returns-clause-first
returns-clause-first c = record { line = call 0 (Convert 0x4000 1); next = refl; none = refl }

pub returns-clause-behind : goal.returns-clause-behind
returns-clause-behind c =
    record { line = record { hart = record { 0 = 1 }; phase = 1; line = Call LocalFence }; next = refl; first = refl }
