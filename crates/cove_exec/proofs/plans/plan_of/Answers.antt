use Rattle.cove_base.specs.Registers.{registers}
use Rattle.cove_exec.proofs.UsableLemmas.{usable}
use Rattle.cove_exec.proofs.plans.plan_of.Goals as goal

pub returns-clause-usable : goal.returns-clause-usable
returns-clause-usable c =
    rw c.planned.ensures (usable (registers c.args.regs.now) c.args.regs.now.pc c.args.insn c.requires)
