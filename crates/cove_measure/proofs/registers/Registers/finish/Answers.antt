use Rattle.std.proofs.Common.{sym}
use Rattle.cove_base.specs.Measurement.{FinalizeRecord}
use Rattle.cove_measure.proofs.RegisterLemmas.{registers_of-record}
use Rattle.cove_measure.proofs.registers.Registers.finish.Goals as goal

pub returns-clause-measured : goal.returns-clause-measured
returns-clause-measured c records extensions was =
    let more = registers_of-record records extensions (FinalizeRecord c.args.pc c.args.arg) in
    rw (c.extended.ensures, c.finalize_record.ensures, c.self.view_is, was) (sym more)
