use Rattle.cove_host.proofs.MeasuredRecords.{extends_next}
use Rattle.cove_host.proofs.measured_pages.measure_all.Goals as goal

pub loop-i-preserved : goal.loop-i-preserved
loop-i-preserved c = λ records extensions is.
    extends_next c.args.first.0 c.args.page.0 c.loop-i.i c.args.memory.now c.args.registers.now c.loop-i.registers c.extend_page.new.self c.page-words.result.now
    c.loop-i.invariant c.page-words.ensures.words c.extend_page.ensures.measured records extensions is
