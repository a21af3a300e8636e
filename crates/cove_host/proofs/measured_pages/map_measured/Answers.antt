use Rattle.cove_host.proofs.LifeTold.{changed}
use Rattle.cove_host.specs.MeasuredRuns.{MeasuresIn}
use Rattle.cove_host.proofs.measured_pages.map_measured.Goals as goal

pub returns-in-Some-clause-mapped : goal.returns-in-Some-clause-mapped
returns-in-Some-clause-mapped g c = changed c.args.t c.args.g.now (MeasuresIn c.args.first.0 c.args.page.0 c.args.n c.args.g.now.memory (g.W.Words.words c.args.w.now) (g.W.Words.words c.measure_into.new.w)) _ _ c.in-Some.ensures.value c.measure_into.ensures.mapped
