use Rattle.cove_host.proofs.LifeTold.{changed}
use Rattle.cove_host.specs.Mapped.{MapsIn}
use Rattle.cove_host.proofs.mapping.map_pages.Goals as goal

pub returns-in-Some-clause-mapped : goal.returns-in-Some-clause-mapped
returns-in-Some-clause-mapped g c = changed c.args.t c.args.g.now (MapsIn c.args.first.0 c.args.page.0 c.args.n c.args.shared (g.W.Words.words c.args.w.now) (g.W.Words.words c.map_into.new.w)) _ _ c.in-Some.ensures.value c.map_into.ensures.mapped
