use Rattle.std.proofs.Common.{◌+◌, ◌∙◌, length, ap}
use Rattle.cove_base.specs.Modes.{leaves_of}
use Rattle.cove_base.specs.Tables.{IsPresent, present}
use Rattle.cove_stage2.specs.Lacked.{tables_lacked}
use Rattle.cove_stage2.proofs.LackedLemmas.{pool_left-length}
use Rattle.cove_stage2.proofs.LinkLemmas.{leaf-kept, pool-kept, way-kept}
use Rattle.cove_stage2.proofs.RestLemmas.{lacks-rest}
use Rattle.cove_stage2.proofs.tables.Tables.map.Goals as goal

pub set_at-requires-clause-leaf : goal.set_at-requires-clause-leaf
set_at-requires-clause-leaf g c = IsPresent c.args.page.0 c.args.shared c.requires.page c.encode.ensures

pub returns-clause-leaf : goal.returns-clause-leaf
returns-clause-leaf g c =
    let linked = c.link_way-place.ensures.linked in
    leaf-kept c.args.self.now.pages c.args.self.now.root.0 (leaves_of c.args.self.now.mode) (g.W.Words.words c.args.w.now) (g.W.Words.words c.link_way-place.new.w) (g.W.Words.words c.set_at.new.w) c.args.g.0 (present c.args.page.0 c.args.shared) c.requires.guest linked.way
    linked.length (rw (← c.encode.ensures) c.set_at.ensures.leaf)

pub returns-clause-way : goal.returns-clause-way
returns-clause-way g c =
    way-kept c.args.self.now.pages c.args.self.now.root.0 (leaves_of c.args.self.now.mode) (g.W.Words.words c.args.w.now) (g.W.Words.words c.link_way-place.new.w) (g.W.Words.words c.set_at.new.w) c.args.g.0 c.requires.guest
    c.link_way-place.ensures.linked.way c.set_at.ensures.links

pub returns-clause-spare : goal.returns-clause-spare
returns-clause-spare g c =
    pool-kept c.args.self.now.pages c.args.self.now.root.0 (leaves_of c.args.self.now.mode) (g.W.Words.words c.link_way-place.new.w) (g.W.Words.words c.set_at.new.w) c.link_way-place.new.pool.pages
    c.link_way-place.ensures.linked.spare c.set_at.ensures.links

pub returns-clause-lost : goal.returns-clause-lost
returns-clause-lost g c =
    let words = g.W.Words.words c.args.w.now in
    ap (λ ps. length ps + tables_lacked c.args.self.now.pages c.args.self.now.root.0 words (leaves_of c.args.self.now.mode) c.args.g.0 1) c.link_way-place.ensures.linked.pool_is
    ∙ pool_left-length c.args.self.now.pages c.args.self.now.root.0 words c.args.pool.now.pages (leaves_of c.args.self.now.mode) c.args.g.0 c.requires.enough

pub returns-clause-rest : goal.returns-clause-rest
returns-clause-rest g c =
    lacks-rest c.args.self.now.pages c.args.self.now.root.0 (leaves_of c.args.self.now.mode) (g.W.Words.words c.args.w.now) (g.W.Words.words c.set_at.new.w) c.args.g.0
    (way-kept c.args.self.now.pages c.args.self.now.root.0 (leaves_of c.args.self.now.mode) (g.W.Words.words c.args.w.now) (g.W.Words.words c.link_way-place.new.w) (g.W.Words.words c.set_at.new.w) c.args.g.0 c.requires.guest
    c.link_way-place.ensures.linked.way c.set_at.ensures.links)
