use Rattle.std.proofs.Common.{◌∙◌, refl, sym, ap, subst, arith}
use Rattle.cove_base.proofs.TreeLemmas.{entry-stands, stands-within}
use Rattle.cove_base.specs.Modes.{leaves_of}
use Rattle.cove_base.specs.Stores.{stored, AllAllowed}
use Rattle.cove_base.specs.Tables.{At, IsLink}
use Rattle.cove_stage2.proofs.LeafLemmas.{named-board}
use Rattle.cove_stage2.proofs.LinkLemmas.{link_stores-some, pool_after-some, links-some, links-none, pool-none}
use Rattle.cove_stage2.specs.MapStores.{link_stores}
use Rattle.cove_stage2.proofs.tables.Tables.linked.Goals as goal

pub get-entry-requires : goal.get-entry-requires
get-entry-requires g c =
    stands-within c.args.self.now.pages c.args.self.now.root.0 (leaves_of c.args.self.now.mode) (g.W.Words.words c.args.w.now) c.requires.tree (At c.args.depth c.args.n) c.args.place c.requires.slot.1 c.requires.place

pub take_page-page-requires : goal.take_page-page-requires
take_page-page-requires g c =
    c.requires.enough (entry-stands c.args.self.now.pages c.args.self.now.root.0 (g.W.Words.words c.args.w.now) (At c.args.depth c.args.n) c.args.place c.requires.place ∙ sym c.get-entry.ensures.value ∙ c.if-entry-eq0.true)

pub set-requires-clause-place : goal.set-requires-clause-place
set-requires-clause-place g c =
    rw c.get-entry.ensures.words
    (stands-within c.args.self.now.pages c.args.self.now.root.0 (leaves_of c.args.self.now.mode) (g.W.Words.words c.args.w.now) c.requires.tree (At c.args.depth c.args.n) c.args.place c.requires.slot.1 c.requires.place)

pub set-requires-clause-allowed : goal.set-requires-clause-allowed
set-requires-clause-allowed g c =
    let none = entry-stands c.args.self.now.pages c.args.self.now.root.0 (g.W.Words.words c.args.w.now) (At c.args.depth c.args.n) c.args.place c.requires.place ∙ sym c.get-entry.ensures.value ∙ c.if-entry-eq0.true in
    let allowed = subst (λ e. AllAllowed (g.W.Words.allows (g.W.Words.guard c.args.w.now)) (g.W.Words.words c.args.w.now) (link_stores e c.args.place c.args.pool.now.pages)) none c.requires.allowed in
    rw (c.get-entry.ensures.guard, c.get-entry.ensures.words, c.take_page-page.ensures.page) allowed.0

pub overflow_cast-result : goal.overflow_cast-result
overflow_cast-result g c =
    let link : IsLink c.args.self.now.pages c.args.self.now.root.0 c.get-entry.result =
    rw (c.get-entry.ensures.value, sym (entry-stands c.args.self.now.pages c.args.self.now.root.0 (g.W.Words.words c.args.w.now) (At c.args.depth c.args.n) c.args.place c.requires.place)) (c.requires.tree.links (At c.args.depth c.args.n) c.requires.slot) in
    let named = named-board c.args.self.now.pages c.args.self.now.root.0 c.get-entry.result link c.if-entry-eq0.false in
    omega (arith, named, c.args.self.now.limit)

pub returns-then-entry-eq0-clause-stores : goal.returns-then-entry-eq0-clause-stores
returns-then-entry-eq0-clause-stores g c =
    let none = entry-stands c.args.self.now.pages c.args.self.now.root.0 (g.W.Words.words c.args.w.now) (At c.args.depth c.args.n) c.args.place c.requires.place ∙ sym c.get-entry.ensures.value ∙ c.if-entry-eq0.true in
    rw (c.set.ensures.words, c.get-entry.ensures.words, c.take_page-page.ensures.page, none) refl

pub returns-then-entry-eq0-clause-table : goal.returns-then-entry-eq0-clause-table
returns-then-entry-eq0-clause-table g c =
    let none = entry-stands c.args.self.now.pages c.args.self.now.root.0 (g.W.Words.words c.args.w.now) (At c.args.depth c.args.n) c.args.place c.requires.place ∙ sym c.get-entry.ensures.value ∙ c.if-entry-eq0.true in
    rw (c.set.ensures.words, c.get-entry.ensures.words, c.take_page-page.ensures.page) (links-none c.args.self.now.pages c.args.self.now.root.0 (leaves_of c.args.self.now.mode) (g.W.Words.words c.args.w.now) (At c.args.depth c.args.n) c.args.place c.args.pool.now.pages c.requires.tree c.requires.slot c.requires.place c.requires.pool none (c.requires.enough none))

pub returns-then-entry-eq0-clause-pool : goal.returns-then-entry-eq0-clause-pool
returns-then-entry-eq0-clause-pool g c =
    let none = entry-stands c.args.self.now.pages c.args.self.now.root.0 (g.W.Words.words c.args.w.now) (At c.args.depth c.args.n) c.args.place c.requires.place ∙ sym c.get-entry.ensures.value ∙ c.if-entry-eq0.true in
    rw (c.take_page-page.ensures.pages, none) refl

pub returns-then-entry-eq0-clause-spare : goal.returns-then-entry-eq0-clause-spare
returns-then-entry-eq0-clause-spare g c =
    let none = entry-stands c.args.self.now.pages c.args.self.now.root.0 (g.W.Words.words c.args.w.now) (At c.args.depth c.args.n) c.args.place c.requires.place ∙ sym c.get-entry.ensures.value ∙ c.if-entry-eq0.true in
    rw (c.set.ensures.words, c.get-entry.ensures.words, c.take_page-page.ensures.page, c.take_page-page.ensures.pages) (pool-none c.args.self.now.pages c.args.self.now.root.0 (leaves_of c.args.self.now.mode) (g.W.Words.words c.args.w.now) (At c.args.depth c.args.n) c.args.place c.args.pool.now.pages c.requires.tree c.requires.slot c.requires.place c.requires.pool none (c.requires.enough none))

pub returns-else-entry-eq0-clause-stores : goal.returns-else-entry-eq0-clause-stores
returns-else-entry-eq0-clause-stores g c =
    rw (c.get-entry.ensures.words, entry-stands c.args.self.now.pages c.args.self.now.root.0 (g.W.Words.words c.args.w.now) (At c.args.depth c.args.n) c.args.place c.requires.place ∙ sym c.get-entry.ensures.value)
    (sym (ap (stored (g.W.Words.words c.args.w.now)) (link_stores-some c.get-entry.result c.args.place c.args.pool.now.pages c.if-entry-eq0.false)))

pub returns-else-entry-eq0-clause-table : goal.returns-else-entry-eq0-clause-table
returns-else-entry-eq0-clause-table g c =
    let is = entry-stands c.args.self.now.pages c.args.self.now.root.0 (g.W.Words.words c.args.w.now) (At c.args.depth c.args.n) c.args.place c.requires.place ∙ sym c.get-entry.ensures.value in
    rw (c.get-entry.ensures.words, sym is) (links-some c.args.self.now.pages c.args.self.now.root.0 (leaves_of c.args.self.now.mode) (g.W.Words.words c.args.w.now) (At c.args.depth c.args.n) c.requires.tree c.requires.slot (λ e. c.if-entry-eq0.false (sym is ∙ e)))

pub returns-else-entry-eq0-clause-board : goal.returns-else-entry-eq0-clause-board
returns-else-entry-eq0-clause-board g c =
    let link : IsLink c.args.self.now.pages c.args.self.now.root.0 c.get-entry.result =
    rw (c.get-entry.ensures.value, sym (entry-stands c.args.self.now.pages c.args.self.now.root.0 (g.W.Words.words c.args.w.now) (At c.args.depth c.args.n) c.args.place c.requires.place)) (c.requires.tree.links (At c.args.depth c.args.n) c.requires.slot) in
    named-board c.args.self.now.pages c.args.self.now.root.0 c.get-entry.result link c.if-entry-eq0.false

pub returns-else-entry-eq0-clause-pool : goal.returns-else-entry-eq0-clause-pool
returns-else-entry-eq0-clause-pool g c =
    rw (entry-stands c.args.self.now.pages c.args.self.now.root.0 (g.W.Words.words c.args.w.now) (At c.args.depth c.args.n) c.args.place c.requires.place ∙ sym c.get-entry.ensures.value) (sym (pool_after-some c.get-entry.result c.args.pool.now.pages c.if-entry-eq0.false))
