use Rattle.std.proofs.Common.{◌≡◌, ◌∙◌, ◌+◌, subst, arith}
use Rattle.cove_base.proofs.StoreLemmas.{AllAllowed-weaker}
use Rattle.cove_base.specs.Modes.{leaves_of}
use Rattle.cove_base.specs.Tables.{present}
use Rattle.cove_model.specs.LawfulStores.{IsLawful}
use Rattle.cove_stage2.specs.MapStores.{map_stores}
use Rattle.cove_tvm.proofs.MappedRuns.{next_absent, next_allowed, next_enough, run_goes_on}
use Rattle.cove_tvm.specs.MappedRuns.{AreMapped}
use Rattle.cove_host.proofs.mapping.map_run.Goals as goal

pub map-requires-clause-tree : goal.map-requires-clause-tree
map-requires-clause-tree g c = (c.loop-i.invariant.mapped c.requires.harts c.requires.tvm c.requires.may).tables.tree

pub map-requires-clause-absent : goal.map-requires-clause-absent
map-requires-clause-absent g c =
    next_absent c.args.tables.pages c.requires.harts c.requires.tvm c.args.tables.root.0 (leaves_of c.args.tables.mode) c.args.first.0 c.args.page.0 c.args.n c.loop-i.i c.args.shared
    (g.W.Words.words c.args.w.now) c.args.pool.now.pages (g.W.Words.words c.loop-i.w) c.loop-i.pool.pages c.loop-i-test.true c.requires.may
    (c.loop-i.invariant.mapped c.requires.harts c.requires.tvm c.requires.may)

pub map-requires-clause-pool : goal.map-requires-clause-pool
map-requires-clause-pool g c = (c.loop-i.invariant.mapped c.requires.harts c.requires.tvm c.requires.may).tables.spare

pub map-requires-clause-enough : goal.map-requires-clause-enough
map-requires-clause-enough g c =
    next_enough c.args.tables.pages c.requires.harts c.requires.tvm c.args.tables.root.0 (leaves_of c.args.tables.mode) c.args.first.0 c.args.page.0 c.args.n c.loop-i.i c.args.shared
    (g.W.Words.words c.args.w.now) c.args.pool.now.pages (g.W.Words.words c.loop-i.w) c.loop-i.pool.pages c.loop-i-test.true c.requires.may
    (c.loop-i.invariant.mapped c.requires.harts c.requires.tvm c.requires.may)

pub map-requires-clause-allowed : goal.map-requires-clause-allowed
map-requires-clause-allowed g c =
    let words = g.W.Words.words c.loop-i.w in
    rw c.loop-i.invariant.guard
    (AllAllowed-weaker (IsLawful c.args.tables.pages c.requires.harts c.requires.hart c.requires.start) (g.W.Words.allows (g.W.Words.guard c.args.w.now)) words
    (map_stores c.args.tables.pages c.args.tables.root.0 (leaves_of c.args.tables.mode) words c.loop-i.pool.pages (c.args.first.0 + c.loop-i.i) (present (c.args.page.0 + c.loop-i.i) c.args.shared))
    c.requires.lawful
    (next_allowed c.args.tables.pages c.requires.harts c.requires.tvm c.args.tables.root.0 (leaves_of c.args.tables.mode) c.args.first.0 c.args.page.0 c.args.n c.loop-i.i c.args.shared
    (g.W.Words.words c.args.w.now) c.args.pool.now.pages words c.loop-i.pool.pages c.loop-i-test.true c.requires.may
    (c.loop-i.invariant.mapped c.requires.harts c.requires.tvm c.requires.may) c.requires.hart c.requires.start))

pub loop-i-preserved : goal.loop-i-preserved
loop-i-preserved g c =
    let mapped = c.map.ensures in
    record {
      mapped = λ harts t may.
          run_goes_on c.args.tables.pages harts t c.args.tables.root.0 (leaves_of c.args.tables.mode) c.args.first.0 c.args.page.0 c.args.n c.loop-i.i c.args.shared (g.W.Words.words c.args.w.now)
          c.args.pool.now.pages (g.W.Words.words c.loop-i.w) c.loop-i.pool.pages (g.W.Words.words c.map.new.w) c.map.new.pool.pages c.loop-i-test.true may
          (c.loop-i.invariant.mapped harts t may)
          (record { stores = mapped.stores; leaf = mapped.leaf; way = mapped.way; pool_is = mapped.pool; lost = mapped.lost; spare = mapped.spare; rest = mapped.rest });
      room = mapped.room ∙ c.loop-i.invariant.room;
      guard = mapped.guard ∙ c.loop-i.invariant.guard;
    }

pub returns-clause-mapped : goal.returns-clause-mapped
returns-clause-mapped g c = λ harts t may.
    let all : c.loop-i.i ≡ c.args.n = omega (arith, c.loop-i.auto.i-end, c.loop-i-test.false) in
    subst (λ i.
    AreMapped c.args.tables.pages harts t c.args.tables.root.0 (leaves_of c.args.tables.mode) c.args.first.0 c.args.page.0 c.args.n i c.args.shared (g.W.Words.words c.args.w.now) c.args.pool.now.pages
    (g.W.Words.words c.loop-i.w) c.loop-i.pool.pages) all (c.loop-i.invariant.mapped harts t may)
