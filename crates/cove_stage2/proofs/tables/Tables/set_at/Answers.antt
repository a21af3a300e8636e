use Rattle.std.proofs.Common.{◌∙◌, set, ap}
use Rattle.cove_base.proofs.TreeLemmas.{stands-within}
use Rattle.cove_base.specs.Modes.{leaves_of}
use Rattle.cove_base.specs.Tables.{At}
use Rattle.cove_stage2.proofs.LeafLemmas.{leaf-changes, place-is}
use Rattle.cove_stage2.proofs.tables.Tables.set_at.Goals as goal

pub set-requires-clause-place : goal.set-requires-clause-place
set-requires-clause-place g c =
    stands-within c.args.self.now.pages c.args.self.now.root.0 (leaves_of c.args.self.now.mode) (g.W.Words.words c.args.w.now) c.requires.tree (At (leaves_of c.args.self.now.mode) c.args.g.0) c.args.place c.requires.guest c.requires.place

pub set-requires-clause-allowed : goal.set-requires-clause-allowed
set-requires-clause-allowed g c =
    rw (place-is c.args.self.now.pages c.args.self.now.root.0 (g.W.Words.words c.args.w.now) (At (leaves_of c.args.self.now.mode) c.args.g.0) c.args.place c.requires.place) c.requires.allowed.0

pub returns-clause-stores : goal.returns-clause-stores
returns-clause-stores g c =
    let words = g.W.Words.words c.args.w.now in
    c.set.ensures.words ∙ ap (λ p. set words p c.args.leaf)
    (place-is c.args.self.now.pages c.args.self.now.root.0 words (At (leaves_of c.args.self.now.mode) c.args.g.0) c.args.place c.requires.place)

pub returns-clause-leaf : goal.returns-clause-leaf
returns-clause-leaf g c =
    rw c.set.ensures.words
    (leaf-changes c.args.self.now.pages c.args.self.now.root.0 (leaves_of c.args.self.now.mode) (g.W.Words.words c.args.w.now) c.args.g.0 c.args.leaf c.args.place c.requires.tree c.requires.guest c.requires.leaf c.requires.place).0

pub returns-clause-links : goal.returns-clause-links
returns-clause-links g c =
    rw c.set.ensures.words
    (leaf-changes c.args.self.now.pages c.args.self.now.root.0 (leaves_of c.args.self.now.mode) (g.W.Words.words c.args.w.now) c.args.g.0 c.args.leaf c.args.place c.requires.tree c.requires.guest c.requires.leaf c.requires.place).1
