use Rattle.std.proofs.Common.{ℕ, List, ◌≡◌, ◌<◌, ◌^◌, ◌∙◌, false, ap, arith}
use Rattle.cove_base.specs.Modes.{leaves_of}
use Rattle.cove_base.specs.TableWords.{blocked}
use Rattle.cove_base.specs.Tables.{leaf_at, present}
use Rattle.cove_stage2.specs.Changes.{IsBlockedLeaf, unblocked}
use Rattle.cove_stage2.proofs.LeafLemmas.{unblocked-blocked}
use Rattle.cove_tests.proofs.stage2_tests.leaf_words.Goals as goal

is-blocked : (leaf old since : ℕ) → leaf ≡ blocked old since → old ≡ present 11 false → since < 2 ^ 32 → IsBlockedLeaf leaf
is-blocked leaf old since e was small = (11, false, since, omega arith, small, e ∙ ap (λ l. blocked l since) was)

-- the leaf that was unblocked is what it was before it was blocked
unblocked-again : (leaf mid old since : ℕ) → leaf ≡ unblocked mid → mid ≡ blocked old since → old ≡ present 11 false → leaf ≡ present 11 false
unblocked-again leaf mid old since e was before =
    e ∙ unblocked-blocked mid 11 false since (omega arith) (was ∙ ap (λ l. blocked l since) before)

pub block-requires-clause-present : goal.block-requires-clause-present
block-requires-clause-present c = (11, false, omega arith, c.requires.leaf)

pub unblock-requires-clause-blocked : goal.unblock-requires-clause-blocked
unblock-requires-clause-blocked c =
    let leaf : List ℕ → ℕ = λ ws. leaf_at c.args.tables.pages c.args.tables.root.0 (leaves_of c.args.tables.mode) ws 17 in
    is-blocked (leaf c.get-blocked.new.self) (leaf c.args.words.now) 5
    (ap leaf c.get-blocked.ensures.words ∙ c.block.ensures.leaf.here) c.requires.leaf (omega arith)

pub block-requires-2-clause-present : goal.block-requires-2-clause-present
block-requires-2-clause-present c =
    let leaf : List ℕ → ℕ = λ ws. leaf_at c.args.tables.pages c.args.tables.root.0 (leaves_of c.args.tables.mode) ws 17 in (
      11,
      false,
      omega arith,
      unblocked-again (leaf c.get-unblocked.new.self) (leaf c.get-blocked.new.self) (leaf c.args.words.now) 5
          (ap leaf c.get-unblocked.ensures.words ∙ c.unblock.ensures.leaf.here) (ap leaf c.get-blocked.ensures.words ∙ c.block.ensures.leaf.here) c.requires.leaf,
    )

pub unmap-requires-clause-blocked : goal.unmap-requires-clause-blocked
unmap-requires-clause-blocked c =
    let leaf : List ℕ → ℕ = λ ws. leaf_at c.args.tables.pages c.args.tables.root.0 (leaves_of c.args.tables.mode) ws 17 in
    let present_again : leaf c.get-unblocked.new.self ≡ present 11 false = unblocked-again (leaf c.get-unblocked.new.self) (leaf c.get-blocked.new.self) (leaf c.args.words.now) 5
    (ap leaf c.get-unblocked.ensures.words ∙ c.unblock.ensures.leaf.here) (ap leaf c.get-blocked.ensures.words ∙ c.block.ensures.leaf.here) c.requires.leaf in
    is-blocked (leaf c.block-2.new.w) (leaf c.get-unblocked.new.self) 6 c.block-2.ensures.leaf.here present_again (omega arith)
