use Rattle.cove_base.specs.Modes.{leaves_of}
use Rattle.cove_base.specs.Tables.{At}
use Rattle.cove_clear.proofs.Going.{above_on, leaf_above, leaf_own, leaf_shared, leaf_word_is, lowered_above, shared_empty, slot_fits}
use Rattle.cove_clear.proofs.clearing.clear_leaf.Goals as goal

pub get-requires : goal.get-requires
get-requires g c =
    let leaf = c.requires.leaf in
    slot_fits _ _ _ _ _ _ c.requires.leaving (At (leaves_of c.args.tables.now.mode) leaf.0) c.args.place leaf.1 leaf.2

pub named-requires : goal.named-requires
named-requires g c = leaf_word_is _ _ _ _ _ _ c.requires.leaving c.args.place c.get.result c.requires.leaf c.get.ensures.value

pub unmap_shared-requires-clause-shared : goal.unmap_shared-requires-clause-shared
unmap_shared-requires-clause-shared g c =
    rw c.get.ensures.words
    (leaf_shared _ _ _ _ _ _ c.requires.leaving c.args.place c.get.result c.in-Some.page.0 c.in-Some.shared c.requires.leaf c.get.ensures.value c.in-Some.ensures.0 c.in-Some.ensures.1 c.if-shared.true)

pub unmap_shared-requires-clause-leaving : goal.unmap_shared-requires-clause-leaving
unmap_shared-requires-clause-leaving g c = rw (c.get.ensures.guard, c.get.ensures.words) c.requires.leaving

pub gather-requires-clause-own : goal.gather-requires-clause-own
gather-requires-clause-own g c =
    rw c.get.ensures.words
    (leaf_own _ _ _ _ _ _ c.requires.leaving c.args.place c.get.result c.in-Some.page.0 c.in-Some.shared c.requires.leaf c.get.ensures.value c.in-Some.ensures.0 c.in-Some.ensures.1 c.if-shared.false)

pub gather-requires-clause-leaving : goal.gather-requires-clause-leaving
gather-requires-clause-leaving g c = rw (c.get.ensures.guard, c.get.ensures.words) c.requires.leaving

pub returns-then-shared-clause-proceeds : goal.returns-then-shared-clause-proceeds
returns-then-shared-clause-proceeds g c = rw c.get.ensures.words at c.unmap_shared.ensures.proceeds

pub returns-then-shared-clause-empty : goal.returns-then-shared-clause-empty
returns-then-shared-clause-empty g c =
    let shared =
    leaf_shared _ _ _ _ _ _ c.requires.leaving c.args.place c.get.result c.in-Some.page.0 c.in-Some.shared c.requires.leaf c.get.ensures.value c.in-Some.ensures.0 c.in-Some.ensures.1 c.if-shared.true in
    rw (c.unmap_shared.ensures.words, c.get.ensures.words) (shared_empty _ _ _ _ _ _ _ shared _ _ c.requires.leaving.4)

pub returns-then-shared-clause-above : goal.returns-then-shared-clause-above
returns-then-shared-clause-above g c =
    let shared =
    leaf_shared _ _ _ _ _ _ c.requires.leaving c.args.place c.get.result c.in-Some.page.0 c.in-Some.shared c.requires.leaf c.get.ensures.value c.in-Some.ensures.0 c.in-Some.ensures.1 c.if-shared.true in
    rw (c.unmap_shared.ensures.words, c.get.ensures.words)
    (above_on _ _ _ _ _ _ (leaf_above _ _ _ _ _ _ c.requires.leaving c.args.place c.requires.leaf)
    (lowered_above _ _ _ _ _ _ _ shared _ _ c.requires.leaving.4 (leaves_of c.args.tables.now.mode)))

pub returns-else-shared-clause-proceeds : goal.returns-else-shared-clause-proceeds
returns-else-shared-clause-proceeds g c = rw c.get.ensures.words at c.gather.ensures.proceeds

pub returns-else-shared-clause-above : goal.returns-else-shared-clause-above
returns-else-shared-clause-above g c =
    rw (c.gather.ensures.words, c.get.ensures.words) (leaf_above _ _ _ _ _ _ c.requires.leaving c.args.place c.requires.leaf)
