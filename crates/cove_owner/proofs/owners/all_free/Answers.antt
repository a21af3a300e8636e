use Rattle.std.proofs.Common.{◌+◌, arith}
use Rattle.cove_owner.proofs.owners.all_free.Goals as goal

pub state-requires-clause-word : goal.state-requires-clause-word
state-requires-clause-word g c =
    rw c.loop-i.invariant.unchanged.words (c.requires.page_words (c.args.range.first.0 + c.loop-i.i) (omega arith) (omega arith))
