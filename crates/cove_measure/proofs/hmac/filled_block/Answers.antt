use Rattle.std.proofs.lemmas.List.{drop-replicate}
use Rattle.cove_measure.proofs.hmac.filled_block.Goals as goal

pub returns : goal.returns
returns c = rw (c.copy_from_slice.ensures.after, drop-replicate)
