use Rattle.std.proofs.lemmas.Bool.{false≢true}
use Rattle.cove_stage2.specs.Entries.{OfLeaf}
use Rattle.cove_stage2.proofs.entries.decode.Goals as goal

pub returns-in-None-clause-word : goal.returns-in-None-clause-word
returns-in-None-clause-word c = absurd (false≢true (c.in-None.ensures.exact.1 (OfLeaf c.requires)))
