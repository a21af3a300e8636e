use Rattle.std.proofs.Common.{sym}
use Rattle.cove_base.specs.Tables.{ByBlocked}
use Rattle.cove_clear.proofs.clearing.named.Goals as goal

pub returns-in-Blocked : goal.returns-in-Blocked
returns-in-Blocked c = (c.in-Blocked.ensures.within.0, ByBlocked c.in-Blocked.since (sym c.in-Blocked.ensures.word))
