use Rattle.std.proofs.Common.{subst}
use Rattle.cove_monitor.specs.Events.{NamesNone}
use Rattle.cove_monitor.proofs.laws.entries_of_harts.Goals as goal

pub returns-clause-load_missed : goal.returns-clause-load_missed
returns-clause-load_missed c held before now place made addr is = subst (NamesNone held.rings) is made.missed

pub returns-clause-store_missed : goal.returns-clause-store_missed
returns-clause-store_missed c held before now place made addr value is = subst (NamesNone held.rings) is made.missed
