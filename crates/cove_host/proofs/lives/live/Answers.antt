use Rattle.std.proofs.Common.{sym}
use Rattle.cove_host.proofs.lives.live.Goals as goal

pub returns-in-Some-clause-found : goal.returns-in-Some-clause-found
returns-in-Some-clause-found c = λ words S stands. record { ground = c.args.g.now; stands = stands; live = sym c.in-Some.ensures }

pub returns-in-Some-clause-live : goal.returns-in-Some-clause-live
returns-in-Some-clause-live c = sym c.in-Some.ensures
