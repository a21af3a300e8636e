use Rattle.cove_host.proofs.Creating.{informs}
use Rattle.cove_host.proofs.info.get_tsm_info.Goals as goal

pub returns-clause-called : goal.returns-clause-called
returns-clause-called g c = informs c.args.h.0 _ _
