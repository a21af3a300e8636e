use Rattle.cove_host.proofs.Creating.{refuses}
use Rattle.cove_host.proofs.RegionProofs.{adds_region}
use Rattle.cove_host.proofs.regions.add_memory_region.Goals as goal

pub returns-in-Err-clause-called : goal.returns-in-Err-clause-called
returns-in-Err-clause-called g c =
    refuses _ _ _ _ _ (λ S stands. c.in-Err.ensures.told _ c.args.h.0 S stands)

pub returns-in-Ok-clause-called : goal.returns-in-Ok-clause-called
returns-in-Ok-clause-called g c =
    adds_region _ _ _ c.args.h.0 c.args.gpa c.args.len c.args.t
    (λ S stands. c.in-Ok.ensures.told _ c.args.h.0 S stands) c.add.ensures
