use Rattle.cove_imsic.proofs.SetLemmas.{mask_of_set-set_of_mask}
use Rattle.cove_imsic.proofs.file_state.FileState.read.Goals as goal

pub returns-in-128 : goal.returns-in-128
returns-in-128 c =
    rw (← c.self.view_is, c.in-337.is, c.in-128.is, mask_of_set-set_of_mask c.self.inside.pending c.self.invariant.pending_is_mask.fits c.self.invariant.pending_is_mask.no_bit_0)

pub returns-in-192 : goal.returns-in-192
returns-in-192 c =
    rw (← c.self.view_is, c.in-337.is, c.in-192.is, mask_of_set-set_of_mask c.self.inside.enabled c.self.invariant.enabled_is_mask.fits c.self.invariant.enabled_is_mask.no_bit_0)
