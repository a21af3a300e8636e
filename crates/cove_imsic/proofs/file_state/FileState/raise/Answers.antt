use Rattle.cove_imsic.proofs.MaskLemmas.{IsMask-with_bit, set-with_bit}
use Rattle.cove_imsic.proofs.file_state.FileState.raise.Goals as goal

pub invariant_of-self : goal.invariant_of-self
invariant_of-self c =
    record {
      pending_is_mask = IsMask-with_bit c.self.inside.pending c.args.id c.requires.above c.requires.within c.self.invariant.pending_is_mask;
      enabled_is_mask = c.self.invariant.enabled_is_mask;
      threshold_fits = c.self.invariant.threshold_fits;
    }

pub returns : goal.returns
returns c = rw (← c.self.view_is, set-with_bit c.self.inside.pending c.args.id c.requires.above c.requires.within)
