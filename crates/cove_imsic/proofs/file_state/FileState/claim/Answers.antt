use Rattle.std.proofs.Common.{◌≡◌, ◌∙◌, arith, sym}
use Rattle.cove_base.specs.InterruptFiles.{top}
use Rattle.cove_imsic.proofs.MaskLemmas.{IsMask-without_bit, set-without_bit, set-without_none}
use Rattle.cove_imsic.proofs.file_state.FileState.claim.Goals as goal

pub invariant_of-self : goal.invariant_of-self
invariant_of-self c =
    record {
      pending_is_mask = IsMask-without_bit c.self.inside.pending c.top-top.result (omega arith) c.top-top.ensures.below c.self.invariant.pending_is_mask;
      enabled_is_mask = c.self.invariant.enabled_is_mask;
      threshold_fits = c.self.invariant.threshold_fits;
    }

pub returns-then-top-gt0 : goal.returns-then-top-gt0
returns-then-top-gt0 c =
    rw (← c.top-top.ensures.identity, ← c.self.view_is, set-without_bit c.self.inside.pending c.top-top.result (omega arith) c.top-top.ensures.below)

pub returns-else-top-gt0 : goal.returns-else-top-gt0
returns-else-top-gt0 c =
    let zero' : c.top-top.result ≡ 0 = omega arith in
    let none : top c.args.self.now ≡ 0 = sym c.top-top.ensures.identity ∙ zero' in
    rw (none, ← c.self.view_is, ← set-without_none c.self.inside.pending)
