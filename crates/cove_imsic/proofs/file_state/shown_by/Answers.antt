use Rattle.cove_imsic.proofs.MaskLemmas.{shows_all, shows_below}
use Rattle.cove_imsic.proofs.file_state.shown_by.Goals as goal

pub returns-then-threshold-eq0 : goal.returns-then-threshold-eq0
returns-then-threshold-eq0 c id below = rw c.if-threshold-eq0.true (shows_all id below)

pub returns-else-threshold-eq0 : goal.returns-else-threshold-eq0
returns-else-threshold-eq0 c = shows_below c.args.threshold c.requires c.if-threshold-eq0.false
