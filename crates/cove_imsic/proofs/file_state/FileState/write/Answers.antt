use Rattle.cove_imsic.proofs.MaskLemmas.{set-even}
use Rattle.cove_imsic.proofs.file_state.FileState.write.Goals as goal

pub returns-in-128 : goal.returns-in-128
returns-in-128 c = rw (← c.self-in-337.view_is, c.in-337.is, c.in-128.is, set-even c.args.value)

pub returns-in-192 : goal.returns-in-192
returns-in-192 c = rw (← c.self-in-337.view_is, c.in-337.is, c.in-192.is, set-even c.args.value)
