-- Which vCPUs an interrupt wakes, by computing the least of the identities.
use Rattle.std.proofs.Common.{◌≡◌, true, refl}
use Rattle.cove_base.specs.InterruptFiles.{identities, least, empty_file}
use Rattle.cove_model.specs.Deeds.{Executes, Waits}
use Rattle.cove_model.specs.WorkedDeeds.{doing_with, signalled}

pub wakes : doing_with (signalled true) 0x10500073 ≡ Executes 0 0 0x10004 (signalled true)
unfolding least identities
wakes = refl

pub waits_with_nothing_pending : doing_with (record empty_file { delivery = true }) 0x10500073 ≡ Waits
unfolding least identities
waits_with_nothing_pending = refl
