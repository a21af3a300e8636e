use Rattle.cove_host.proofs.CheckedLemmas.{stops}
use Rattle.cove_host.specs.GuestRuns.{mapping_checks}
use Rattle.cove_host.proofs.mapping.may_map.Goals as goal

pub returns-in_err-kinds_fit-clause-told : goal.returns-in_err-kinds_fit-clause-told
returns-in_err-kinds_fit-clause-told g c = λ S t one.
    stops 0 (mapping_checks c.args.shared S t c.args.gpa c.args.n) c.from_residual.ensures.1 tt (c.in_err-kinds_fit.ensures.told _ S t one)

pub unmapped-requires-clause-near : goal.unmapped-requires-clause-near
unmapped-requires-clause-near g c =
    let one = c.requires.live in c.in_ok-kinds_fit.ensures.near _ one.state one.number one.live

pub enough_tables-requires-clause-near : goal.enough_tables-requires-clause-near
enough_tables-requires-clause-near g c =
    let one = c.requires.live in c.in_ok-kinds_fit.ensures.near _ one.state one.number one.live
