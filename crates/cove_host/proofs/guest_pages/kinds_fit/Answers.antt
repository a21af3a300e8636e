use Rattle.std.proofs.Common.{◌∙◌, ◌+◌, ◌/◌, ◌≤◌, not}
use Rattle.std.proofs.lemmas.Bool.{not-false}
use Rattle.cove_base.specs.Modes.{guest_limit}
use Rattle.cove_base.specs.declared.statuses.Status.TheVariants.{InvalidAddress}
use Rattle.cove_host.proofs.GuestsTold.{kind_near, kinds_told, never_outside}
use Rattle.cove_host.proofs.PassedChecks.{on_pass}
use Rattle.cove_host.specs.GuestRuns.{kind_as}
use Rattle.cove_host.proofs.guest_pages.kinds_fit.Goals as goal

pub returns-clause-told : goal.returns-clause-told
returns-clause-told c = λ words S t one.
    c.check.ensures ∙ kinds_told one c.args.shared c.are_of_kind.result c.args.gpa c.args.n (rw c.mapped_kind.ensures at c.are_of_kind.ensures)

pub returns-clause-near : goal.returns-clause-near
returns-clause-near c = λ words S t one.
    let are = rw c.mapped_kind.ensures at c.are_of_kind.ensures in
    on_pass (not c.are_of_kind.result) InvalidAddress (c.args.gpa / 4096 + c.args.n ≤ guest_limit c.args.tvm.now.tables.mode) c.check.result c.check.ensures (λ pass.
    kind_near one (kind_as c.args.shared) (c.args.gpa / 4096) c.args.n (never_outside c.args.shared) c.requires.within.0 (are.0 (not-false c.are_of_kind.result pass)))
