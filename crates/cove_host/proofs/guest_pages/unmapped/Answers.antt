use Rattle.std.proofs.Common.{◌∙◌, ◌/◌, ap, sym}
use Rattle.cove_model.specs.Machine.{AlreadyAvailable, plain}
use Rattle.cove_host.proofs.GuestsTold.{tree_of, unmapped_told}
use Rattle.cove_host.specs.Checked.{checked}
use Rattle.cove_host.proofs.guest_pages.unmapped.Goals as goal

pub are_absent-requires-clause-tree : goal.are_absent-requires-clause-tree
are_absent-requires-clause-tree g c = tree_of c.requires.live

pub returns-clause-told : goal.returns-clause-told
returns-clause-told g c = λ S t one.
    c.check.ensures
    ∙ ap (λ b. checked (plain b AlreadyAvailable))
    (sym (unmapped_told one (c.args.gpa / 4096) c.args.n c.are_absent.result c.requires.near c.are_absent.ensures.none))
