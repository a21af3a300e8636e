use Rattle.std.proofs.Common.{◌∙◌, ap, arith, sym}
use Rattle.cove_host.proofs.GuestsTold.{lacking, missing_told, none_missing, some_missing, tree_of}
use Rattle.cove_host.specs.Checked.{checked}
use Rattle.cove_host.proofs.guest_pages.enough_tables.Goals as goal

pub missing_tables-missing-requires-clause-tree : goal.missing_tables-missing-requires-clause-tree
missing_tables-missing-requires-clause-tree g c = tree_of c.requires.live

pub returns-then-missing-gt0-clause-told : goal.returns-then-missing-gt0-clause-told
returns-then-missing-gt0-clause-told g c = λ S t one.
    some_missing c.missing_tables-missing.result c.from.result c.if-missing-gt0.true c.from.ensures
    ∙ ap (λ m. checked (lacking m)) (c.missing_tables-missing.ensures.missing ∙ sym (missing_told one c.args.gpa c.args.n c.requires.near))

pub returns-clause-told : goal.returns-clause-told
returns-clause-told g c = λ S t one.
    none_missing c.missing_tables-missing.result (omega arith)
    ∙ ap (λ m. checked (lacking m)) (c.missing_tables-missing.ensures.missing ∙ sym (missing_told one c.args.gpa c.args.n c.requires.near))
