use Rattle.std.proofs.Common.{◌∙◌, ◌/◌, ap, sym}
use Rattle.std.proofs.lemmas.Bool.{not-false}
use Rattle.cove_model.specs.Machine.{Denied, every, is_host, plain}
use Rattle.cove_host.proofs.ReadyWords.{page_words}
use Rattle.cove_host.proofs.SharedPages.{shared_told}
use Rattle.cove_host.specs.Checked.{checked}
use Rattle.cove_host.proofs.owners.none_shared.Goals as goal

pub any_mapped-requires-clause-page_words : goal.any_mapped-requires-clause-page_words
any_mapped-requires-clause-page_words g c =
    rw (c.pages_from.ensures.first, c.pages_from.ensures.count) (page_words _ _ c.requires.ready (c.args.base / 4096) c.args.n c.requires.inside)

pub returns-clause-told : goal.returns-clause-told
returns-clause-told g c = λ S stands hosts.
    c.check.ensures
    ∙ ap (λ b. checked (plain b Denied))
    (sym (shared_told _ _ S (c.args.base / 4096) c.args.n stands c.requires.inside (not-false (every is_host (c.args.base / 4096) c.args.n S.pages) hosts)
    c.any_mapped.result (rw (c.pages_from.ensures.first, c.pages_from.ensures.count) at c.any_mapped.ensures.any)))
