use Rattle.std.proofs.Common.{◌∙◌, ◌/◌, ap, not, sym}
use Rattle.cove_model.specs.Machine.{InvalidAddress, plain}
use Rattle.cove_host.proofs.PageTests.{host_told}
use Rattle.cove_host.proofs.ReadyWords.{page_words}
use Rattle.cove_host.specs.Checked.{checked}
use Rattle.cove_host.proofs.runs.all_host.Goals as goal

pub all_host-requires-clause-page_words : goal.all_host-requires-clause-page_words
all_host-requires-clause-page_words g c =
    rw (c.pages_from.ensures.first, c.pages_from.ensures.count) (page_words _ _ c.requires.ready (c.args.base / 4096) c.args.n c.requires.inside)

pub returns-clause-told : goal.returns-clause-told
returns-clause-told g c = λ S stands.
    c.check.ensures
    ∙ ap (λ b. checked (plain (not b) InvalidAddress))
    (sym (host_told _ _ S (c.args.base / 4096) c.args.n c.all_host.result stands c.requires.inside
    (rw (c.pages_from.ensures.first, c.pages_from.ensures.count) at c.all_host.ensures.all)))
