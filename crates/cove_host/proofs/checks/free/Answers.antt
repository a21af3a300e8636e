use Rattle.std.proofs.Common.{◌∙◌, ◌/◌, ap, not, sym}
use Rattle.cove_model.specs.Machine.{InvalidAddress, plain}
use Rattle.cove_host.proofs.FreePages.{floor_is, free_told}
use Rattle.cove_host.proofs.ReadyWords.{page_words}
use Rattle.cove_host.specs.Checked.{checked}
use Rattle.cove_host.proofs.checks.free.Goals as goal

pub all_free-requires-clause-page_words : goal.all_free-requires-clause-page_words
all_free-requires-clause-page_words g c =
    rw (c.pages_from.ensures.first, c.pages_from.ensures.count, c.floor-floor.ensures.unchanged.words) (page_words _ _ c.requires.ready (c.args.base / 4096) c.args.n c.requires.inside)

pub returns-clause-told : goal.returns-clause-told
returns-clause-told g c = λ S stands.
    c.check.ensures
    ∙ ap (λ b. checked (plain (not b) InvalidAddress))
    (sym (free_told _ _ S (c.args.base / 4096) c.args.n c.floor-floor.result c.all_free.result stands c.requires.inside
    (floor_is _ _ _ c.epochs.result c.floor-floor.result c.epochs.ensures.first c.epochs.ensures.harts c.floor-floor.ensures.least c.floor-floor.ensures.answered)
    (rw (c.pages_from.ensures.first, c.pages_from.ensures.count, c.floor-floor.ensures.unchanged.words) at c.all_free.ensures.all)))
