use Rattle.cove_base.specs.EventWords.{event_words}
use Rattle.cove_base.specs.Numbers.{natural_text}
use Rattle.cove_journal.proofs.WordsAfter.{words_after-is}
use Rattle.cove_journal.proofs.writing.line.Goals as goal

pub returns-clause-text : goal.returns-clause-text
returns-clause-text c =
    rw (c.put_event.ensures.text, c.event.ensures.event, c.put_natural.ensures.text, c.hart.ensures, c.clear.ensures)
    (words_after-is (natural_text c.args.entry.now.hart.0) (event_words c.args.entry.now.event))
