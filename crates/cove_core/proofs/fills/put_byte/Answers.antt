use Rattle.cove_core.proofs.FillLemmas.{show_byte}
use Rattle.cove_core.proofs.fills.put_byte.Goals as goal

pub returns-clause-shows : goal.returns-clause-shows
returns-clause-shows c = λ byte shows.
    rw (c.store.ensures, c.with_byte-word.ensures, c.load.ensures)
    (show_byte c.args.memory.now byte c.args.addr c.args.value shows c.requires.within c.ranges.value.fits)
