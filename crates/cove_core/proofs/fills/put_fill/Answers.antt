use Rattle.std.proofs.Common.{◌∙◌}
use Rattle.cove_core.proofs.FillLemmas.{part_all, part_more, show_same}
use Rattle.cove_core.proofs.fills.put_fill.Goals as goal

pub loop-i-preserved : goal.loop-i-preserved
loop-i-preserved c =
    let items = c.as_slice-byte-items.ensures in
    record {
      shows = λ byte shows. show_same c.put_byte.new.memory _ _ (λ a. part_more c.args.fill.now byte c.loop-i.i a (rw items at c.loop-i-test.true))
          (rw items at (c.put_byte.ensures.shows _ (c.loop-i.invariant.shows byte shows)));
      size = c.put_byte.ensures.size ∙ c.loop-i.invariant.size;
    }

pub returns-clause-shows : goal.returns-clause-shows
returns-clause-shows c = λ byte shows.
    show_same c.loop-i.memory _ _ (λ a. part_all c.args.fill.now byte c.loop-i.i a (rw c.as_slice-byte-items.ensures at c.loop-i-test.false)) (c.loop-i.invariant.shows byte shows)
