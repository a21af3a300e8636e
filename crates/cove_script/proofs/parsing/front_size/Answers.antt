use Rattle.cove_script.proofs.LoopOverLines.{sized_first}
use Rattle.cove_script.proofs.parsing.front_size.Goals as goal

pub loop-line-init : goal.loop-line-init
loop-line-init c =
    rw (c.into_iter-line-iterator.ensures.into_iter_gives, c.split_lines-line-items.ensures) (sized_first c.args.text.now)
