use Rattle.cove_base.proofs.LineLinkLemmas.{linked_none}
use Rattle.cove_base.proofs.script_lines.Lines.new.Goals as goal

pub invariant_of-result : goal.invariant_of-result
invariant_of-result c = rw (c.new.ensures, c.new-2.ensures.items) linked_none
