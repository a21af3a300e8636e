use Rattle.std.proofs.Common.{◌%◌, ◌*◌, arith, rules}
use Rattle.cove_exec.proofs.MemoryLemmas.{IsMergedFrom, merged_from}
use Rattle.cove_exec.proofs.memory.merge.Goals as goal

merged_at : (c : goal.After-low-3)
    → IsMergedFrom c.args.word c.args.value (8 * (c.args.addr % 8)) (8 * c.args.size) c.low.result c.low-2.result c.low-3.result
merged_at c =
    merged_from c.args.word c.args.value c.args.addr c.args.size c.low.result c.low-2.result c.low-3.result
    c.requires.size c.requires.aligned (omega arith) c.low.ensures c.low-2.ensures c.low-3.ensures

pub overflow_add-result : goal.overflow_add-result
overflow_add-result c = let first = (merged_at c).first in search rules

pub overflow_add-result-2 : goal.overflow_add-result-2
overflow_add-result-2 c = let second = (merged_at c).second in search rules

pub returns : goal.returns
returns c = (merged_at c).whole
