use Rattle.std.proofs.Common.{refl}
use Rattle.cove_host.proofs.Ending.{ending_allowed, ending_over, ending_places, ending_root}
use Rattle.cove_host.proofs.destruction.end_tvm.Goals as goal

pub release_pages-requires-clause-places : goal.release_pages-requires-clause-places
release_pages-requires-clause-places g c =
    ending_places _ _ c.args.tvm.now c.requires.ending _ c.clear_tables.new.pool.pages c.clear_tables.ensures.proceeds c.clear_tables.ensures.empty

pub release_pages-requires-clause-root_fits : goal.release_pages-requires-clause-root_fits
release_pages-requires-clause-root_fits g c =
    (ending_root _ _ c.args.tvm.now c.requires.ending _ c.clear_tables.new.pool.pages c.clear_tables.ensures.proceeds c.clear_tables.ensures.empty).1

pub release_pages-requires-clause-allowed : goal.release_pages-requires-clause-allowed
release_pages-requires-clause-allowed g c =
    rw c.clear_tables.ensures.guard
    (ending_allowed _ _ c.args.tvm.now c.requires.ending _ c.clear_tables.new.pool.pages c.clear_tables.ensures.proceeds c.clear_tables.ensures.empty)

pub returns-clause-ended : goal.returns-clause-ended
returns-clause-ended g c =
    ending_over _ _ c.args.tvm.now c.requires.ending _ c.clear_tables.new.pool.pages c.clear_tables.ensures.proceeds c.clear_tables.ensures.empty
    _ _ c.release_pages.ensures.words refl
