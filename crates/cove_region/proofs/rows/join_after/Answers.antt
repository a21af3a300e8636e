use Rattle.std.proofs.Common.{◌≡◌, Some, None}
use Rattle.std.specs.List.{position}
use Rattle.cove_region.specs.Rows.{begins_at}
use Rattle.cove_region.proofs.RowLemmas.{joins_none_after, position_none}
use Rattle.cove_region.proofs.JoinLemmas.{joins_after_at}
use Rattle.cove_region.proofs.rows.join_after.Goals as goal

pub returns-in-Some : goal.returns-in-Some
returns-in-Some c =
    let found : position (begins_at c.args.pages.end) c.args.rows.now.items ≡ Some c.in-Some.place = cc in
    joins_after_at _ _ _ _ _ c.requires.rows c.requires.some c.requires.apart found c.remove.ensures.items c.remove.ensures.value

pub returns-in-None : goal.returns-in-None
returns-in-None c =
    let none : position (begins_at c.args.pages.end) c.args.rows.now.items ≡ None = cc in
    joins_none_after _ _ c.requires.rows c.requires.some c.requires.apart (position_none (begins_at c.args.pages.end) c.args.rows.now.items none)
