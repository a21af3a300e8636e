use Rattle.std.proofs.Common.{◌≡◌, Some, None}
use Rattle.std.specs.List.{position}
use Rattle.cove_region.specs.Rows.{ends_at}
use Rattle.cove_region.proofs.RowLemmas.{joins_none_before, position_none}
use Rattle.cove_region.proofs.JoinLemmas.{joins_before_at}
use Rattle.cove_region.proofs.rows.join_before.Goals as goal

pub returns-in-Some : goal.returns-in-Some
returns-in-Some c =
    let found : position (ends_at c.args.pages.first) c.args.rows.now.items ≡ Some c.in-Some.place = cc in
    joins_before_at _ _ _ _ _ c.requires.rows c.requires.some c.requires.free found c.remove.ensures.items c.remove.ensures.value

pub returns-in-None : goal.returns-in-None
returns-in-None c =
    let none : position (ends_at c.args.pages.first) c.args.rows.now.items ≡ None = cc in
    joins_none_before _ _ c.requires.rows c.requires.some c.requires.free (position_none (ends_at c.args.pages.first) c.args.rows.now.items none)
