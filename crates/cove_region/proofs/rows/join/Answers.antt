use Rattle.std.proofs.Common.{subst, sym, arith, lit<}
use Rattle.cove_region.specs.Rows.{AreRows}
use Rattle.cove_region.proofs.JoinLemmas.{join_lawful, join_room}
use Rattle.cove_region.proofs.rows.join.Goals as goal

pub push-requires : goal.push-requires
push-requires c = (lit< tt, join_room _ _ _ _ _ _ c.join_before-longer.ensures c.join_after-joined.ensures c.requires.few c.requires.room)

pub returns-clause-rows : goal.returns-clause-rows
returns-clause-rows c = subst AreRows (sym c.push.ensures.items) (join_lawful _ _ _ _ c.join_after-joined.ensures)

pub returns-clause-few : goal.returns-clause-few
returns-clause-few c =
    let room = join_room _ _ _ _ _ _ c.join_before-longer.ensures c.join_after-joined.ensures c.requires.few c.requires.room in
    let n = c.push.ensures.len in omega arith
