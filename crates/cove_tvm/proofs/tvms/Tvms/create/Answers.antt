use Rattle.cove_tvm.proofs.RoomLemmas.{room_left}
use Rattle.cove_tvm.proofs.tvms.Tvms.create.Goals as goal

pub invariant_of-self : goal.invariant_of-self
invariant_of-self c =
    let pushed = c.push_reserved.ensures in
    let popped = c.in-Some.ensures in
    room_left _ _ _ _ _ _ _ _ _ c.self.invariant pushed.items pushed.capacity popped.items

pub returns-clause-added : goal.returns-clause-added
returns-clause-added c = rw (← c.self.view_is) (c.building.result, c.building.ensures, c.push_reserved.ensures.items)
