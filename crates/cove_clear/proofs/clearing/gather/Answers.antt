use Rattle.cove_clear.proofs.Going.{own_fits, own_goes, own_lawful, own_room}
use Rattle.cove_clear.proofs.clearing.gather.Goals as goal

pub set-requires-clause-place : goal.set-requires-clause-place
set-requires-clause-place g c = own_fits _ _ _ _ _ c.args.place c.args.page.0 c.requires.own _ _ c.requires.leaving.4

pub set-requires-clause-allowed : goal.set-requires-clause-allowed
set-requires-clause-allowed g c =
    let may = c.requires.leaving in
    may.5 _ c.args.place 0 (own_lawful _ _ _ _ _ c.args.place c.args.page.0 c.requires.own _ _ may.4 may.2 may.3)

pub add-requires : goal.add-requires
add-requires g c = rw c.requires.room (own_room _ _ _ _ _ c.args.place c.args.page.0 c.requires.own _ _ c.requires.leaving.4)

pub returns-clause-proceeds : goal.returns-clause-proceeds
returns-clause-proceeds g c = λ harts t leaving.
    rw (c.add.ensures.pages, c.set.ensures.words)
    (own_goes _ _ _ _ _ c.args.place c.args.page.0 c.requires.own harts t leaving)
