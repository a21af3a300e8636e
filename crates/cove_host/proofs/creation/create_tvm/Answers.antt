use Rattle.std.proofs.Common.{ℕ, ◌/◌, ◌∙◌, List, ap}
use Rattle.cove_model.specs.Machine.{given, fills, stored, Root}
use Rattle.cove_base.specs.declared.numbers.Role.TheVariants.{State}
use Rattle.cove_host.proofs.Creating.{creates, refuses, root_allowed, state_allowed}
use Rattle.cove_host.proofs.creation.create_tvm.Goals as goal

pub give-requires-clause-allowed : goal.give-requires-clause-allowed
give-requires-clause-allowed g c =
    let same = c.in-Ok.ensures.unchanged in
    rw (same.guard, same.words)
    (root_allowed _ _ c.args.h.0 c.args.root c.args.state c.requires.ready (c.in-Ok.ensures.told 0)
    _ c.requires.allowed c.create-t.result.0 c.create-t.ensures.number)

pub give-requires-in-Ok-clause-allowed : goal.give-requires-in-Ok-clause-allowed
give-requires-in-Ok-clause-allowed g c =
    let same = c.in-Ok.ensures.unchanged in
    rw (c.give.ensures.guard, c.give.ensures.words, same.guard, same.words)
    (state_allowed _ _ c.args.h.0 c.args.root c.args.state c.requires.ready (c.in-Ok.ensures.told 0)
    _ c.requires.allowed c.create-t.result.0 c.create-t.ensures.number)

pub returns-in-Err-clause-called : goal.returns-in-Err-clause-called
returns-in-Err-clause-called g c =
    rw c.in-Err.ensures.unchanged.words
    (refuses _ _ _ _ _ (c.in-Err.ensures.told c.args.h.0))

pub returns-in-Ok-clause-called : goal.returns-in-Ok-clause-called
returns-in-Ok-clause-called g c =
    let added = c.create-t.ensures.added in
    let rooted =
    c.give.ensures.words ∙ ap (λ (ws : List ℕ). stored ws (fills (c.args.root / 4096) 4 (given c.create-t.result.0 Root))) c.in-Ok.ensures.unchanged.words in
    creates _ _ c.args.h.0 c.args.root c.args.state c.requires.ready (c.in-Ok.ensures.told 0)
    c.create-t.result.0 c.from.result added.0 c.create-t.new.self _ c.create-t.ensures.number c.from.ensures
    (rw (c.board_number-board.ensures, c.mode_of.ensures, c.page_of.ensures, c.page_of-in-Ok.ensures) at added.1) added.2 c.create-t.ensures.pages
    (c.give-in-Ok.ensures.words ∙ ap (λ (ws : List ℕ). stored ws (fills (c.args.state / 4096) 1 (given c.create-t.result.0 State))) rooted)
