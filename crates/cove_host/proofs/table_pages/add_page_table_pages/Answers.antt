use Rattle.std.proofs.Common.{ℕ, ◌∙◌, List, ap}
use Rattle.cove_base.specs.Stores.{stored}
use Rattle.cove_host.proofs.Creating.{refuses}
use Rattle.cove_host.proofs.TableProofs.{adds_tables, pool_room, stores_allowed}
use Rattle.cove_tvm.specs.MoreTables.{tables_stores}
use Rattle.cove_host.proofs.table_pages.add_page_table_pages.Goals as goal

pub give-requires-clause-allowed : goal.give-requires-clause-allowed
give-requires-clause-allowed g c =
    let same = c.in-Ok.ensures.unchanged in
    rw (same.guard, same.words)
    (stores_allowed _ _ c.args.h.0 c.args.base c.args.n c.requires.ready _ c.requires.allowed c.args.t
    (c.in-Ok.ensures.told c.args.h.0))

pub add-requires-clause-room : goal.add-requires-clause-room
add-requires-clause-room g c =
    pool_room _ _ c.args.h.0 c.args.base c.args.n c.requires.ready c.args.t
    (c.in-Ok.ensures.told c.args.h.0)

pub returns-in-Err-clause-called : goal.returns-in-Err-clause-called
returns-in-Err-clause-called g c =
    rw c.in-Err.ensures.unchanged.words
    (refuses _ _ _ _ _ (c.in-Err.ensures.told c.args.h.0))

pub returns-in-Ok-clause-called : goal.returns-in-Ok-clause-called
returns-in-Ok-clause-called g c =
    adds_tables _ _ c.args.h.0 c.args.base c.args.n c.requires.ready _ c.args.t _
    (c.in-Ok.ensures.told c.args.h.0) c.add.ensures
    (c.give.ensures.words ∙ ap (λ (ws : List ℕ). stored ws (tables_stores c.args.t c.args.base c.args.n)) c.in-Ok.ensures.unchanged.words)
