use Rattle.std.proofs.Common.{◌≡◌, ◌<◌, None, sym, ◌∙◌, ap, subst, arith}
use Rattle.cove_board.proofs.Allowing.{walks_allowed}
use Rattle.cove_board.proofs.boards.Board.walk_host.Goals as goal
use Rattle.cove_board.specs.Parts.{hart_alone, hart_of}
use Rattle.cove_board.specs.Passes.{BoardValue, PassValue}

pub load-word-requires : goal.load-word-requires
load-word-requires g c =
    let h = sym c.pass.view_is in
    let k = sym c.self.view_is in
    let place : c.page_word-place.result ≡ c.args.page.0 = c.page_word-place.ensures in
    let table = sym (ap (λ (v : PassValue). v.table) h) ∙ c.requires.pass.table ∙ ap (λ (b : BoardValue). b.table) k in
    let below : c.args.page.0 < c.self.inside.table.shared.key.pages = subst (λ (b : BoardValue). c.args.page.0 < b.script.pages) k c.requires.page in
    let size = c.self.invariant.1 in (
      table,
      omega arith,
      walks_allowed c.self.inside.table.shared.key c.self.inside.table.shared.table_id.slots c.pass.inside.seat.id c.page_word-place.result c.pass.inside.seat.me
          (subst (λ (v : PassValue). v.part ≡ hart_alone (hart_of v.part)) h c.requires.pass.alone)
          (subst (λ (v : PassValue). (hart_of v.part).walked ≡ None) h c.requires.unused)
          (omega arith),
    )
