use Rattle.std.proofs.Common.{◌<◌, sym, ◌∙◌, ap, subst}
use Rattle.cove_base.specs.Places.{all_words}
use Rattle.cove_board.proofs.Allowing.{counts_allowed}
use Rattle.cove_board.proofs.boards.Board.count.Goals as goal
use Rattle.cove_board.specs.Passes.{BoardValue}

pub compare_exchange_with-requires : goal.compare_exchange_with-requires
compare_exchange_with-requires c =
    let k = sym c.self.view_is in
    let size = c.self.invariant.1 in
    let here = subst (λ (b : BoardValue). c.args.place < all_words b.script.pages b.script.harts) k c.requires.place in (
      c.requires.table ∙ ap (λ (b : BoardValue). b.table) k,
      subst (λ n. c.args.place < n) (sym size) here,
      counts_allowed c.self.inside.table.shared.key c.self.inside.table.shared.table_id.slots c.args.seat.now.id c.args.place c.args.count c.args.entry.now c.args.seat.now.me c.requires.carries c.requires.is_count c.requires.found c.requires.countable,
    )
