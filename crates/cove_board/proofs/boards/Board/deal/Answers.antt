use Rattle.std.proofs.Common.{◌≡◌, ◌<◌, [], true, sym, ◌∙◌, ap, subst, arith}
use Rattle.cove_board.proofs.Allowing.{deals_allowed}
use Rattle.cove_board.proofs.boards.Board.deal.Goals as goal
use Rattle.cove_board.specs.Parts.{monitor_alone, monitor_of}
use Rattle.cove_board.specs.Passes.{BoardValue, PassValue}

pub split_seat-new-requires : goal.split_seat-new-requires
split_seat-new-requires c =
    let h = sym c.monitor.view_is in
    let k = sym c.self.view_is in
    let size = c.self.invariant.1 in
    let left = subst (λ (b : BoardValue). (monitor_of c.args.monitor.now.part).dealt < b.script.harts) k c.requires.left in (
      sym (ap (λ (v : PassValue). v.table) h) ∙ c.requires.monitor.table ∙ ap (λ (b : BoardValue). b.table) k,
      omega arith,
      deals_allowed c.self.inside.table.shared.key c.monitor.inside.seat.id c.monitor.inside.seat.me.0
          (subst (λ (v : PassValue). v.part ≡ monitor_alone (monitor_of v.part)) h c.requires.monitor.alone)
          (subst (λ (v : PassValue). (monitor_of v.part).history ≡ []) h c.requires.opening)
          (subst (λ (v : PassValue). (monitor_of v.part).clean ≡ true) h c.requires.clean)
          (subst (λ (v : PassValue). (monitor_of v.part).dealt < c.self.inside.table.shared.key.harts) h left),
    )
