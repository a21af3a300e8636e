use Rattle.std.proofs.Common.{◌≡◌, Bool, false, true, cond, sym, ◌∙◌, ap, subst, arith}
use Rattle.cove_board.proofs.Allowing.{parts_allowed}
use Rattle.cove_board.proofs.held.Held.release.Goals as goal
use Rattle.cove_board.specs.Parts.{hart_of, monitor_of}
use Rattle.cove_board.specs.Passes.{BoardValue, PassValue}

pub split_seat-monitor-requires : goal.split_seat-monitor-requires
split_seat-monitor-requires c =
    let k = sym c.board.view_is in
    let size = c.board.invariant.1 in
    let held = c.self.invariant.3 in
    let clean = subst (λ (v : PassValue). (monitor_of v.part).clean ≡ true) (sym c.self.view_is) c.requires in (
      c.self.invariant.0 ∙ ap (λ (b : BoardValue). b.table) k,
      omega arith,
      parts_allowed c.board.inside.table.shared.key c.self.inside.seat.id c.self.inside.seat.me.0 held.carries
          (held.held.mark ∙ ap (λ (b : Bool). cond b false (hart_of c.self.inside.seat.me.0).mark) clean),
    )
