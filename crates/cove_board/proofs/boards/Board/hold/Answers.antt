use Rattle.std.proofs.Common.{◌≡◌, refl, sym, ◌∙◌, ap, subst, arith}
use Rattle.atomic_table.specs.Table.{Me}
use Rattle.cove_base.specs.declared.events.Entry.{Entry}
use Rattle.cove_board.proofs.Allowing.{joins_allowed, knows_allowed}
use Rattle.cove_board.proofs.boards.Board.hold.Goals as goal
use Rattle.cove_board.specs.Parts.{Part, both, hart_alone, hart_of, monitor_alone, monitor_of}
use Rattle.cove_board.specs.Passes.{BoardValue, PassValue}

pub join_seat-requires : goal.join_seat-requires
join_seat-requires c =
    let h = sym c.hart.view_is in
    let m = sym c.monitor.view_is in
    let k = sym c.self.view_is in
    let size = c.self.invariant.1 in (
      sym (ap (λ (v : PassValue). v.table) h) ∙ c.requires.hart.table ∙ ap (λ (b : BoardValue). b.table) k,
      sym (ap (λ (v : PassValue). v.table) m) ∙ c.requires.monitor.table ∙ ap (λ (b : BoardValue). b.table) k,
      c.monitor.invariant,
      omega arith,
      joins_allowed c.self.inside.table.shared.key c.hart.inside.seat.id c.monitor.inside.seat.id c.hart.inside.seat.me.0 c.monitor.inside.seat.me.0
          (subst (λ (v : PassValue). v.part ≡ hart_alone (hart_of v.part)) h c.requires.hart.alone)
          (subst (λ (v : PassValue). v.part ≡ monitor_alone (monitor_of v.part)) m c.requires.monitor.alone),
    )

pub load-requires : goal.load-requires
load-requires c =
    let h = sym c.hart.view_is in
    let k = sym c.self.view_is in
    let size = c.self.invariant.1 in
    let joined = c.join_seat.ensures.2 in
    let same = subst (λ (v : PassValue). (hart_of v.part).script ≡ c.args.self.now.script) h c.requires.hart.script_is ∙ ap (λ (b : BoardValue). b.script) k in (
      c.join_seat.ensures.0 ∙ sym (ap (λ (v : PassValue). v.table) h) ∙ c.requires.hart.table ∙ ap (λ (b : BoardValue). b.table) k,
      omega arith,
      knows_allowed c.self.inside.table.shared.key c.self.inside.table.shared.table_id.slots c.join_seat.new.seat.id 0 c.join_seat.new.seat.me
          (subst (λ (me : Me Entry Part). me.0 ≡ both (monitor_of me.0) (hart_of me.0)) (sym joined) refl)
          (subst (λ (me : Me Entry Part). (hart_of me.0).script ≡ c.self.inside.table.shared.key) (sym joined) same),
    )
