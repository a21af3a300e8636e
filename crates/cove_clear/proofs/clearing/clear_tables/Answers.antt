use Rattle.std.proofs.Common.{◌≡◌, ◌∙◌, ap, arith, get_or, sym}
use Rattle.cove_base.specs.Places.{table_word}
use Rattle.cove_clear.proofs.Going.{may_on, proceeds_on, root_more}
use Rattle.cove_clear.proofs.clearing.clear_tables.Goals as goal

pub clear_slot-requires-clause-leaving : goal.clear_slot-requires-clause-leaving
clear_slot-requires-clause-leaving g c =
    rw c.loop-n.invariant.guard (may_on _ _ _ _ _ _ _ _ c.requires.leaving c.loop-n.invariant.proceeds)

pub clear_slot-requires-clause-room : goal.clear_slot-requires-clause-room
clear_slot-requires-clause-room g c = c.loop-n.invariant.room ∙ c.requires.room

pub loop-n-preserved : goal.loop-n-preserved
loop-n-preserved g c =
    let t = c.args.tables.now in
    let before = c.loop-n.invariant in
    let step = c.clear_slot.ensures in
    let may = may_on _ _ _ _ _ _ _ _ c.requires.leaving before.proceeds in
    let at : c.table_word-place.result ≡ table_word t.pages t.root.0 c.loop-n.n = omega (arith, c.table_word-place.ensures) in
    record {
      proceeds = proceeds_on _ _ _ _ _ _ _ _ _ before.proceeds step.proceeds;
      empty = root_more _ t.pages t.root.0 _ _ _ _ _ may step.proceeds c.loop-n.n c.loop-n-test.true before.empty
          (ap (λ k. get_or (g.W.Words.words c.clear_slot.new.w) k 0) (sym at) ∙ step.empty);
      room = step.room ∙ before.room;
      guard = step.guard ∙ before.guard;
    }
