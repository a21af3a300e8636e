use Rattle.std.proofs.Common.{◌/◌, ◌<◌, ◌∙◌, ap, arith, get_or, inl, sym}
use Rattle.cove_base.specs.Modes.{leaves_of}
use Rattle.cove_base.specs.Places.{table_word}
use Rattle.cove_base.specs.Tables.{At}
use Rattle.cove_clear.proofs.Going.{above_less, above_on, empty_more, few_slots, link_above, link_word, may_on, proceeds_on, slot_fits, slot_under, stands_on}
use Rattle.cove_clear.proofs.clearing.+clear_slot.Goals as goal

pub get-entry-requires : goal.get-entry-requires
get-entry-requires g t c = slot_fits _ _ _ _ _ _ c.requires.leaving (At c.args.depth c.args.n) c.args.place c.requires.slot c.requires.stands

pub overflow_cast-table : goal.overflow_cast-table
overflow_cast-table g t c =
    let up : c.args.depth < leaves_of c.args.tables.now.mode = omega (arith, c.leaves.ensures) in
    let link = link_word _ _ _ _ _ _ c.requires.leaving c.args.depth c.args.n c.args.place c.get-entry.result up c.requires.slot c.requires.stands c.get-entry.ensures.value c.if-entry-ne0.true in
    omega (arith, link.2)

pub table_word-under-requires-clause-page : goal.table_word-under-requires-clause-page
table_word-under-requires-clause-page g t c =
    let up : c.args.depth < leaves_of c.args.tables.now.mode = omega (arith, c.leaves.ensures) in
    (link_word _ _ _ _ _ _ c.requires.leaving c.args.depth c.args.n c.args.place c.get-entry.result up c.requires.slot c.requires.stands c.get-entry.ensures.value c.if-entry-ne0.true).2

pub overflow_mul-n : goal.overflow_mul-n
overflow_mul-n g t c =
    let up : c.args.depth < leaves_of c.args.tables.now.mode = omega (arith, c.leaves.ensures) in
    omega (arith, few_slots c.args.tables.now.mode c.args.depth c.args.n up c.requires.slot)

pub overflow_add-n : goal.overflow_add-n
overflow_add-n g t c =
    let up : c.args.depth < leaves_of c.args.tables.now.mode = omega (arith, c.leaves.ensures) in
    let low = c.loop-i-test.true in
    omega (arith, c.from.ensures, few_slots c.args.tables.now.mode c.args.depth c.args.n up c.requires.slot)

pub clear_slot-requires : goal.clear_slot-requires
clear_slot-requires g t c κs within =
    let up : c.args.depth < leaves_of c.args.tables.now.mode = omega (arith, c.leaves.ensures) in
    let low = c.loop-i-test.true in
    let link = link_word _ _ _ _ _ _ c.requires.leaving c.args.depth c.args.n c.args.place c.get-entry.result up c.requires.slot c.requires.stands c.get-entry.ensures.value c.if-entry-ne0.true in
    let keeps = rw c.get-entry.ensures.words at c.loop-i.invariant.above in
    let proceeds = rw c.get-entry.ensures.words at c.loop-i.invariant.proceeds in
    let under = slot_under _ _ c.args.depth c.args.n c.from.result _ c.table_word-under.result _ (omega (arith, c.from.ensures)) c.requires.slot
    (keeps c.args.depth c.args.n (omega arith) c.requires.slot ∙ link.0)
    (c.table_word-under.ensures ∙ ap (table_word c.args.tables.now.pages (c.get-entry.result / 1024)) (sym c.from.ensures)) in
    let room = c.loop-i.invariant.room ∙ c.requires.room in (
      omega arith,
      (within, (omega arith, (under.0, (under.1, (rw (c.loop-i.invariant.guard, c.get-entry.ensures.guard) (may_on _ _ _ _ _ _ _ _ c.requires.leaving proceeds), room))))),
    )

pub loop-i-preserved : goal.loop-i-preserved
loop-i-preserved g t c =
    let tables = c.args.tables.now in
    let before = c.loop-i.invariant in
    let step = c.clear_slot.ensures in
    let up : c.args.depth < leaves_of tables.mode = omega (arith, c.leaves.ensures) in
    let link = link_word _ _ _ _ _ _ c.requires.leaving c.args.depth c.args.n c.args.place c.get-entry.result up c.requires.slot c.requires.stands c.get-entry.ensures.value c.if-entry-ne0.true in
    let may = may_on _ _ _ _ _ _ _ _ c.requires.leaving (rw c.get-entry.ensures.words at before.proceeds) in
    record {
      proceeds = proceeds_on _ _ _ _ _ _ _ _ _ before.proceeds step.proceeds;
      empty = empty_more _ tables.pages tables.root.0 _ _ _ _ _ may step.proceeds (c.get-entry.result / 1024) c.loop-i.i link.1 c.loop-i-test.true before.empty
          (ap (λ k. get_or (g.W.Words.words c.clear_slot.new.w) k 0) (sym c.table_word-under.ensures) ∙ step.empty);
      above = above_on _ _ _ _ _ _ before.above step.above;
      room = step.room ∙ before.room;
      guard = step.guard ∙ before.guard;
    }

pub gather-requires-clause-own : goal.gather-requires-clause-own
gather-requires-clause-own g t c =
    let up : c.args.depth < leaves_of c.args.tables.now.mode = omega (arith, c.leaves.ensures) in
    let past = c.loop-i-test.false in
    let link = link_word _ _ _ _ _ _ c.requires.leaving c.args.depth c.args.n c.args.place c.get-entry.result up c.requires.slot c.requires.stands c.get-entry.ensures.value c.if-entry-ne0.true in
    let keeps = rw c.get-entry.ensures.words at c.loop-i.invariant.above in (
      At c.args.depth c.args.n,
      c.requires.slot,
      stands_on _ _ c.args.depth c.args.n _ _ c.args.place c.requires.slot keeps c.requires.stands,
      inl (keeps c.args.depth c.args.n (omega arith) c.requires.slot ∙ link.0, λ j low. c.loop-i.invariant.empty j (omega arith)),
    )

pub gather-requires-clause-leaving : goal.gather-requires-clause-leaving
gather-requires-clause-leaving g t c =
    rw (c.loop-i.invariant.guard, c.get-entry.ensures.guard)
    (may_on _ _ _ _ _ _ _ _ c.requires.leaving (rw c.get-entry.ensures.words at c.loop-i.invariant.proceeds))

pub returns-after-loop-i-clause-proceeds : goal.returns-after-loop-i-clause-proceeds
returns-after-loop-i-clause-proceeds g t c =
    proceeds_on _ _ _ _ _ _ _ _ _ (rw c.get-entry.ensures.words at c.loop-i.invariant.proceeds) c.gather.ensures.proceeds

pub returns-after-loop-i-clause-above : goal.returns-after-loop-i-clause-above
returns-after-loop-i-clause-above g t c =
    let up : c.args.depth < leaves_of c.args.tables.now.mode = omega (arith, c.leaves.ensures) in
    let past = c.loop-i-test.false in
    let link = link_word _ _ _ _ _ _ c.requires.leaving c.args.depth c.args.n c.args.place c.get-entry.result up c.requires.slot c.requires.stands c.get-entry.ensures.value c.if-entry-ne0.true in
    let keeps = rw c.get-entry.ensures.words at c.loop-i.invariant.above in
    let may = may_on _ _ _ _ _ _ _ _ c.requires.leaving (rw c.get-entry.ensures.words at c.loop-i.invariant.proceeds) in
    above_on _ _ _ _ _ _ (above_less _ _ _ _ _ keeps)
    (rw c.gather.ensures.words
    (link_above _ _ _ _ _ _ may c.args.depth c.args.n c.args.place (c.get-entry.result / 1024) c.requires.slot
    (stands_on _ _ c.args.depth c.args.n _ _ c.args.place c.requires.slot keeps c.requires.stands)
    (keeps c.args.depth c.args.n (omega arith) c.requires.slot ∙ link.0) (λ j low. c.loop-i.invariant.empty j (omega arith))))
