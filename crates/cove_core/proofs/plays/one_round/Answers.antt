use Rattle.std.proofs.Common.{◌+◌, ◌<◌, ap, refl, sym, ◌∙◌, arith}
use Rattle.std.proofs.lemmas.Bool.{false≢true}
use Rattle.cove_model.specs.Machine.{ScriptValue, harts_below}
use Rattle.cove_core.proofs.Rounds.{harts_more, now_work, one_more, one_more_stays, still_work, work_changes}
use Rattle.cove_core.proofs.plays.one_round.Goals.{then-turn_of, else-turn_of}
use Rattle.cove_core.proofs.plays.one_round.Goals as goal

pub loop-k-init : goal.loop-k-init
loop-k-init c = record {
  ready = c.requires.ready;
  goes = λ play here. here;
  stays = λ no play here. refl;
  work = λ moves. absurd (false≢true moves);
}

pub loop-k-preserved : goal.loop-k-preserved
loop-k-preserved c =
    let script = c.args.script.now in
    let k = c.loop-k.k in
    let harts = ap (λ (s : ScriptValue). s.harts) c.script.view_is in
    let below : k < script.harts = omega (arith, c.loop-k-test.true) in
    let so_far = c.loop-k.invariant in
    let start = c.args.mon.now in
    let first = c.args.harts.now in
    let goes = one_more script start c.loop-k.mon c.turn_of.new.mon first c.loop-k.harts c.turn_of.new.harts (harts_below k) (harts_below (k + 1)) k (harts_more k) so_far.goes c.turn_of.ensures.played in
    elim c.if-turn_of.branch [
      | then-turn_of w ↦ record {
        ready = c.turn_of.ensures.ready;
        goes = goes;
        stays = λ no. absurd (false≢true (sym no ∙ w.changed-is));
        work = λ moves.
            now_work script start c.loop-k.mon first c.loop-k.harts (harts_below k) (harts_below (k + 1)) k below (harts_more k) so_far.goes
            c.loop-k.changed so_far.stays so_far.work (c.turn_of.ensures.changed w.if-turn_of.true) refl;
      }
      | else-turn_of w ↦ record {
        ready = c.turn_of.ensures.ready;
        goes = goes;
        stays = λ no.
            one_more_stays script start c.loop-k.mon first c.loop-k.harts (harts_below k) (harts_below (k + 1)) k (harts_more k) so_far.goes
            (so_far.stays (sym w.changed-is ∙ no)) (c.turn_of.ensures.still w.if-turn_of.false);
        work = λ moves.
            still_work script start c.loop-k.mon first c.loop-k.harts (harts_below k) (harts_below (k + 1)) k below (harts_more k) so_far.goes
            (λ e. so_far.work (sym w.changed-is ∙ moves)) refl;
      }
    ]

pub returns-clause-changed : goal.returns-clause-changed
returns-clause-changed c =
    let harts = ap (λ (s : ScriptValue). s.harts) c.script.view_is in
    work_changes c.args.script.now c.args.mon.now c.args.harts.now c.loop-k.changed c.loop-k.k (omega (arith, c.loop-k-test.false, c.loop-k.auto.k-end)) c.loop-k.invariant.work
