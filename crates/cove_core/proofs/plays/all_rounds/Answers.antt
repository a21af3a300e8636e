use Rattle.std.proofs.Common.{◌≡◌, ◌+◌, ap, subst, ◌∙◌, arith}
use Rattle.cove_model.specs.Machine.{ScriptValue, ENTRY_LIMIT, enough, rounds}
use Rattle.cove_core.specs.Plays.{GoesOn}
use Rattle.cove_core.proofs.Rounds.{AreMade, never_so_many, none_made, one_more_made, still_goes, still_rounds}
use Rattle.cove_core.proofs.plays.all_rounds.Goals as goal

pub loop-init : goal.loop-init
loop-init c = record {
  ready = c.requires.ready;
  rounds = none_made c.args.script.now c.args.mon.now c.args.harts.now;
  count = c.requires.unbegun;
}

pub one_round-requires : goal.one_round-requires
one_round-requires c = record { ready = c.loop.invariant.ready; few = omega (arith, c.loop.invariant.count) }

pub returns-then-not-one_round-clause-played : goal.returns-then-not-one_round-clause-played
returns-then-not-one_round-clause-played c =
    let script = c.args.script.now in
    let harts = ap (λ (s : ScriptValue). s.harts) c.script.view_is in
    still_goes script c.args.mon.now c.loop.mon c.one_round.new.mon c.args.harts.now c.loop.harts c.one_round.new.harts c.loop.counter c.loop.invariant.rounds c.one_round.ensures.played
    (c.one_round.ensures.still c.if-not-one_round.true) (omega (arith, c.loop-test.true))

pub returns-then-not-one_round-clause-rounds : goal.returns-then-not-one_round-clause-rounds
returns-then-not-one_round-clause-rounds c =
    still_rounds c.args.script.now c.args.mon.now c.loop.mon c.one_round.new.mon c.args.harts.now c.loop.harts c.one_round.new.harts c.loop.counter c.loop.invariant.rounds c.one_round.ensures.played
    (c.one_round.ensures.still c.if-not-one_round.true) c.one_round.new.made (c.one_round.ensures.counted ∙ ap (λ n. n + 1) c.loop.invariant.count)

pub loop-preserved : goal.loop-preserved
loop-preserved c = record {
  ready = c.one_round.ensures.ready;
  rounds = one_more_made c.args.script.now c.args.mon.now c.loop.mon c.one_round.new.mon c.args.harts.now c.loop.harts c.one_round.new.harts c.loop.counter c.loop.invariant.rounds c.one_round.ensures.played
      (c.one_round.ensures.changed c.if-not-one_round.false);
  count = c.one_round.ensures.counted ∙ ap (λ n. n + 1) c.loop.invariant.count;
}

pub returns-clause-played : goal.returns-clause-played
returns-clause-played c =
    let script = c.args.script.now in
    let harts = ap (λ (s : ScriptValue). s.harts) c.script.view_is in
    let all : c.loop.counter ≡ enough ENTRY_LIMIT script = omega (arith, c.loop-test.false, c.loop.auto.counter-end) in
    subst (λ n. GoesOn c.args.mon.now c.loop.mon c.args.harts.now c.loop.harts (rounds ENTRY_LIMIT script n)) all c.loop.invariant.rounds.goes

pub returns-clause-rounds : goal.returns-clause-rounds
returns-clause-rounds c play here =
    let script = c.args.script.now in
    let harts = ap (λ (s : ScriptValue). s.harts) c.script.view_is in
    let all : c.loop.counter ≡ enough ENTRY_LIMIT script = omega (arith, c.loop-test.false, c.loop.auto.counter-end) in
    absurd (never_so_many script c.args.mon.now c.loop.mon c.args.harts.now c.loop.harts c.requires.within
    (subst (AreMade script c.args.mon.now c.loop.mon c.args.harts.now c.loop.harts) all c.loop.invariant.rounds) play here)
