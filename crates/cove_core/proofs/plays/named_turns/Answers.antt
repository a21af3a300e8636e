use Rattle.std.proofs.Common.{◌≡◌, ◌+◌, ◌<◌, fold, take, ◌++◌, ◌∷◌, [], get_or, length, subst, ap, ◌∙◌, arith}
use Rattle.cove_base.proofs.ScriptLimits.{limits_of}
use Rattle.cove_model.specs.Machine.{ENTRY_LIMIT, ScriptValue, turn}
use Rattle.cove_core.specs.Plays.{GoesOn}
use Rattle.std.proofs.lemmas.List.{take_all, take_more}
use Rattle.cove_core.proofs.Rounds.{one_more, turn_within}
use Rattle.cove_core.proofs.plays.named_turns.Goals as goal

pub turn_of-requires-clause-on_board : goal.turn_of-requires-clause-on_board
turn_of-requires-clause-on_board c =
    let script = c.args.script.now in
    let view = ap (λ (s : ScriptValue). s.turns) c.script.view_is in
    let slice = c.as_slice-turns.ensures in
    let same : script.turns ≡ c.as_slice-turns.result.now = cc in
    let size = ap length same in
    subst (λ hs. get_or hs c.loop-i.i 0 < script.harts) same
    (turn_within script.harts script.turns c.loop-i.i (limits_of script c.within_limits.ensures).turns (omega (arith, c.loop-i-test.true)))

pub loop-i-preserved : goal.loop-i-preserved
loop-i-preserved c =
    let script = c.args.script.now in
    let view = ap (λ (s : ScriptValue). s.turns) c.script.view_is in
    let slice = c.as_slice-turns.ensures in
    let same : script.turns ≡ c.as_slice-turns.result.now = cc in
    let size = ap length same in
    let i = c.loop-i.i in
    let k = get_or c.as_slice-turns.result.now i 0 in
    let more : take (i + 1) script.turns ≡ take i script.turns ++ k ∷ [] =
    take_more script.turns i 0 (omega (arith, c.loop-i-test.true)) ∙ ap (λ hs. take i script.turns ++ get_or hs i 0 ∷ []) same in
    (c.turn_of.ensures.ready, one_more script c.args.mon.now c.loop-i.mon c.turn_of.new.mon c.args.harts.now c.loop-i.harts c.turn_of.new.harts (take i script.turns) (take (i + 1) script.turns) k more c.loop-i.invariant.1 c.turn_of.ensures.played)

pub returns-clause-played : goal.returns-clause-played
returns-clause-played c =
    let script = c.args.script.now in
    let view = ap (λ (s : ScriptValue). s.turns) c.script.view_is in
    let slice = c.as_slice-turns.ensures in
    let same : script.turns ≡ c.as_slice-turns.result.now = cc in
    let size = ap length same in
    subst (λ hs. GoesOn c.args.mon.now c.loop-i.mon c.args.harts.now c.loop-i.harts (λ play. fold (turn ENTRY_LIMIT script) play hs)) (take_all c.loop-i.i script.turns (omega (arith, c.loop-i-test.false)))
    c.loop-i.invariant.1
