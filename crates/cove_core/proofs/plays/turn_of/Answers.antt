use Rattle.std.proofs.Common.{◌≡◌, ◌<◌, List, Some, length, set, slice_get, sym, subst, ap, ◌∙◌, arith}
use Rattle.std.proofs.lemmas.Option.{slice_get-get_or}
use Rattle.cove_model.specs.Machine.{ENTRY_LIMIT, turn}
use Rattle.cove_core.specs.Plays.{AreReady, GoesOn}
use Rattle.cove_hart.specs.declared.states.HartState.{HartState}
use Rattle.cove_core.proofs.Rounds.{turn_taken}
use Rattle.cove_core.proofs.plays.turn_of.Goals as goal

pub returns : goal.returns
returns c =
    let script = c.args.script.now in
    let k = c.args.k in
    let view = c.harts.view_is in
    let same : c.args.harts.now ≡ c.harts.inside.harts.items = cc in
    let size = ap (λ (hs : List HartState). length hs) same in
    let within : k < length c.harts.inside.harts.items = omega (arith, c.requires.on_board, c.requires.ready.count) in
    let at : slice_get c.args.harts.now k ≡ Some c.index_mut.result.now =
    ap (λ hs. slice_get hs k) same ∙ slice_get-get_or c.harts.inside.harts.items k c.index_mut.result.now within ∙ ap (λ h. Some h) (sym c.index_mut.ensures.value) in
    let took = turn_taken script c.args.words.now c.take_turn.new.words c.args.mon.now c.take_turn.new.mon c.args.harts.now k c.index_mut.result.now c.take_turn.new.hart c.take_turn.result c.requires.ready c.requires.on_board at c.take_turn.ensures.turned c.take_turn.ensures.kept in
    record {
      ready = subst (λ hs. AreReady script c.take_turn.new.words c.take_turn.new.mon (set hs k c.take_turn.new.hart)) same took.seated;
      played = subst (λ hs. GoesOn c.args.mon.now c.take_turn.new.mon c.args.harts.now (set hs k c.take_turn.new.hart) (λ play. turn ENTRY_LIMIT script play k)) same took.goes;
      still = took.stays;
      changed = took.changes;
    }
