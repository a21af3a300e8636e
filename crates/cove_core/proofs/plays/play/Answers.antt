use Rattle.std.proofs.Common.{◌↔◌, IsTrue, subst}
use Rattle.cove_model.specs.Played.{IsOver}
use Rattle.cove_core.proofs.Rounds.{named_at, named_size, plays_all}
use Rattle.cove_core.proofs.plays.play.Goals as goal

pub returns-clause-history : goal.returns-clause-history
returns-clause-history c =
    plays_all c.args.script.now c.args.built.now.mon c.named_turns.new.mon c.all_rounds.new.mon c.args.built.now.harts c.named_turns.new.harts c.all_rounds.new.harts c.requires.unplayed c.requires.unwalked c.named_turns.ensures.played c.all_rounds.ensures.played

pub returns-clause-whole : goal.returns-clause-whole
returns-clause-whole c =
    let script = c.args.script.now in
    let history = plays_all script c.args.built.now.mon c.named_turns.new.mon c.all_rounds.new.mon c.args.built.now.harts c.named_turns.new.harts c.all_rounds.new.harts c.requires.unplayed c.requires.unwalked c.named_turns.ensures.played c.all_rounds.ensures.played in
    subst (λ H. IsTrue c.is_over.result ↔ IsOver script H) history c.is_over.ensures

pub all_rounds-requires-clause-within : goal.all_rounds-requires-clause-within
all_rounds-requires-clause-within c =
    named_size c.args.script.now c.args.built.now.mon c.named_turns.new.mon c.args.built.now.harts c.named_turns.new.harts c.requires.unplayed c.requires.unwalked c.named_turns.ensures.played

pub returns-clause-rounds : goal.returns-clause-rounds
returns-clause-rounds c =
    c.all_rounds.ensures.rounds _
    (named_at c.args.script.now c.args.built.now.mon c.named_turns.new.mon c.args.built.now.harts c.named_turns.new.harts c.requires.unplayed c.requires.unwalked c.named_turns.ensures.played)
