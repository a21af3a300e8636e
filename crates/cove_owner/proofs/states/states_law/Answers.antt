use Rattle.std.proofs.Common.{refl}
use Rattle.cove_base.specs.PageWords.{OfHost, OfConverting, OfGiven, OfReleased}
use Rattle.cove_owner.specs.States.{StatesHaveWords}
use Rattle.cove_owner.specs.declared.states.PageState.TheVariants.{Host, Converting, Given, Released}
use Rattle.cove_owner.proofs.states.states_law.Goals as goal

states_have_words : StatesHaveWords
states_have_words (Host maps) h = OfHost maps h refl
states_have_words (Converting since) h = OfConverting since h refl
states_have_words (Given tvm role) h = OfGiven tvm.0 role h.0 h.1 refl
states_have_words Released h = OfReleased refl

pub returns-clause-have : goal.returns-clause-have
returns-clause-have c = states_have_words
