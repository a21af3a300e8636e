use Rattle.cove_model.proofs.laws.states_are_sound.Goals as goal
use Rattle.cove_model.proofs.Boards.{board_of}
use Rattle.cove_model.proofs.Histories.{sound}

pub returns-clause-sound : goal.returns-clause-sound
returns-clause-sound c = sound

pub returns-clause-board : goal.returns-clause-board
returns-clause-board c = board_of
