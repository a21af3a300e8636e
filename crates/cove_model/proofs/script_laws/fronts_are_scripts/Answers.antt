use Rattle.cove_model.proofs.FrontProofs.{fault_in_front, front_from, is_front, rest_is_not_read}
use Rattle.cove_model.proofs.script_laws.fronts_are_scripts.Goals as goal

pub returns-clause-front : goal.returns-clause-front
returns-clause-front c = λ limit text script place. (is_front limit text script place, front_from limit text script place)

pub returns-clause-rest_is_not_read : goal.returns-clause-rest_is_not_read
returns-clause-rest_is_not_read c = rest_is_not_read

pub returns-clause-refused : goal.returns-clause-refused
returns-clause-refused c = fault_in_front
