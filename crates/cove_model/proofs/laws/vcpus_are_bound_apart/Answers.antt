use Rattle.cove_model.proofs.BoundApart.{bound_apart, bound_apart_call}
use Rattle.cove_model.proofs.Passing.{row_passed}
use Rattle.cove_model.proofs.laws.vcpus_are_bound_apart.Goals as goal

pub returns-clause-states : goal.returns-clause-states
returns-clause-states c = bound_apart

pub returns-clause-calls : goal.returns-clause-calls
returns-clause-calls c = λ S h call e was. bound_apart_call S h call (row_passed S h call e) was
