use Rattle.cove_lives.proofs.StateExampleProofs.{begins_later, bound, not_fenced, other_file, unbinding}
use Rattle.cove_lives.proofs.state_examples.worked_binding.Goals as goal

pub returns-clause-bound : goal.returns-clause-bound
returns-clause-bound c = bound

pub returns-clause-other_file : goal.returns-clause-other_file
returns-clause-other_file c = other_file

pub returns-clause-unbinding : goal.returns-clause-unbinding
returns-clause-unbinding c = unbinding

pub returns-clause-not_fenced : goal.returns-clause-not_fenced
returns-clause-not_fenced c = not_fenced

pub returns-clause-to_come : goal.returns-clause-to_come
returns-clause-to_come c = begins_later
