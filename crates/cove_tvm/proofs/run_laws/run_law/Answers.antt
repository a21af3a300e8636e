use Rattle.cove_tvm.proofs.MappedRuns.{run_begins, run_goes_on}
use Rattle.cove_tvm.proofs.PrivateRuns.{measured_stands, memory_is_lawful, memory_may_map, zero_stands}
use Rattle.cove_tvm.proofs.SharedRuns.{counts_may_map, shared_stands}
use Rattle.cove_tvm.proofs.run_laws.run_law.Goals as goal

pub returns-clause-begins : goal.returns-clause-begins
returns-clause-begins c = run_begins

pub returns-clause-goes_on : goal.returns-clause-goes_on
returns-clause-goes_on c = run_goes_on

pub returns-clause-lawful : goal.returns-clause-lawful
returns-clause-lawful c = memory_is_lawful

pub returns-clause-may_map : goal.returns-clause-may_map
returns-clause-may_map c = memory_may_map

pub returns-clause-zero : goal.returns-clause-zero
returns-clause-zero c = zero_stands

pub returns-clause-measured : goal.returns-clause-measured
returns-clause-measured c = measured_stands

pub returns-clause-counts : goal.returns-clause-counts
returns-clause-counts c = counts_may_map

pub returns-clause-shared : goal.returns-clause-shared
returns-clause-shared c = shared_stands
