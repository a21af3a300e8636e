use Rattle.cove_tvm.proofs.ChangedFields.{fields_change_stand}
use Rattle.cove_tvm.proofs.KeptGround.{owners_change_stands}
use Rattle.cove_tvm.proofs.KeptTvms.{left_tvms_stand}
use Rattle.cove_tvm.proofs.OneTvmProofs.{one_tvm_stands}
use Rattle.cove_tvm.proofs.OwnerCalls.{ground_answers, ground_converts, ground_fences, ground_reclaims}
use Rattle.cove_tvm.proofs.laws.frame_law.Goals as goal

pub returns-clause-tvm : goal.returns-clause-tvm
returns-clause-tvm c = left_tvms_stand

pub returns-clause-one : goal.returns-clause-one
returns-clause-one c = one_tvm_stands

pub returns-clause-fields : goal.returns-clause-fields
returns-clause-fields c = fields_change_stand

pub returns-clause-owners : goal.returns-clause-owners
returns-clause-owners c = owners_change_stands

pub returns-clause-convert : goal.returns-clause-convert
returns-clause-convert c = ground_converts

pub returns-clause-global_fence : goal.returns-clause-global_fence
returns-clause-global_fence c = ground_fences

pub returns-clause-local_fence : goal.returns-clause-local_fence
returns-clause-local_fence c = ground_answers

pub returns-clause-reclaim : goal.returns-clause-reclaim
returns-clause-reclaim c = ground_reclaims
