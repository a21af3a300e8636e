use Rattle.cove_model.proofs.LawfulProofs.{convert_is_lawful, global_fence_is_lawful, local_fence_is_lawful, reclaim_is_lawful}
use Rattle.cove_model.proofs.StoreLawProofs.{stores_keep_usable, stores_keep_host, stores_keep_answers, stores_keep_fences}
use Rattle.cove_model.proofs.standing.lawful_law.Goals as goal

pub returns-clause-convert : goal.returns-clause-convert
returns-clause-convert c = convert_is_lawful

pub returns-clause-global_fence : goal.returns-clause-global_fence
returns-clause-global_fence c = global_fence_is_lawful

pub returns-clause-local_fence : goal.returns-clause-local_fence
returns-clause-local_fence c = local_fence_is_lawful

pub returns-clause-reclaim : goal.returns-clause-reclaim
returns-clause-reclaim c = reclaim_is_lawful

pub returns-clause-usable : goal.returns-clause-usable
returns-clause-usable c = stores_keep_usable

pub returns-clause-stays : goal.returns-clause-stays
returns-clause-stays c = stores_keep_host

pub returns-clause-answers : goal.returns-clause-answers
returns-clause-answers c = stores_keep_answers

pub returns-clause-fences : goal.returns-clause-fences
returns-clause-fences c = stores_keep_fences
