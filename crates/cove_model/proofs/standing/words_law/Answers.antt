use Rattle.cove_model.proofs.BesideProofs.{others_leave_owners, count_leaves_words}
use Rattle.cove_model.proofs.OpeningStandsProofs.{opening_stands}
use Rattle.cove_model.proofs.WordProofs.{convert_stands, global_fence_stands, local_fence_stands, reclaim_stands}
use Rattle.cove_model.proofs.standing.words_law.Goals as goal

pub returns-clause-opening : goal.returns-clause-opening
returns-clause-opening c = opening_stands

pub returns-clause-convert : goal.returns-clause-convert
returns-clause-convert c = convert_stands

pub returns-clause-global_fence : goal.returns-clause-global_fence
returns-clause-global_fence c = global_fence_stands

pub returns-clause-local_fence : goal.returns-clause-local_fence
returns-clause-local_fence c = local_fence_stands

pub returns-clause-reclaim : goal.returns-clause-reclaim
returns-clause-reclaim c = reclaim_stands

pub returns-clause-others : goal.returns-clause-others
returns-clause-others c = others_leave_owners

pub returns-clause-count : goal.returns-clause-count
returns-clause-count c = count_leaves_words
