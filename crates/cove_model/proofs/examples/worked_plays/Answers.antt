use Rattle.cove_model.proofs.examples.worked_plays.Goals as goal
use Rattle.cove_model.proofs.Vectors.{during_a_fence_played, early_walk_played, ended_hits_played, held_before_played, last_answer_played, limit_played, nothing_played, stale_played, there_and_back_played}

pub returns-clause-there_and_back : goal.returns-clause-there_and_back
returns-clause-there_and_back c = there_and_back_played

pub returns-clause-at_its_limit : goal.returns-clause-at_its_limit
returns-clause-at_its_limit c = limit_played

pub returns-clause-during_a_fence : goal.returns-clause-during_a_fence
returns-clause-during_a_fence c = during_a_fence_played

pub returns-clause-stale : goal.returns-clause-stale
returns-clause-stale c = stale_played

pub returns-clause-held_before : goal.returns-clause-held_before
returns-clause-held_before c = held_before_played

pub returns-clause-early_walk : goal.returns-clause-early_walk
returns-clause-early_walk c = early_walk_played

pub returns-clause-ended_hits : goal.returns-clause-ended_hits
returns-clause-ended_hits c = ended_hits_played

pub returns-clause-last_answer : goal.returns-clause-last_answer
returns-clause-last_answer c = last_answer_played

pub returns-clause-no_lines : goal.returns-clause-no_lines
returns-clause-no_lines c = nothing_played
