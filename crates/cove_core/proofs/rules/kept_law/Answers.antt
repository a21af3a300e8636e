use Rattle.cove_core.proofs.KeptRuleProofs.{kept_harts_live, kept_harts_use, kept_is_bounded, kept_is_monitored, steps_keep_live}
use Rattle.cove_core.proofs.Walking.{needed_walks_leave_alone}
use Rattle.cove_core.proofs.rules.kept_law.Goals as goal

pub returns-clause-monitored : goal.returns-clause-monitored
returns-clause-monitored c = kept_is_monitored

pub returns-clause-bounded : goal.returns-clause-bounded
returns-clause-bounded c = kept_is_bounded

pub returns-clause-live : goal.returns-clause-live
returns-clause-live c = kept_harts_live

pub returns-clause-usable : goal.returns-clause-usable
returns-clause-usable c = kept_harts_use

pub returns-clause-steps : goal.returns-clause-steps
returns-clause-steps c = steps_keep_live

pub returns-clause-walks : goal.returns-clause-walks
returns-clause-walks c = needed_walks_leave_alone
