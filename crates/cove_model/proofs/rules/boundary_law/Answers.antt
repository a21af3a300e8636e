use Rattle.cove_model.proofs.AloneProofs.{opening_keeps_rule}
use Rattle.cove_model.proofs.BoardRuleProofs.{fitting_harts_live, fitting_harts_use, live_walks_were_right, resting_harts_live}
use Rattle.cove_model.proofs.rules.boundary_law.Goals as goal

pub returns-clause-live : goal.returns-clause-live
returns-clause-live c = fitting_harts_live

pub returns-clause-resting : goal.returns-clause-resting
returns-clause-resting c = resting_harts_live

pub returns-clause-usable : goal.returns-clause-usable
returns-clause-usable c = fitting_harts_use

pub returns-clause-walks : goal.returns-clause-walks
returns-clause-walks c = live_walks_were_right

pub returns-clause-opening : goal.returns-clause-opening
returns-clause-opening c = opening_keeps_rule
