use Rattle.cove_model.proofs.AloneProofs.{fits_fit_alone, others_leave_alone, ruled_harts_fit, walks_leave_alone}
use Rattle.cove_model.proofs.rules.alone_law.Goals as goal

pub returns-clause-fits : goal.returns-clause-fits
returns-clause-fits c = fits_fit_alone

pub returns-clause-others : goal.returns-clause-others
returns-clause-others c = others_leave_alone

pub returns-clause-walks : goal.returns-clause-walks
returns-clause-walks c = walks_leave_alone

pub returns-clause-ruled : goal.returns-clause-ruled
returns-clause-ruled c = ruled_harts_fit
