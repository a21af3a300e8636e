use Rattle.cove_base.proofs.ScriptLimits.{limits_of}
use Rattle.cove_base.specs.declared.events.Walked.TheVariants.{Found, Missing}
use Rattle.cove_model.proofs.Fitting.{fits_entered, fits_other, fits_walked}
use Rattle.cove_model.proofs.Playing.{was_now}
use Rattle.cove_model.proofs.laws.harts_keep_fitting.Goals as goal

pub returns-clause-others : goal.returns-clause-others
returns-clause-others c = λ script history entry held within front legal. fits_other script (limits_of script within) history entry front legal held

pub returns-clause-found : goal.returns-clause-found
returns-clause-found c = λ script history held target page fits none sought found led.
    fits_walked script history held target (Found page) fits none (sought, record { was = was_now script history held.hart target found; led = led })

pub returns-clause-missing : goal.returns-clause-missing
returns-clause-missing c = λ script history held target word fits none sought. fits_walked script history held target (Missing word) fits none sought

pub returns-clause-entered : goal.returns-clause-entered
returns-clause-entered c = fits_entered
