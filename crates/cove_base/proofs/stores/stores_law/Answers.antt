use Rattle.cove_base.proofs.StoreLemmas.{length-stored, get_or-stored_other, stored-append, get_or-fills, get_or-fills_other}
use Rattle.cove_base.proofs.stores.stores_law.Goals as goal

pub returns-clause-length : goal.returns-clause-length
returns-clause-length c = length-stored

pub returns-clause-others : goal.returns-clause-others
returns-clause-others c = get_or-stored_other

pub returns-clause-append : goal.returns-clause-append
returns-clause-append c = stored-append

pub returns-clause-fills : goal.returns-clause-fills
returns-clause-fills c = get_or-fills

pub returns-clause-fills_others : goal.returns-clause-fills_others
returns-clause-fills_others c = get_or-fills_other
