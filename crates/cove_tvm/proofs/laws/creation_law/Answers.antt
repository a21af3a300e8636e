use Rattle.cove_tvm.proofs.CreatedTvm.{create_stands}
use Rattle.cove_tvm.proofs.GivesLawful.{create_is_lawful}
use Rattle.cove_tvm.proofs.laws.creation_law.Goals as goal

pub returns-clause-stands : goal.returns-clause-stands
returns-clause-stands c = create_stands

pub returns-clause-lawful : goal.returns-clause-lawful
returns-clause-lawful c = create_is_lawful
