use Rattle.cove_tvm.proofs.TablesMissing.{missing_agree}
use Rattle.cove_tvm.proofs.table_laws.missing_law.Goals as goal

pub returns : goal.returns
returns c = missing_agree
