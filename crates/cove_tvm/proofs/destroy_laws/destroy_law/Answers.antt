use Rattle.cove_tvm.proofs.GoneTvm.{destroy_stands}
use Rattle.cove_tvm.proofs.destroy_laws.destroy_law.Goals as goal

pub returns : goal.returns
returns c = record { stands = destroy_stands }
