use Rattle.cove_tvm.proofs.NewVcpu.{adding_is_lawful, adding_stands}
use Rattle.cove_tvm.proofs.vcpu_laws.vcpu_law.Goals as goal

pub returns : goal.returns
returns c = record { stands = adding_stands; lawful = adding_is_lawful }
