use Rattle.std.proofs.Common.{[], ◌∷◌, refl}
use Rattle.cove_base.specs.Measurement.{BoardRecord, PageRecord, VcpuRecord}
use Rattle.cove_model.proofs.guest_examples.worked_records.Goals as goal

pub returns-clause-built : goal.returns-clause-built
returns-clause-built c = record { parts = PageRecord 0x10000 [] ∷ VcpuRecord 0 ∷ []; all = (tt, (tt, tt)); begins = refl }

pub returns-clause-sealed : goal.returns-clause-sealed
returns-clause-sealed c = record {
  built = BoardRecord 0x20010 ∷ VcpuRecord 0 ∷ [];
  are_built = record { parts = VcpuRecord 0 ∷ []; all = (tt, tt); begins = refl };
  pc = 0x10000;
  arg = 7;
  last = refl;
}
