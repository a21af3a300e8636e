-- What finalizing leaves of a TVM.
use Rattle.std.specs.Prelude.{◌≡◌, ℕ, ◌++◌, List, [], ◌∷◌}
use Rattle.cove_base.specs.Measurement.{Extension, FinalizeRecord, Record, registers_of}
use Rattle.cove_tvm.specs.BuiltTvms.{AreStarted}
use Rattle.cove_tvm.specs.declared.machines.Life.TheVariants.{Runnable}
use Rattle.cove_tvm.specs.declared.machines.Tvm.{Tvm}

-- it may run, its registers are extended by the record, its vCPUs are started, and all else stays
pub record IsFinalized (pc arg : ℕ) (old new : Tvm) : Type 0 where
  pub measured :
      (records : List Record) (extensions : List Extension)
      → old.registers ≡ registers_of records extensions
      → new.registers ≡ registers_of (records ++ FinalizeRecord pc arg ∷ []) extensions
  pub v0 : AreStarted pc arg 0 old.v0 new.v0
  pub v1 : AreStarted pc arg 1 old.v1 new.v1
  pub v2 : AreStarted pc arg 2 old.v2 new.v2
  pub v3 : AreStarted pc arg 3 old.v3 new.v3
  pub rest :
      new
      ≡ record old {
        life = Runnable;
        registers = new.registers;
        v0 = new.v0;
        v1 = new.v1;
        v2 = new.v2;
        v3 = new.v3;
      }
