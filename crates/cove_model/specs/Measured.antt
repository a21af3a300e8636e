-- What is measured of a TVM: the board it was created on, its pages and vCPUs while it is built, and its finalize record last.
use Rattle.std.specs.Prelude.{◌≡◌, ℕ, true, false, List, [], ◌∷◌, ◌++◌}
use Rattle.std.specs.List.{AllByRecursion}
use Rattle.cove_base.specs.Measurement.{Record, BoardRecord, PageRecord, VcpuRecord, FinalizeRecord}
use Rattle.cove_model.specs.Tvms.{Tvm}

-- the record of a page or of a vCPU: what a TVM is given while it is built
abbrev pub IsPart : Record → Type 0
IsPart (BoardRecord board) = ⊥
IsPart (PageRecord addr words) = Unit {0}
IsPart (VcpuRecord vcpu) = Unit {0}
IsPart (FinalizeRecord pc arg) = ⊥

-- the board's record first, then those of parts
pub record AreBuilt (board : ℕ) (records : List Record) : Type 0 where
  pub parts : List Record
  pub all : AllByRecursion IsPart parts
  pub begins : records ≡ BoardRecord board ∷ parts

-- and a finalize record last
pub record AreSealed (board : ℕ) (records : List Record) : Type 0 where
  pub built : List Record
  pub are_built : AreBuilt board built
  pub pc : ℕ
  pub arg : ℕ
  pub last : records ≡ built ++ FinalizeRecord pc arg ∷ []

-- what register 0 of a TVM on a board was extended by
pub record IsMeasured (board : ℕ) (tvm : Tvm) : Type 0 where
  pub building : tvm.runnable ≡ false → AreBuilt board tvm.records
  pub finalized : tvm.runnable ≡ true → AreSealed board tvm.records
