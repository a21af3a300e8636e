-- What the TVMs end as, where a `&mut` to one of them is returned.
use Rattle.std.specs.Prelude.{ℕ, ◌-◌, Option, slice_set}
use Rattle.std.specs.Borrow.{Lends, LendsIf, Fml, MutBor}
use Rattle.cove_tvm.specs.TvmTables.{TvmTable}
use Rattle.cove_tvm.specs.declared.machines.Tvm.{Tvm}
use Rattle.cove_tvm.specs.contracts.machines.Tvm.{the_row as tvm_row}
use Rattle.cove_tvm.specs.contracts.tvms.Tvms.{the_row}

-- the TVMs with another one at a place
abbrev pub with_tvm : TvmTable → (place : ℕ) → Tvm → TvmTable
with_tvm table place tvm = record table { tvms = slice_set table.tvms place tvm }

-- once the borrow ends, the TVM at the place is the last one that was written
abbrev pub lends_tvm : MutBor TvmTable → (place : ℕ) → MutBor Tvm → Fml
lends_tvm table place tvm = Lends the_row tvm_row table tvm (with_tvm table.now place)

-- the same for the live TVM with a number; where there is none, the TVMs stay as they are
abbrev pub lends_live : MutBor TvmTable → (t : ℕ) → Option (MutBor Tvm) → Fml
lends_live table t tvm = LendsIf the_row tvm_row table tvm (with_tvm table.now (t - 1)) table.now
