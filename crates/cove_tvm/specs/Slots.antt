-- The vCPUs of a TVM, by their numbers.
use Rattle.std.specs.Prelude.{ℕ, zero, suc, Option, None}
use Rattle.cove_tvm.specs.declared.machines.Tvm.{Tvm}
use Rattle.cove_tvm.specs.declared.vcpus.VcpuSlot.{VcpuSlot}

-- the vCPU with a number, for every number
abbrev pub slot_at : Tvm → (v : ℕ) → Option VcpuSlot
slot_at tvm zero = tvm.v0
slot_at tvm (suc zero) = tvm.v1
slot_at tvm (suc (suc zero)) = tvm.v2
slot_at tvm (suc (suc (suc zero))) = tvm.v3
slot_at tvm (suc (suc (suc (suc v)))) = None
