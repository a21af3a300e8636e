use Rattle.std.proofs.Common.{◌≡◌, ◌≢◌, ◌∙◌, ℕ, zero, suc, Some, refl, sym, ap, arith}
use Rattle.std.proofs.lemmas.Option.{none-some}
use Rattle.cove_base.specs.Measurement.{VcpuRecord, extended_at, record_bytes}
use Rattle.cove_measure.proofs.RegisterLemmas.{registers_of-record}
use Rattle.cove_tvm.specs.Slots.{slot_at}
use Rattle.cove_tvm.specs.declared.machines.Tvm.{Tvm}
use Rattle.cove_tvm.specs.declared.vcpus.VcpuSlot.{VcpuSlot}
use Rattle.cove_lives.proofs.examples.worked_adding.Goals as goal

-- a TVM with a vCPU 1 that is measured
abbrev grown : Tvm → VcpuSlot → Tvm
grown tvm slot = record tvm { registers = extended_at tvm.registers 0 (record_bytes (VcpuRecord 1)); v1 = Some slot }

others_stay : (tvm : Tvm) (slot : VcpuSlot) (u : ℕ) → u ≢ 1 → slot_at (grown tvm slot) u ≡ slot_at tvm u
others_stay tvm slot zero other = refl
others_stay tvm slot (suc zero) other = absurd (other refl)
others_stay tvm slot (suc (suc zero)) other = refl
others_stay tvm slot (suc (suc (suc zero))) other = refl
others_stay tvm slot (suc (suc (suc (suc u)))) other = refl

pub returns-clause-adds : goal.returns-clause-adds
returns-clause-adds c = λ tvm slot begins. record {
  slot = slot;
  there = refl;
  begins = begins;
  others = others_stay tvm slot;
  measured = λ records extensions is. ap (λ values. extended_at values 0 (record_bytes (VcpuRecord 1))) is ∙ sym (registers_of-record records extensions (VcpuRecord 1));
  rest = refl;
}

pub returns-clause-other : goal.returns-clause-other
returns-clause-other c = λ tvm slot none adds. none-some adds.slot (sym none ∙ adds.there)

pub returns-clause-changed : goal.returns-clause-changed
returns-clause-changed c = λ tvm slot none adds. none-some slot (sym (adds.others 2 (λ e. omega arith) ∙ none))
