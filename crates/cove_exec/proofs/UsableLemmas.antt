use Rattle.std.proofs.Common.{ℕ, ◌/◌, ◌*◌, ◌%◌, ◌<◌, ◌==◌, ℤ, Bool, true, false, not, List, refl, arith}
use Rattle.std.proofs.lemmas.Bool.{cond_both, eqb-true}
use Rattle.cove_base.specs.Encodings.{FieldsFit}
use Rattle.std.specs.Prelude.{nat_lt}
use Rattle.cove_base.specs.Registers.{register}
use Rattle.cove_base.specs.Executions.{plan, plus, as_word, is_less_signed, jumps, branches, loads, stores, IsSize, IsUsablePlan}
use Rattle.cove_base.specs.declared.instructions.Insn.{Insn}
use Rattle.cove_base.specs.declared.instructions.Insn.TheVariants.{Lui, Auipc, Jal, Jalr, Beq, Bne, Blt, Bge, Bltu, Bgeu, Lb, Lh, Lw, Ld, Lbu, Lhu, Lwu, Sb, Sh, Sw, Sd, Addi, Slti, Sltiu, Xori, Ori, Andi, Slli, Srli, Srai, Addiw, Slliw, Srliw, Sraiw, Add, Sub, Sll, Slt, Sltu, Xor, Srl, Sra, Or, And, Addw, Subw, Sllw, Srlw, Sraw, Fence, Ecall, Ebreak, Wfi, Csrrw, Csrrs, Csrrc, Csrrwi, Csrrsi, Csrrci}

usable_jumps : (pc rd target : ℕ) → rd < 32 → IsUsablePlan (jumps pc rd target)
usable_jumps pc rd target h = cond_both (target % 4 == 0) _ _ IsUsablePlan (λ _. h) (λ _. tt)

usable_branches : (pc : ℕ) (test : Bool) (imm : ℤ) → IsUsablePlan (branches pc test imm)
usable_branches pc false imm = omega arith
usable_branches pc true imm = cond_both (plus pc (as_word imm) % 4 == 0) _ _ IsUsablePlan (λ _. omega arith) (λ _. tt)

usable_loads : (addr size : ℕ) (signed : Bool) (rd : ℕ) → rd < 32 → IsSize size → IsUsablePlan (loads addr size signed rd)
usable_loads addr size signed rd h s = cond_both (addr % size == 0) _ _ IsUsablePlan (λ e. (h, s, eqb-true _ _ e)) (λ _. tt)

usable_stores : (addr size value : ℕ) → IsSize size → IsUsablePlan (stores addr size value)
usable_stores addr size value s = cond_both (addr % size == 0) _ _ IsUsablePlan (λ e. (s, eqb-true _ _ e)) (λ _. tt)

-- what is planned for an instruction that fits can be carried out
pub usable : (x : List ℕ) (pc : ℕ) (insn : Insn) → FieldsFit insn → IsUsablePlan (plan x pc insn)
usable x pc (Lui rd imm) fits = fits.0
usable x pc (Auipc rd imm) fits = fits.0
usable x pc (Jal rd imm) fits = usable_jumps pc rd (plus pc (as_word imm)) fits.0
usable x pc (Jalr rd rs1 imm) fits = usable_jumps pc rd (plus (register x rs1) (as_word imm) / 2 * 2) fits.0
usable x pc (Beq rs1 rs2 imm) fits = usable_branches pc (register x rs1 == register x rs2) imm
usable x pc (Bne rs1 rs2 imm) fits = usable_branches pc (not (register x rs1 == register x rs2)) imm
usable x pc (Blt rs1 rs2 imm) fits = usable_branches pc (is_less_signed (register x rs1) (register x rs2)) imm
usable x pc (Bge rs1 rs2 imm) fits = usable_branches pc (not (is_less_signed (register x rs1) (register x rs2))) imm
usable x pc (Bltu rs1 rs2 imm) fits = usable_branches pc (nat_lt (register x rs1) (register x rs2)) imm
usable x pc (Bgeu rs1 rs2 imm) fits = usable_branches pc (not (nat_lt (register x rs1) (register x rs2))) imm
usable x pc (Lb rd rs1 imm) fits = usable_loads (plus (register x rs1) (as_word imm)) 1 true rd fits.0 refl
usable x pc (Lh rd rs1 imm) fits = usable_loads (plus (register x rs1) (as_word imm)) 2 true rd fits.0 refl
usable x pc (Lw rd rs1 imm) fits = usable_loads (plus (register x rs1) (as_word imm)) 4 true rd fits.0 refl
usable x pc (Ld rd rs1 imm) fits = usable_loads (plus (register x rs1) (as_word imm)) 8 false rd fits.0 refl
usable x pc (Lbu rd rs1 imm) fits = usable_loads (plus (register x rs1) (as_word imm)) 1 false rd fits.0 refl
usable x pc (Lhu rd rs1 imm) fits = usable_loads (plus (register x rs1) (as_word imm)) 2 false rd fits.0 refl
usable x pc (Lwu rd rs1 imm) fits = usable_loads (plus (register x rs1) (as_word imm)) 4 false rd fits.0 refl
usable x pc (Sb rs1 rs2 imm) fits = usable_stores (plus (register x rs1) (as_word imm)) 1 (register x rs2) refl
usable x pc (Sh rs1 rs2 imm) fits = usable_stores (plus (register x rs1) (as_word imm)) 2 (register x rs2) refl
usable x pc (Sw rs1 rs2 imm) fits = usable_stores (plus (register x rs1) (as_word imm)) 4 (register x rs2) refl
usable x pc (Sd rs1 rs2 imm) fits = usable_stores (plus (register x rs1) (as_word imm)) 8 (register x rs2) refl
usable x pc (Addi rd rs1 imm) fits = fits.0
usable x pc (Slti rd rs1 imm) fits = fits.0
usable x pc (Sltiu rd rs1 imm) fits = fits.0
usable x pc (Xori rd rs1 imm) fits = fits.0
usable x pc (Ori rd rs1 imm) fits = fits.0
usable x pc (Andi rd rs1 imm) fits = fits.0
usable x pc (Slli rd rs1 imm) fits = fits.0
usable x pc (Srli rd rs1 imm) fits = fits.0
usable x pc (Srai rd rs1 imm) fits = fits.0
usable x pc (Addiw rd rs1 imm) fits = fits.0
usable x pc (Slliw rd rs1 imm) fits = fits.0
usable x pc (Srliw rd rs1 imm) fits = fits.0
usable x pc (Sraiw rd rs1 imm) fits = fits.0
usable x pc (Add rd rs1 rs2) fits = fits.0
usable x pc (Sub rd rs1 rs2) fits = fits.0
usable x pc (Sll rd rs1 rs2) fits = fits.0
usable x pc (Slt rd rs1 rs2) fits = fits.0
usable x pc (Sltu rd rs1 rs2) fits = fits.0
usable x pc (Xor rd rs1 rs2) fits = fits.0
usable x pc (Srl rd rs1 rs2) fits = fits.0
usable x pc (Sra rd rs1 rs2) fits = fits.0
usable x pc (Or rd rs1 rs2) fits = fits.0
usable x pc (And rd rs1 rs2) fits = fits.0
usable x pc (Addw rd rs1 rs2) fits = fits.0
usable x pc (Subw rd rs1 rs2) fits = fits.0
usable x pc (Sllw rd rs1 rs2) fits = fits.0
usable x pc (Srlw rd rs1 rs2) fits = fits.0
usable x pc (Sraw rd rs1 rs2) fits = fits.0
usable x pc Fence fits = omega arith
usable x pc Ecall fits = tt
usable x pc Ebreak fits = tt
usable x pc Wfi fits = tt
usable x pc (Csrrw rd rs1 csr) fits = (fits.0, fits.2)
usable x pc (Csrrs rd rs1 csr) fits = (fits.0, fits.2)
usable x pc (Csrrc rd rs1 csr) fits = (fits.0, fits.2)
usable x pc (Csrrwi rd rs1 csr) fits = (fits.0, fits.2)
usable x pc (Csrrsi rd rs1 csr) fits = (fits.0, fits.2)
usable x pc (Csrrci rd rs1 csr) fits = (fits.0, fits.2)
