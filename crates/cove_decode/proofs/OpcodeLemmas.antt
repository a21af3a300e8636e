use Rattle.std.proofs.Common.{◌≡◌, ℕ, ◌%◌, ◌==◌, pos, true, false, Some, refl, arith, sym, ap, ◌∙◌, ℤ, ◌<◌, ◌^◌, Option}
use Rattle.std.proofs.lemmas.Bool.Decides.{nat_tests}
use Rattle.std.proofs.lemmas.Int.{to_z-of_z, to_z_pos}
use Rattle.std.specs.Int.{w64, cast_signed, cast_unsigned}
use Rattle.std.specs.Prelude.{FitsSigned}
use Rattle.cove_base.specs.Instructions.{decoded, opcode, rd, funct3, rs1, rs2, funct7, funct6, csr, shamt, is_shift, imm_i, imm_s, imm_b, imm_u, imm_j, branch_of, load_insn, store_insn, immediate_of, shift_of, shift_of_32, operation_of, operation_of_32, csr_of, whole_word_of}
use Rattle.cove_base.specs.declared.instructions.Insn.{Insn}
use Rattle.cove_base.specs.declared.instructions.Insn.TheVariants.{Lui, Auipc, Jal, Jalr, Addiw, Fence}

-- a test that failed
is_false : (m n : ℕ) → (m ≡ n → ⊥) → (m == n) ≡ false
is_false m n h = grind (arith, nat_tests)

-- the instruction of a word whose opcode is known
pub at_branch : (w : ℕ) → opcode w ≡ 0x63 → decoded w ≡ branch_of (funct3 w) (rs1 w) (rs2 w) (imm_b w)
at_branch w op = rw op refl

pub at_load : (w : ℕ) → opcode w ≡ 0x03 → decoded w ≡ load_insn (funct3 w) (rd w) (rs1 w) (imm_i w)
at_load w op = rw op refl

pub at_store : (w : ℕ) → opcode w ≡ 0x23 → decoded w ≡ store_insn (funct3 w) (rs1 w) (rs2 w) (imm_s w)
at_store w op = rw op refl

pub at_shift : (w : ℕ) → opcode w ≡ 0x13 → is_shift (funct3 w) ≡ true → decoded w ≡ shift_of (funct6 w) (funct3 w) (rd w) (rs1 w) (pos (shamt w))
at_shift w op test = rw (op, test) refl

pub at_immediate : (w : ℕ) → opcode w ≡ 0x13 → is_shift (funct3 w) ≡ false → decoded w ≡ immediate_of (funct3 w) (rd w) (rs1 w) (imm_i w)
at_immediate w op test = rw (op, test) refl

pub at_shift_32 : (w : ℕ) → opcode w ≡ 0x1b → (funct3 w == 0) ≡ false → decoded w ≡ shift_of_32 (funct7 w) (funct3 w) (rd w) (rs1 w) (pos (rs2 w))
at_shift_32 w op test = rw (op, test) refl

pub at_operation : (w : ℕ) → opcode w ≡ 0x33 → decoded w ≡ operation_of (funct7 w) (funct3 w) (rd w) (rs1 w) (rs2 w)
at_operation w op = rw op refl

pub at_operation_32 : (w : ℕ) → opcode w ≡ 0x3b → decoded w ≡ operation_of_32 (funct7 w) (funct3 w) (rd w) (rs1 w) (rs2 w)
at_operation_32 w op = rw op refl

pub at_whole_word : (w : ℕ) → opcode w ≡ 0x73 → (funct3 w == 0) ≡ true → decoded w ≡ whole_word_of w
at_whole_word w op test = rw (op, test) refl

pub at_csr : (w : ℕ) → opcode w ≡ 0x73 → (funct3 w == 0) ≡ false → decoded w ≡ csr_of (funct3 w) (rd w) (rs1 w) (csr w)
at_csr w op test = rw (op, test) refl

pub at_lui : (w : ℕ) → opcode w ≡ 0x37 → decoded w ≡ Some (Lui (rd w) (imm_u w))
at_lui w op = rw op refl

pub at_auipc : (w : ℕ) → opcode w ≡ 0x17 → decoded w ≡ Some (Auipc (rd w) (imm_u w))
at_auipc w op = rw op refl

pub at_jal : (w : ℕ) → opcode w ≡ 0x6f → decoded w ≡ Some (Jal (rd w) (imm_j w))
at_jal w op = rw op refl

pub at_jalr : (w : ℕ) → opcode w ≡ 0x67 → (funct3 w == 0) ≡ true → decoded w ≡ Some (Jalr (rd w) (rs1 w) (imm_i w))
at_jalr w op test = rw (op, test) refl

pub at_addiw : (w : ℕ) → opcode w ≡ 0x1b → (funct3 w == 0) ≡ true → decoded w ≡ Some (Addiw (rd w) (rs1 w) (imm_i w))
at_addiw w op test = rw (op, test) refl

pub at_fence : (w : ℕ) → opcode w ≡ 0x0f → (funct3 w == 0) ≡ true → decoded w ≡ Some Fence
at_fence w op test = rw (op, test) refl

-- the same, as a call of the decoder gives it
pub from_branch : (w : ℕ) (r : Option Insn) (f a b : ℕ) (i : ℤ)
    → opcode w ≡ 0x63 → FitsSigned w64 i → r ≡ branch_of f a b (cast_signed w64 (cast_unsigned w64 i))
    → f ≡ funct3 w → a ≡ rs1 w → b ≡ rs2 w → i ≡ imm_b w → r ≡ decoded w
from_branch w r f a b i op fits e e0 e1 e2 e3 =
    e ∙ (ap (branch_of f a b) (to_z-of_z w64 i fits) ∙ (rw (e0, e1, e2, e3) refl ∙ sym (at_branch w op)))

pub from_load : (w : ℕ) (r : Option Insn) (f d a : ℕ) (i : ℤ)
    → opcode w ≡ 0x03 → FitsSigned w64 i → r ≡ load_insn f d a (cast_signed w64 (cast_unsigned w64 i))
    → f ≡ funct3 w → d ≡ rd w → a ≡ rs1 w → i ≡ imm_i w → r ≡ decoded w
from_load w r f d a i op fits e e0 e1 e2 e3 =
    e ∙ (ap (load_insn f d a) (to_z-of_z w64 i fits) ∙ (rw (e0, e1, e2, e3) refl ∙ sym (at_load w op)))

pub from_store : (w : ℕ) (r : Option Insn) (f a b : ℕ) (i : ℤ)
    → opcode w ≡ 0x23 → FitsSigned w64 i → r ≡ store_insn f a b (cast_signed w64 (cast_unsigned w64 i))
    → f ≡ funct3 w → a ≡ rs1 w → b ≡ rs2 w → i ≡ imm_s w → r ≡ decoded w
from_store w r f a b i op fits e e0 e1 e2 e3 =
    e ∙ (ap (store_insn f a b) (to_z-of_z w64 i fits) ∙ (rw (e0, e1, e2, e3) refl ∙ sym (at_store w op)))

pub from_immediate : (w : ℕ) (r : Option Insn) (f d a : ℕ) (i : ℤ)
    → opcode w ≡ 0x13 → (f % 4 ≡ 1 → ⊥) → FitsSigned w64 i → r ≡ immediate_of f d a (cast_signed w64 (cast_unsigned w64 i))
    → f ≡ funct3 w → d ≡ rd w → a ≡ rs1 w → i ≡ imm_i w → r ≡ decoded w
from_immediate w r f d a i op test fits e e0 e1 e2 e3 =
    e ∙ (ap (immediate_of f d a) (to_z-of_z w64 i fits) ∙ (rw (e0, e1, e2, e3) refl ∙ sym (at_immediate w op (is_false (funct3 w % 4) 1 (rw (← e0) test)))))

pub from_shift_32 : (w : ℕ) (r : Option Insn) (f d a b : ℕ)
    → opcode w ≡ 0x1b → (f ≡ 0 → ⊥) → b < 2 ^ 63 → r ≡ shift_of_32 (funct7 w) f d a (cast_signed w64 b)
    → f ≡ funct3 w → d ≡ rd w → a ≡ rs1 w → b ≡ rs2 w → r ≡ decoded w
from_shift_32 w r f d a b op test fits e e0 e1 e2 e3 =
    e ∙ (ap (shift_of_32 (funct7 w) f d a) (to_z_pos w64 b fits)
    ∙ (rw (e0, e1, e2, e3) refl ∙ sym (at_shift_32 w op (is_false (funct3 w) 0 (rw (← e0) test)))))
