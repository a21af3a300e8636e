use Rattle.std.proofs.Common.{◌≡◌, ℕ, ◌+◌, ◌*◌, ◌/◌, ◌%◌, ◌^◌, ◌<◌, ◌==◌, ◌&&◌, ℤ, pos, negsuc, true, false, Some, refl, sym, ap, ◌∙◌, arith}
use Rattle.std.proofs.lemmas.Bool.{cond_both, eqb-true, and_parts}
use Rattle.std.proofs.lemmas.Int.{ints}
use Rattle.cove_base.specs.Instructions.{decoded, signed, opcode, funct3, is_shift, imm_i, imm_s, imm_b, imm_u, imm_j, branch_of, load_insn, store_insn, immediate_of, shift_of, shift_of_32, operation_of, operation_of_32, csr_of}
use Rattle.cove_base.specs.Encodings.{encoded, bits_of, significant, FieldsFit, IsImmediate, IsShift, r_format, i_format, s_format, b_format, u_format, j_format}
use Rattle.cove_base.specs.declared.instructions.Insn.{Insn}
use Rattle.cove_base.specs.declared.instructions.Insn.TheVariants.{Lui, Auipc, Jal, Jalr, Beq, Bne, Blt, Bge, Bltu, Bgeu, Lb, Lh, Lw, Ld, Lbu, Lhu, Lwu, Sb, Sh, Sw, Sd, Addi, Slti, Sltiu, Xori, Ori, Andi, Slli, Srli, Srai, Addiw, Slliw, Srliw, Sraiw, Add, Sub, Sll, Slt, Sltu, Xor, Srl, Sra, Or, And, Addw, Subw, Sllw, Srlw, Sraw, Fence, Ecall, Ebreak, Wfi, Csrrw, Csrrs, Csrrc, Csrrwi, Csrrsi, Csrrci}
use Rattle.cove_decode.proofs.FieldLemmas.{HasFields, HasBits, HasUpper, r_fields, i_fields, upper_fields, signed-bits_of, bits_of_below, imm_i_is, imm_s_is, imm_b_is, imm_u_is, imm_j_is, b_bits-pieces, j_bits-pieces}
use Rattle.cove_decode.proofs.OpcodeLemmas.{at_branch, at_load, at_store, at_shift, at_immediate, at_shift_32, at_operation, at_operation_32, at_csr, at_lui, at_auipc, at_jal, at_jalr, at_addiw, at_fence}

-- the instruction of a word with these fields
of_branch : (w d f a b h : ℕ) (i : ℤ) → HasFields w 0x63 d f a b h → imm_b w ≡ i → decoded w ≡ branch_of f a b i
of_branch w d f a b h i has e = at_branch w has.opcode ∙ rw (has.funct3, has.rs1, has.rs2, e) refl

of_store : (w d f a b h : ℕ) (i : ℤ) → HasFields w 0x23 d f a b h → imm_s w ≡ i → decoded w ≡ store_insn f a b i
of_store w d f a b h i has e = at_store w has.opcode ∙ rw (has.funct3, has.rs1, has.rs2, e) refl

of_operation : (w d f a b h : ℕ) → HasFields w 0x33 d f a b h → decoded w ≡ operation_of h f d a b
of_operation w d f a b h has = at_operation w has.opcode ∙ rw (has.funct3, has.funct7, has.rd, has.rs1, has.rs2) refl

of_operation_32 : (w d f a b h : ℕ) → HasFields w 0x3b d f a b h → decoded w ≡ operation_of_32 h f d a b
of_operation_32 w d f a b h has = at_operation_32 w has.opcode ∙ rw (has.funct3, has.funct7, has.rd, has.rs1, has.rs2) refl

of_shift_32 : (w d f a b h : ℕ) → HasFields w 0x1b d f a b h → (f == 0) ≡ false → decoded w ≡ shift_of_32 h f d a (pos b)
of_shift_32 w d f a b h has test =
    at_shift_32 w has.opcode (rw has.funct3 test) ∙ rw (has.funct3, has.funct7, has.rd, has.rs1, has.rs2) refl

of_load : (w d f a n : ℕ) (i : ℤ) → HasBits w 0x03 d f a n → imm_i w ≡ i → decoded w ≡ load_insn f d a i
of_load w d f a n i has e = at_load w has.opcode ∙ rw (has.funct3, has.rd, has.rs1, e) refl

of_immediate : (w d f a n : ℕ) (i : ℤ) → HasBits w 0x13 d f a n → is_shift f ≡ false → imm_i w ≡ i
    → decoded w ≡ immediate_of f d a i
of_immediate w d f a n i has test e =
    at_immediate w has.opcode (rw has.funct3 test) ∙ rw (has.funct3, has.rd, has.rs1, e) refl

of_addiw : (w d a n : ℕ) (i : ℤ) → HasBits w 0x1b d 0 a n → imm_i w ≡ i → decoded w ≡ Some (Addiw d a i)
of_addiw w d a n i has e = at_addiw w has.opcode (rw has.funct3 refl) ∙ rw (has.rd, has.rs1, e) refl

of_jalr : (w d a n : ℕ) (i : ℤ) → HasBits w 0x67 d 0 a n → imm_i w ≡ i → decoded w ≡ Some (Jalr d a i)
of_jalr w d a n i has e = at_jalr w has.opcode (rw has.funct3 refl) ∙ rw (has.rd, has.rs1, e) refl

of_csr : (w d f a n : ℕ) → HasBits w 0x73 d f a n → (f == 0) ≡ false → decoded w ≡ csr_of f d a n
of_csr w d f a n has test = at_csr w has.opcode (rw has.funct3 test) ∙ rw (has.funct3, has.rd, has.rs1, has.bits) refl

of_shift : (w d f a n h m : ℕ) → HasBits w 0x13 d f a n → n ≡ h * 2 ^ 6 + m → m < 2 ^ 6 → is_shift f ≡ true
    → decoded w ≡ shift_of h f d a (pos m)
of_shift w d f a n h m has pieces below test =
    let bits = has.bits in
    let high : w / 2 ^ 26 ≡ h = omega arith in
    let low : w / 2 ^ 20 % 2 ^ 6 ≡ m = omega arith in
    at_shift w has.opcode (rw has.funct3 test) ∙ rw (has.funct3, has.rd, has.rs1, high, low) refl

of_lui : (w d u : ℕ) (i : ℤ) → HasUpper w 0x37 d u → imm_u w ≡ i → decoded w ≡ Some (Lui d i)
of_lui w d u i has e = at_lui w has.opcode ∙ rw (has.rd, e) refl

of_auipc : (w d u : ℕ) (i : ℤ) → HasUpper w 0x17 d u → imm_u w ≡ i → decoded w ≡ Some (Auipc d i)
of_auipc w d u i has e = at_auipc w has.opcode ∙ rw (has.rd, e) refl

of_jal : (w d u : ℕ) (i : ℤ) → HasUpper w 0x6f d u → imm_j w ≡ i → decoded w ≡ Some (Jal d i)
of_jal w d u i has e = at_jal w has.opcode ∙ rw (has.rd, e) refl

-- the instruction of the word of a format
branch_again : (f a b : ℕ) (i : ℤ) → f < 8 → a < 32 → b < 32 → IsImmediate 13 1 i
    → decoded (b_format 0x63 f a b (bits_of 13 i)) ≡ branch_of f a b i
branch_again f a b i hf ha hb fits =
    let n : ℕ = bits_of 13 i in
    let h : ℕ = n / 2 ^ 12 * 2 ^ 6 + n / 2 ^ 5 % 2 ^ 6 in
    let d : ℕ = n / 2 % 2 ^ 4 * 2 + n / 2 ^ 11 % 2 in
    let w : ℕ = r_format 0x63 f h d a b in
    let has : HasFields w 0x63 d f a b h = r_fields 0x63 f h d a b (omega arith) (omega arith) hf ha hb in
    of_branch w d f a b h i has (imm_b_is w h d has.funct7 has.rd
    ∙ (ap (signed 13) (b_bits-pieces n (bits_of_below 13 1 i refl fits) fits.2) ∙ signed-bits_of 13 1 i refl fits))

store_again : (f a b : ℕ) (i : ℤ) → f < 8 → a < 32 → b < 32 → IsImmediate 12 0 i
    → decoded (s_format 0x23 f a b (bits_of 12 i)) ≡ store_insn f a b i
store_again f a b i hf ha hb fits =
    let n : ℕ = bits_of 12 i in
    let h : ℕ = n / 2 ^ 5 in
    let d : ℕ = n % 2 ^ 5 in
    let w : ℕ = r_format 0x23 f h d a b in
    let has : HasFields w 0x23 d f a b h = r_fields 0x23 f h d a b (omega arith) (omega arith) hf ha hb in
    let whole : h * 2 ^ 5 + d ≡ n = omega arith in
    of_store w d f a b h i has (imm_s_is w h d has.funct7 has.rd
    ∙ (ap (signed 12) whole ∙ signed-bits_of 12 0 i refl fits))

operation_again : (h f d a b : ℕ) → f < 8 → d < 32 → a < 32 → b < 32
    → decoded (r_format 0x33 f h d a b) ≡ operation_of h f d a b
operation_again h f d a b hf hd ha hb =
    of_operation (r_format 0x33 f h d a b) d f a b h (r_fields 0x33 f h d a b (omega arith) hd hf ha hb)

operation_32_again : (h f d a b : ℕ) → f < 8 → d < 32 → a < 32 → b < 32
    → decoded (r_format 0x3b f h d a b) ≡ operation_of_32 h f d a b
operation_32_again h f d a b hf hd ha hb =
    of_operation_32 (r_format 0x3b f h d a b) d f a b h (r_fields 0x3b f h d a b (omega arith) hd hf ha hb)

shift_32_again : (h f d a : ℕ) (i : ℤ) → f < 8 → (f == 0) ≡ false → d < 32 → a < 32 → IsShift 5 i
    → decoded (r_format 0x1b f h d a (bits_of 5 i)) ≡ shift_of_32 h f d a i
shift_32_again h f d a (pos n) hf test hd ha (low, high) =
    let below : n < 32 = omega (arith, ints) in
    of_shift_32 (r_format 0x1b f h d a n) d f a n h (r_fields 0x1b f h d a n (omega arith) hd hf ha below) test
shift_32_again h f d a (negsuc n) hf test hd ha (low, high) = absurd (omega (arith, ints))

load_again : (f d a : ℕ) (i : ℤ) → f < 8 → d < 32 → a < 32 → IsImmediate 12 0 i
    → decoded (i_format 0x03 f d a (bits_of 12 i)) ≡ load_insn f d a i
load_again f d a i hf hd ha fits =
    let n : ℕ = bits_of 12 i in
    let w : ℕ = i_format 0x03 f d a n in
    let has : HasBits w 0x03 d f a n = i_fields 0x03 f d a n (omega arith) hd hf ha in
    of_load w d f a n i has (imm_i_is w n has.bits ∙ signed-bits_of 12 0 i refl fits)

immediate_again : (f d a : ℕ) (i : ℤ) → f < 8 → is_shift f ≡ false → d < 32 → a < 32 → IsImmediate 12 0 i
    → decoded (i_format 0x13 f d a (bits_of 12 i)) ≡ immediate_of f d a i
immediate_again f d a i hf test hd ha fits =
    let n : ℕ = bits_of 12 i in
    let w : ℕ = i_format 0x13 f d a n in
    let has : HasBits w 0x13 d f a n = i_fields 0x13 f d a n (omega arith) hd hf ha in
    of_immediate w d f a n i has test (imm_i_is w n has.bits ∙ signed-bits_of 12 0 i refl fits)

addiw_again : (d a : ℕ) (i : ℤ) → d < 32 → a < 32 → IsImmediate 12 0 i
    → decoded (i_format 0x1b 0 d a (bits_of 12 i)) ≡ Some (Addiw d a i)
addiw_again d a i hd ha fits =
    let n : ℕ = bits_of 12 i in
    let w : ℕ = i_format 0x1b 0 d a n in
    let has : HasBits w 0x1b d 0 a n = i_fields 0x1b 0 d a n (omega arith) hd (omega arith) ha in
    of_addiw w d a n i has (imm_i_is w n has.bits ∙ signed-bits_of 12 0 i refl fits)

jalr_again : (d a : ℕ) (i : ℤ) → d < 32 → a < 32 → IsImmediate 12 0 i
    → decoded (i_format 0x67 0 d a (bits_of 12 i)) ≡ Some (Jalr d a i)
jalr_again d a i hd ha fits =
    let n : ℕ = bits_of 12 i in
    let w : ℕ = i_format 0x67 0 d a n in
    let has : HasBits w 0x67 d 0 a n = i_fields 0x67 0 d a n (omega arith) hd (omega arith) ha in
    of_jalr w d a n i has (imm_i_is w n has.bits ∙ signed-bits_of 12 0 i refl fits)

csr_again : (f d a n : ℕ) → f < 8 → (f == 0) ≡ false → d < 32 → a < 32
    → decoded (i_format 0x73 f d a n) ≡ csr_of f d a n
csr_again f d a n hf test hd ha =
    of_csr (i_format 0x73 f d a n) d f a n (i_fields 0x73 f d a n (omega arith) hd hf ha) test

shift_again : (h f d a n : ℕ) (i : ℤ) → f < 8 → is_shift f ≡ true → d < 32 → a < 32 → IsShift 6 i
    → n ≡ h * 2 ^ 6 + bits_of 6 i → decoded (i_format 0x13 f d a n) ≡ shift_of h f d a i
shift_again h f d a n (pos m) hf test hd ha (low, high) pieces =
    let below : m < 64 = omega (arith, ints) in
    of_shift (i_format 0x13 f d a n) d f a n h m (i_fields 0x13 f d a n (omega arith) hd hf ha) pieces below test
shift_again h f d a n (negsuc m) hf test hd ha (low, high) pieces = absurd (omega (arith, ints))

upper_imm : (w u : ℕ) (i : ℤ) → w / 2 ^ 12 ≡ u → u ≡ bits_of 32 i / 2 ^ 12 → IsImmediate 32 12 i → imm_u w ≡ i
upper_imm w u i e same fits =
    let even : bits_of 32 i % 2 ^ 12 ≡ 0 = fits.2 in
    let whole : u * 2 ^ 12 ≡ bits_of 32 i = omega arith in
    imm_u_is w u e ∙ (ap (signed 32) whole ∙ signed-bits_of 32 12 i refl fits)

lui_again : (d : ℕ) (i : ℤ) → d < 32 → IsImmediate 32 12 i → decoded (u_format 0x37 d (bits_of 32 i)) ≡ Some (Lui d i)
lui_again d i hd fits =
    let u : ℕ = bits_of 32 i / 2 ^ 12 in
    let w : ℕ = u * 2 ^ 12 + d * 2 ^ 7 + 0x37 in
    let has : HasUpper w 0x37 d u = upper_fields 0x37 d u (omega arith) hd in
    of_lui w d u i has (upper_imm w u i has.upper refl fits)

auipc_again : (d : ℕ) (i : ℤ) → d < 32 → IsImmediate 32 12 i → decoded (u_format 0x17 d (bits_of 32 i)) ≡ Some (Auipc d i)
auipc_again d i hd fits =
    let u : ℕ = bits_of 32 i / 2 ^ 12 in
    let w : ℕ = u * 2 ^ 12 + d * 2 ^ 7 + 0x17 in
    let has : HasUpper w 0x17 d u = upper_fields 0x17 d u (omega arith) hd in
    of_auipc w d u i has (upper_imm w u i has.upper refl fits)

jal_again : (d : ℕ) (i : ℤ) → d < 32 → IsImmediate 21 1 i → decoded (j_format 0x6f d (bits_of 21 i)) ≡ Some (Jal d i)
jal_again d i hd fits =
    let n : ℕ = bits_of 21 i in
    let u : ℕ = n / 2 ^ 20 * 2 ^ 19 + n / 2 % 2 ^ 10 * 2 ^ 9 + n / 2 ^ 11 % 2 * 2 ^ 8 + n / 2 ^ 12 % 2 ^ 8 in
    let w : ℕ = u * 2 ^ 12 + d * 2 ^ 7 + 0x6f in
    let has : HasUpper w 0x6f d u = upper_fields 0x6f d u (omega arith) hd in
    let same : j_format 0x6f d n ≡ w = omega arith in
    ap decoded same ∙ of_jal w d u i has (imm_j_is w u has.upper
    ∙ (ap (signed 21) (j_bits-pieces n (bits_of_below 21 1 i refl fits) fits.2) ∙ signed-bits_of 21 1 i refl fits))

-- the word of an instruction is decoded to it
pub decoded-encoded : (insn : Insn) → FieldsFit insn → decoded (encoded insn) ≡ Some insn
decoded-encoded (Lui d i) fits = lui_again d i fits.0 fits.1
decoded-encoded (Auipc d i) fits = auipc_again d i fits.0 fits.1
decoded-encoded (Jal d i) fits = jal_again d i fits.0 fits.1
decoded-encoded (Jalr d a i) fits = jalr_again d a i fits.0 fits.1 fits.2
decoded-encoded (Beq a b i) fits = branch_again 0 a b i (omega arith) fits.0 fits.1 fits.2
decoded-encoded (Bne a b i) fits = branch_again 1 a b i (omega arith) fits.0 fits.1 fits.2
decoded-encoded (Blt a b i) fits = branch_again 4 a b i (omega arith) fits.0 fits.1 fits.2
decoded-encoded (Bge a b i) fits = branch_again 5 a b i (omega arith) fits.0 fits.1 fits.2
decoded-encoded (Bltu a b i) fits = branch_again 6 a b i (omega arith) fits.0 fits.1 fits.2
decoded-encoded (Bgeu a b i) fits = branch_again 7 a b i (omega arith) fits.0 fits.1 fits.2
decoded-encoded (Lb d a i) fits = load_again 0 d a i (omega arith) fits.0 fits.1 fits.2
decoded-encoded (Lh d a i) fits = load_again 1 d a i (omega arith) fits.0 fits.1 fits.2
decoded-encoded (Lw d a i) fits = load_again 2 d a i (omega arith) fits.0 fits.1 fits.2
decoded-encoded (Ld d a i) fits = load_again 3 d a i (omega arith) fits.0 fits.1 fits.2
decoded-encoded (Lbu d a i) fits = load_again 4 d a i (omega arith) fits.0 fits.1 fits.2
decoded-encoded (Lhu d a i) fits = load_again 5 d a i (omega arith) fits.0 fits.1 fits.2
decoded-encoded (Lwu d a i) fits = load_again 6 d a i (omega arith) fits.0 fits.1 fits.2
decoded-encoded (Sb a b i) fits = store_again 0 a b i (omega arith) fits.0 fits.1 fits.2
decoded-encoded (Sh a b i) fits = store_again 1 a b i (omega arith) fits.0 fits.1 fits.2
decoded-encoded (Sw a b i) fits = store_again 2 a b i (omega arith) fits.0 fits.1 fits.2
decoded-encoded (Sd a b i) fits = store_again 3 a b i (omega arith) fits.0 fits.1 fits.2
decoded-encoded (Addi d a i) fits = immediate_again 0 d a i (omega arith) refl fits.0 fits.1 fits.2
decoded-encoded (Slti d a i) fits = immediate_again 2 d a i (omega arith) refl fits.0 fits.1 fits.2
decoded-encoded (Sltiu d a i) fits = immediate_again 3 d a i (omega arith) refl fits.0 fits.1 fits.2
decoded-encoded (Xori d a i) fits = immediate_again 4 d a i (omega arith) refl fits.0 fits.1 fits.2
decoded-encoded (Ori d a i) fits = immediate_again 6 d a i (omega arith) refl fits.0 fits.1 fits.2
decoded-encoded (Andi d a i) fits = immediate_again 7 d a i (omega arith) refl fits.0 fits.1 fits.2
decoded-encoded (Slli d a i) fits = shift_again 0 1 d a (bits_of 6 i) i (omega arith) refl fits.0 fits.1 fits.2 (omega arith)
decoded-encoded (Srli d a i) fits = shift_again 0 5 d a (bits_of 6 i) i (omega arith) refl fits.0 fits.1 fits.2 (omega arith)
decoded-encoded (Srai d a i) fits = shift_again 16 5 d a (16 * 2 ^ 6 + bits_of 6 i) i (omega arith) refl fits.0 fits.1 fits.2 refl
decoded-encoded (Addiw d a i) fits = addiw_again d a i fits.0 fits.1 fits.2
decoded-encoded (Slliw d a i) fits = shift_32_again 0 1 d a i (omega arith) refl fits.0 fits.1 fits.2
decoded-encoded (Srliw d a i) fits = shift_32_again 0 5 d a i (omega arith) refl fits.0 fits.1 fits.2
decoded-encoded (Sraiw d a i) fits = shift_32_again 32 5 d a i (omega arith) refl fits.0 fits.1 fits.2
decoded-encoded (Add d a b) fits = operation_again 0 0 d a b (omega arith) fits.0 fits.1 fits.2
decoded-encoded (Sub d a b) fits = operation_again 32 0 d a b (omega arith) fits.0 fits.1 fits.2
decoded-encoded (Sll d a b) fits = operation_again 0 1 d a b (omega arith) fits.0 fits.1 fits.2
decoded-encoded (Slt d a b) fits = operation_again 0 2 d a b (omega arith) fits.0 fits.1 fits.2
decoded-encoded (Sltu d a b) fits = operation_again 0 3 d a b (omega arith) fits.0 fits.1 fits.2
decoded-encoded (Xor d a b) fits = operation_again 0 4 d a b (omega arith) fits.0 fits.1 fits.2
decoded-encoded (Srl d a b) fits = operation_again 0 5 d a b (omega arith) fits.0 fits.1 fits.2
decoded-encoded (Sra d a b) fits = operation_again 32 5 d a b (omega arith) fits.0 fits.1 fits.2
decoded-encoded (Or d a b) fits = operation_again 0 6 d a b (omega arith) fits.0 fits.1 fits.2
decoded-encoded (And d a b) fits = operation_again 0 7 d a b (omega arith) fits.0 fits.1 fits.2
decoded-encoded (Addw d a b) fits = operation_32_again 0 0 d a b (omega arith) fits.0 fits.1 fits.2
decoded-encoded (Subw d a b) fits = operation_32_again 32 0 d a b (omega arith) fits.0 fits.1 fits.2
decoded-encoded (Sllw d a b) fits = operation_32_again 0 1 d a b (omega arith) fits.0 fits.1 fits.2
decoded-encoded (Srlw d a b) fits = operation_32_again 0 5 d a b (omega arith) fits.0 fits.1 fits.2
decoded-encoded (Sraw d a b) fits = operation_32_again 32 5 d a b (omega arith) fits.0 fits.1 fits.2
decoded-encoded Fence fits = refl
decoded-encoded Ecall fits = refl
decoded-encoded Ebreak fits = refl
decoded-encoded Wfi fits = refl
decoded-encoded (Csrrw d a n) fits = csr_again 1 d a n (omega arith) refl fits.0 fits.1
decoded-encoded (Csrrs d a n) fits = csr_again 2 d a n (omega arith) refl fits.0 fits.1
decoded-encoded (Csrrc d a n) fits = csr_again 3 d a n (omega arith) refl fits.0 fits.1
decoded-encoded (Csrrwi d a n) fits = csr_again 5 d a n (omega arith) refl fits.0 fits.1
decoded-encoded (Csrrsi d a n) fits = csr_again 6 d a n (omega arith) refl fits.0 fits.1
decoded-encoded (Csrrci d a n) fits = csr_again 7 d a n (omega arith) refl fits.0 fits.1

-- what isn't looked at doesn't matter
pub decoded-significant : (w : ℕ) → decoded (significant w) ≡ decoded w
decoded-significant w =
    cond_both (opcode w == 0x0f && funct3 w == 0) 0x0f w (λ v. decoded v ≡ decoded w)
    (λ e. sym (at_fence w (eqb-true _ _ (and_parts _ _ e).0) (and_parts _ _ e).1))
    (λ _. refl)

-- the one instruction whose word it is
pub decoded_is : (w : ℕ) (insn : Insn) → FieldsFit insn → encoded insn ≡ significant w → decoded w ≡ Some insn
decoded_is w insn fits e = sym (decoded-significant w) ∙ (ap decoded (sym e) ∙ decoded-encoded insn fits)
