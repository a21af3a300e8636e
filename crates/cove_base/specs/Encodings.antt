use Rattle.std.specs.Prelude.{◌≡◌, ℕ, suc, ◌+◌, ◌-◌, ◌*◌, ◌/◌, ◌%◌, ◌^◌, ◌<◌, ℤ, pos, negsuc, neg_ℤ, ◌≤ℤ◌, ◌<ℤ◌, ◌==◌, ◌&&◌, if◌then◌else◌}
use Rattle.cove_base.specs.Instructions.{opcode, funct3}
use Rattle.cove_base.specs.declared.instructions.Insn.{Insn}
use Rattle.cove_base.specs.declared.instructions.Insn.TheVariants.{Lui, Auipc, Jal, Jalr, Beq, Bne, Blt, Bge, Bltu, Bgeu, Lb, Lh, Lw, Ld, Lbu, Lhu, Lwu, Sb, Sh, Sw, Sd, Addi, Slti, Sltiu, Xori, Ori, Andi, Slli, Srli, Srai, Addiw, Slliw, Srliw, Sraiw, Add, Sub, Sll, Slt, Sltu, Xor, Srl, Sra, Or, And, Addw, Subw, Sllw, Srlw, Sraw, Fence, Ecall, Ebreak, Wfi, Csrrw, Csrrs, Csrrc, Csrrwi, Csrrsi, Csrrci}

-- so many bits of a signed number, negative ones by two's complement
abbrev pub bits_of : (width : ℕ) → ℤ → ℕ
bits_of width (pos n) = n
bits_of width (negsuc n) = 2 ^ width - suc n

-- the word of each format, from its fields; `bits` are those of the immediate
abbrev pub r_format : (opcode funct3 funct7 rd rs1 rs2 : ℕ) → ℕ
r_format opcode funct3 funct7 rd rs1 rs2 =
    funct7 * 2 ^ 25 + rs2 * 2 ^ 20 + rs1 * 2 ^ 15 + funct3 * 2 ^ 12 + rd * 2 ^ 7 + opcode

abbrev pub i_format : (opcode funct3 rd rs1 bits : ℕ) → ℕ
i_format opcode funct3 rd rs1 bits = bits * 2 ^ 20 + rs1 * 2 ^ 15 + funct3 * 2 ^ 12 + rd * 2 ^ 7 + opcode

abbrev pub s_format : (opcode funct3 rs1 rs2 bits : ℕ) → ℕ
s_format opcode funct3 rs1 rs2 bits = r_format opcode funct3 (bits / 2 ^ 5) (bits % 2 ^ 5) rs1 rs2

abbrev pub b_format : (opcode funct3 rs1 rs2 bits : ℕ) → ℕ
b_format opcode funct3 rs1 rs2 bits =
    r_format opcode funct3 (bits / 2 ^ 12 * 2 ^ 6 + bits / 2 ^ 5 % 2 ^ 6) (bits / 2 % 2 ^ 4 * 2 + bits / 2 ^ 11 % 2) rs1 rs2

abbrev pub u_format : (opcode rd bits : ℕ) → ℕ
u_format opcode rd bits = bits / 2 ^ 12 * 2 ^ 12 + rd * 2 ^ 7 + opcode

abbrev pub j_format : (opcode rd bits : ℕ) → ℕ
j_format opcode rd bits =
    bits / 2 ^ 20 * 2 ^ 31 + bits / 2 % 2 ^ 10 * 2 ^ 21 + bits / 2 ^ 11 % 2 * 2 ^ 20 + bits / 2 ^ 12 % 2 ^ 8 * 2 ^ 12
    + rd * 2 ^ 7 + opcode

-- the word of an instruction; a FENCE is written with zeros in the fields that aren't looked at
abbrev pub encoded : Insn → ℕ
encoded (Lui rd imm) = u_format 0x37 rd (bits_of 32 imm)
encoded (Auipc rd imm) = u_format 0x17 rd (bits_of 32 imm)
encoded (Jal rd imm) = j_format 0x6f rd (bits_of 21 imm)
encoded (Jalr rd rs1 imm) = i_format 0x67 0 rd rs1 (bits_of 12 imm)
encoded (Beq rs1 rs2 imm) = b_format 0x63 0 rs1 rs2 (bits_of 13 imm)
encoded (Bne rs1 rs2 imm) = b_format 0x63 1 rs1 rs2 (bits_of 13 imm)
encoded (Blt rs1 rs2 imm) = b_format 0x63 4 rs1 rs2 (bits_of 13 imm)
encoded (Bge rs1 rs2 imm) = b_format 0x63 5 rs1 rs2 (bits_of 13 imm)
encoded (Bltu rs1 rs2 imm) = b_format 0x63 6 rs1 rs2 (bits_of 13 imm)
encoded (Bgeu rs1 rs2 imm) = b_format 0x63 7 rs1 rs2 (bits_of 13 imm)
encoded (Lb rd rs1 imm) = i_format 0x03 0 rd rs1 (bits_of 12 imm)
encoded (Lh rd rs1 imm) = i_format 0x03 1 rd rs1 (bits_of 12 imm)
encoded (Lw rd rs1 imm) = i_format 0x03 2 rd rs1 (bits_of 12 imm)
encoded (Ld rd rs1 imm) = i_format 0x03 3 rd rs1 (bits_of 12 imm)
encoded (Lbu rd rs1 imm) = i_format 0x03 4 rd rs1 (bits_of 12 imm)
encoded (Lhu rd rs1 imm) = i_format 0x03 5 rd rs1 (bits_of 12 imm)
encoded (Lwu rd rs1 imm) = i_format 0x03 6 rd rs1 (bits_of 12 imm)
encoded (Sb rs1 rs2 imm) = s_format 0x23 0 rs1 rs2 (bits_of 12 imm)
encoded (Sh rs1 rs2 imm) = s_format 0x23 1 rs1 rs2 (bits_of 12 imm)
encoded (Sw rs1 rs2 imm) = s_format 0x23 2 rs1 rs2 (bits_of 12 imm)
encoded (Sd rs1 rs2 imm) = s_format 0x23 3 rs1 rs2 (bits_of 12 imm)
encoded (Addi rd rs1 imm) = i_format 0x13 0 rd rs1 (bits_of 12 imm)
encoded (Slti rd rs1 imm) = i_format 0x13 2 rd rs1 (bits_of 12 imm)
encoded (Sltiu rd rs1 imm) = i_format 0x13 3 rd rs1 (bits_of 12 imm)
encoded (Xori rd rs1 imm) = i_format 0x13 4 rd rs1 (bits_of 12 imm)
encoded (Ori rd rs1 imm) = i_format 0x13 6 rd rs1 (bits_of 12 imm)
encoded (Andi rd rs1 imm) = i_format 0x13 7 rd rs1 (bits_of 12 imm)
encoded (Slli rd rs1 imm) = i_format 0x13 1 rd rs1 (bits_of 6 imm)
encoded (Srli rd rs1 imm) = i_format 0x13 5 rd rs1 (bits_of 6 imm)
encoded (Srai rd rs1 imm) = i_format 0x13 5 rd rs1 (0x10 * 2 ^ 6 + bits_of 6 imm)
encoded (Addiw rd rs1 imm) = i_format 0x1b 0 rd rs1 (bits_of 12 imm)
encoded (Slliw rd rs1 imm) = r_format 0x1b 1 0 rd rs1 (bits_of 5 imm)
encoded (Srliw rd rs1 imm) = r_format 0x1b 5 0 rd rs1 (bits_of 5 imm)
encoded (Sraiw rd rs1 imm) = r_format 0x1b 5 0x20 rd rs1 (bits_of 5 imm)
encoded (Add rd rs1 rs2) = r_format 0x33 0 0 rd rs1 rs2
encoded (Sub rd rs1 rs2) = r_format 0x33 0 0x20 rd rs1 rs2
encoded (Sll rd rs1 rs2) = r_format 0x33 1 0 rd rs1 rs2
encoded (Slt rd rs1 rs2) = r_format 0x33 2 0 rd rs1 rs2
encoded (Sltu rd rs1 rs2) = r_format 0x33 3 0 rd rs1 rs2
encoded (Xor rd rs1 rs2) = r_format 0x33 4 0 rd rs1 rs2
encoded (Srl rd rs1 rs2) = r_format 0x33 5 0 rd rs1 rs2
encoded (Sra rd rs1 rs2) = r_format 0x33 5 0x20 rd rs1 rs2
encoded (Or rd rs1 rs2) = r_format 0x33 6 0 rd rs1 rs2
encoded (And rd rs1 rs2) = r_format 0x33 7 0 rd rs1 rs2
encoded (Addw rd rs1 rs2) = r_format 0x3b 0 0 rd rs1 rs2
encoded (Subw rd rs1 rs2) = r_format 0x3b 0 0x20 rd rs1 rs2
encoded (Sllw rd rs1 rs2) = r_format 0x3b 1 0 rd rs1 rs2
encoded (Srlw rd rs1 rs2) = r_format 0x3b 5 0 rd rs1 rs2
encoded (Sraw rd rs1 rs2) = r_format 0x3b 5 0x20 rd rs1 rs2
encoded Fence = 0x0000000f
encoded Ecall = 0x00000073
encoded Ebreak = 0x00100073
encoded Wfi = 0x10500073
encoded (Csrrw rd rs1 csr) = i_format 0x73 1 rd rs1 csr
encoded (Csrrs rd rs1 csr) = i_format 0x73 2 rd rs1 csr
encoded (Csrrc rd rs1 csr) = i_format 0x73 3 rd rs1 csr
encoded (Csrrwi rd rs1 csr) = i_format 0x73 5 rd rs1 csr
encoded (Csrrsi rd rs1 csr) = i_format 0x73 6 rd rs1 csr
encoded (Csrrci rd rs1 csr) = i_format 0x73 7 rd rs1 csr

-- a word with zeros in the fields that aren't looked at, which only a FENCE has
abbrev pub significant : ℕ → ℕ
significant word = if opcode word == 0x0f && funct3 word == 0 then 0x0000000f else word

-- a signed number of so many bits, of which the lowest are zeros
abbrev pub IsImmediate : (width zeros : ℕ) → ℤ → Type 0
IsImmediate width zeros imm =
    (neg_ℤ (pos (2 ^ (width - 1))) ≤ℤ imm) × (imm <ℤ pos (2 ^ (width - 1))) × (bits_of width imm % 2 ^ zeros ≡ 0)

-- a number of so many bits by which to shift
abbrev pub IsShift : (width : ℕ) → ℤ → Type 0
IsShift width imm = (pos 0 ≤ℤ imm) × (imm <ℤ pos (2 ^ width))

-- each number of the instruction fits its field
abbrev pub FieldsFit : Insn → Type 0
FieldsFit (Lui rd imm) = (rd < 32) × IsImmediate 32 12 imm
FieldsFit (Auipc rd imm) = (rd < 32) × IsImmediate 32 12 imm
FieldsFit (Jal rd imm) = (rd < 32) × IsImmediate 21 1 imm
FieldsFit (Jalr rd rs1 imm) = (rd < 32) × (rs1 < 32) × IsImmediate 12 0 imm
FieldsFit (Beq rs1 rs2 imm) = (rs1 < 32) × (rs2 < 32) × IsImmediate 13 1 imm
FieldsFit (Bne rs1 rs2 imm) = (rs1 < 32) × (rs2 < 32) × IsImmediate 13 1 imm
FieldsFit (Blt rs1 rs2 imm) = (rs1 < 32) × (rs2 < 32) × IsImmediate 13 1 imm
FieldsFit (Bge rs1 rs2 imm) = (rs1 < 32) × (rs2 < 32) × IsImmediate 13 1 imm
FieldsFit (Bltu rs1 rs2 imm) = (rs1 < 32) × (rs2 < 32) × IsImmediate 13 1 imm
FieldsFit (Bgeu rs1 rs2 imm) = (rs1 < 32) × (rs2 < 32) × IsImmediate 13 1 imm
FieldsFit (Lb rd rs1 imm) = (rd < 32) × (rs1 < 32) × IsImmediate 12 0 imm
FieldsFit (Lh rd rs1 imm) = (rd < 32) × (rs1 < 32) × IsImmediate 12 0 imm
FieldsFit (Lw rd rs1 imm) = (rd < 32) × (rs1 < 32) × IsImmediate 12 0 imm
FieldsFit (Ld rd rs1 imm) = (rd < 32) × (rs1 < 32) × IsImmediate 12 0 imm
FieldsFit (Lbu rd rs1 imm) = (rd < 32) × (rs1 < 32) × IsImmediate 12 0 imm
FieldsFit (Lhu rd rs1 imm) = (rd < 32) × (rs1 < 32) × IsImmediate 12 0 imm
FieldsFit (Lwu rd rs1 imm) = (rd < 32) × (rs1 < 32) × IsImmediate 12 0 imm
FieldsFit (Sb rs1 rs2 imm) = (rs1 < 32) × (rs2 < 32) × IsImmediate 12 0 imm
FieldsFit (Sh rs1 rs2 imm) = (rs1 < 32) × (rs2 < 32) × IsImmediate 12 0 imm
FieldsFit (Sw rs1 rs2 imm) = (rs1 < 32) × (rs2 < 32) × IsImmediate 12 0 imm
FieldsFit (Sd rs1 rs2 imm) = (rs1 < 32) × (rs2 < 32) × IsImmediate 12 0 imm
FieldsFit (Addi rd rs1 imm) = (rd < 32) × (rs1 < 32) × IsImmediate 12 0 imm
FieldsFit (Slti rd rs1 imm) = (rd < 32) × (rs1 < 32) × IsImmediate 12 0 imm
FieldsFit (Sltiu rd rs1 imm) = (rd < 32) × (rs1 < 32) × IsImmediate 12 0 imm
FieldsFit (Xori rd rs1 imm) = (rd < 32) × (rs1 < 32) × IsImmediate 12 0 imm
FieldsFit (Ori rd rs1 imm) = (rd < 32) × (rs1 < 32) × IsImmediate 12 0 imm
FieldsFit (Andi rd rs1 imm) = (rd < 32) × (rs1 < 32) × IsImmediate 12 0 imm
FieldsFit (Slli rd rs1 imm) = (rd < 32) × (rs1 < 32) × IsShift 6 imm
FieldsFit (Srli rd rs1 imm) = (rd < 32) × (rs1 < 32) × IsShift 6 imm
FieldsFit (Srai rd rs1 imm) = (rd < 32) × (rs1 < 32) × IsShift 6 imm
FieldsFit (Addiw rd rs1 imm) = (rd < 32) × (rs1 < 32) × IsImmediate 12 0 imm
FieldsFit (Slliw rd rs1 imm) = (rd < 32) × (rs1 < 32) × IsShift 5 imm
FieldsFit (Srliw rd rs1 imm) = (rd < 32) × (rs1 < 32) × IsShift 5 imm
FieldsFit (Sraiw rd rs1 imm) = (rd < 32) × (rs1 < 32) × IsShift 5 imm
FieldsFit (Add rd rs1 rs2) = (rd < 32) × (rs1 < 32) × (rs2 < 32)
FieldsFit (Sub rd rs1 rs2) = (rd < 32) × (rs1 < 32) × (rs2 < 32)
FieldsFit (Sll rd rs1 rs2) = (rd < 32) × (rs1 < 32) × (rs2 < 32)
FieldsFit (Slt rd rs1 rs2) = (rd < 32) × (rs1 < 32) × (rs2 < 32)
FieldsFit (Sltu rd rs1 rs2) = (rd < 32) × (rs1 < 32) × (rs2 < 32)
FieldsFit (Xor rd rs1 rs2) = (rd < 32) × (rs1 < 32) × (rs2 < 32)
FieldsFit (Srl rd rs1 rs2) = (rd < 32) × (rs1 < 32) × (rs2 < 32)
FieldsFit (Sra rd rs1 rs2) = (rd < 32) × (rs1 < 32) × (rs2 < 32)
FieldsFit (Or rd rs1 rs2) = (rd < 32) × (rs1 < 32) × (rs2 < 32)
FieldsFit (And rd rs1 rs2) = (rd < 32) × (rs1 < 32) × (rs2 < 32)
FieldsFit (Addw rd rs1 rs2) = (rd < 32) × (rs1 < 32) × (rs2 < 32)
FieldsFit (Subw rd rs1 rs2) = (rd < 32) × (rs1 < 32) × (rs2 < 32)
FieldsFit (Sllw rd rs1 rs2) = (rd < 32) × (rs1 < 32) × (rs2 < 32)
FieldsFit (Srlw rd rs1 rs2) = (rd < 32) × (rs1 < 32) × (rs2 < 32)
FieldsFit (Sraw rd rs1 rs2) = (rd < 32) × (rs1 < 32) × (rs2 < 32)
FieldsFit Fence = Unit {0}
FieldsFit Ecall = Unit {0}
FieldsFit Ebreak = Unit {0}
FieldsFit Wfi = Unit {0}
FieldsFit (Csrrw rd rs1 csr) = (rd < 32) × (rs1 < 32) × (csr < 2 ^ 12)
FieldsFit (Csrrs rd rs1 csr) = (rd < 32) × (rs1 < 32) × (csr < 2 ^ 12)
FieldsFit (Csrrc rd rs1 csr) = (rd < 32) × (rs1 < 32) × (csr < 2 ^ 12)
FieldsFit (Csrrwi rd rs1 csr) = (rd < 32) × (rs1 < 32) × (csr < 2 ^ 12)
FieldsFit (Csrrsi rd rs1 csr) = (rd < 32) × (rs1 < 32) × (csr < 2 ^ 12)
FieldsFit (Csrrci rd rs1 csr) = (rd < 32) × (rs1 < 32) × (csr < 2 ^ 12)
