use Rattle.std.specs.Prelude.{ℕ, ◌+◌, ◌-◌, ◌*◌, ◌/◌, ◌%◌, ◌^◌, ℤ, pos, negsuc, Bool, ◌==◌, ◌&&◌, nat_lt, Option, Some, None, if◌then◌else◌}
use Rattle.cove_base.specs.declared.instructions.Insn.{Insn}
use Rattle.cove_base.specs.declared.instructions.Insn.TheVariants.{Lui, Auipc, Jal, Jalr, Beq, Bne, Blt, Bge, Bltu, Bgeu, Lb, Lh, Lw, Ld, Lbu, Lhu, Lwu, Sb, Sh, Sw, Sd, Addi, Slti, Sltiu, Xori, Ori, Andi, Slli, Srli, Srai, Addiw, Slliw, Srliw, Sraiw, Add, Sub, Sll, Slt, Sltu, Xor, Srl, Sra, Or, And, Addw, Subw, Sllw, Srlw, Sraw, Fence, Ecall, Ebreak, Wfi, Csrrw, Csrrs, Csrrc, Csrrwi, Csrrsi, Csrrci}

-- the bits of a word from `low` on, as many as `width`
abbrev pub field : (low width word : ℕ) → ℕ
field low width word = word / 2 ^ low % 2 ^ width

-- the fields of a word, by the names of the ISA manual
abbrev pub opcode : ℕ → ℕ
opcode word = word % 2 ^ 7

abbrev pub rd : ℕ → ℕ
rd word = field 7 5 word

abbrev pub funct3 : ℕ → ℕ
funct3 word = field 12 3 word

abbrev pub rs1 : ℕ → ℕ
rs1 word = field 15 5 word

abbrev pub rs2 : ℕ → ℕ
rs2 word = field 20 5 word

abbrev pub funct7 : ℕ → ℕ
funct7 word = word / 2 ^ 25

-- bits 31 to 20, the number of a CSR
abbrev pub csr : ℕ → ℕ
csr word = word / 2 ^ 20

-- bits 31 to 26, and the six bits of a shift by a number below them
abbrev pub funct6 : ℕ → ℕ
funct6 word = word / 2 ^ 26

abbrev pub shamt : ℕ → ℕ
shamt word = field 20 6 word

-- the funct3 of a shift by a number
abbrev pub is_shift : ℕ → Bool
is_shift funct3 = funct3 % 4 == 1

-- the signed number that so many bits write
abbrev pub signed : (width bits : ℕ) → ℤ
signed width bits = if nat_lt bits (2 ^ (width - 1)) then pos bits else negsuc (2 ^ width - (bits + 1))

-- the immediate of each format
abbrev pub imm_i : ℕ → ℤ
imm_i word = signed 12 (word / 2 ^ 20)

abbrev pub imm_s : ℕ → ℤ
imm_s word = signed 12 (funct7 word * 2 ^ 5 + field 7 5 word)

abbrev pub imm_b : ℕ → ℤ
imm_b word = signed 13 (word / 2 ^ 31 * 2 ^ 12 + field 7 1 word * 2 ^ 11 + field 25 6 word * 2 ^ 5 + field 8 4 word * 2)

abbrev pub imm_u : ℕ → ℤ
imm_u word = signed 32 (word / 2 ^ 12 * 2 ^ 12)

abbrev pub imm_j : ℕ → ℤ
imm_j word = signed 21 (word / 2 ^ 31 * 2 ^ 20 + field 12 8 word * 2 ^ 12 + field 20 1 word * 2 ^ 11 + field 21 10 word * 2)

-- the branches, by funct3
abbrev pub branch_of : (funct3 rs1 rs2 : ℕ) → ℤ → Option Insn
branch_of funct3 rs1 rs2 imm =
    if funct3 == 0 then Some (Beq rs1 rs2 imm)
    else if funct3 == 1 then Some (Bne rs1 rs2 imm)
    else if funct3 == 4 then Some (Blt rs1 rs2 imm)
    else if funct3 == 5 then Some (Bge rs1 rs2 imm)
    else if funct3 == 6 then Some (Bltu rs1 rs2 imm)
    else if funct3 == 7 then Some (Bgeu rs1 rs2 imm)
    else None

-- the loads
abbrev pub load_insn : (funct3 rd rs1 : ℕ) → ℤ → Option Insn
load_insn funct3 rd rs1 imm =
    if funct3 == 0 then Some (Lb rd rs1 imm)
    else if funct3 == 1 then Some (Lh rd rs1 imm)
    else if funct3 == 2 then Some (Lw rd rs1 imm)
    else if funct3 == 3 then Some (Ld rd rs1 imm)
    else if funct3 == 4 then Some (Lbu rd rs1 imm)
    else if funct3 == 5 then Some (Lhu rd rs1 imm)
    else if funct3 == 6 then Some (Lwu rd rs1 imm)
    else None

-- the stores
abbrev pub store_insn : (funct3 rs1 rs2 : ℕ) → ℤ → Option Insn
store_insn funct3 rs1 rs2 imm =
    if funct3 == 0 then Some (Sb rs1 rs2 imm)
    else if funct3 == 1 then Some (Sh rs1 rs2 imm)
    else if funct3 == 2 then Some (Sw rs1 rs2 imm)
    else if funct3 == 3 then Some (Sd rs1 rs2 imm)
    else None

-- the operations with an immediate, shifts aside
abbrev pub immediate_of : (funct3 rd rs1 : ℕ) → ℤ → Option Insn
immediate_of funct3 rd rs1 imm =
    if funct3 == 0 then Some (Addi rd rs1 imm)
    else if funct3 == 2 then Some (Slti rd rs1 imm)
    else if funct3 == 3 then Some (Sltiu rd rs1 imm)
    else if funct3 == 4 then Some (Xori rd rs1 imm)
    else if funct3 == 6 then Some (Ori rd rs1 imm)
    else if funct3 == 7 then Some (Andi rd rs1 imm)
    else None

-- the shifts by a number
abbrev pub shift_of : (funct6 funct3 rd rs1 : ℕ) → ℤ → Option Insn
shift_of funct6 funct3 rd rs1 imm =
    if funct6 == 0 && funct3 == 1 then Some (Slli rd rs1 imm)
    else if funct6 == 0 && funct3 == 5 then Some (Srli rd rs1 imm)
    else if funct6 == 0x10 && funct3 == 5 then Some (Srai rd rs1 imm)
    else None

-- the shifts of 32 bits by a number
abbrev pub shift_of_32 : (funct7 funct3 rd rs1 : ℕ) → ℤ → Option Insn
shift_of_32 funct7 funct3 rd rs1 imm =
    if funct7 == 0 && funct3 == 1 then Some (Slliw rd rs1 imm)
    else if funct7 == 0 && funct3 == 5 then Some (Srliw rd rs1 imm)
    else if funct7 == 0x20 && funct3 == 5 then Some (Sraiw rd rs1 imm)
    else None

-- the operations on two registers
abbrev pub operation_of : (funct7 funct3 rd rs1 rs2 : ℕ) → Option Insn
operation_of funct7 funct3 rd rs1 rs2 =
    if funct7 == 0 && funct3 == 0 then Some (Add rd rs1 rs2)
    else if funct7 == 0 && funct3 == 1 then Some (Sll rd rs1 rs2)
    else if funct7 == 0 && funct3 == 2 then Some (Slt rd rs1 rs2)
    else if funct7 == 0 && funct3 == 3 then Some (Sltu rd rs1 rs2)
    else if funct7 == 0 && funct3 == 4 then Some (Xor rd rs1 rs2)
    else if funct7 == 0 && funct3 == 5 then Some (Srl rd rs1 rs2)
    else if funct7 == 0 && funct3 == 6 then Some (Or rd rs1 rs2)
    else if funct7 == 0 && funct3 == 7 then Some (And rd rs1 rs2)
    else if funct7 == 0x20 && funct3 == 0 then Some (Sub rd rs1 rs2)
    else if funct7 == 0x20 && funct3 == 5 then Some (Sra rd rs1 rs2)
    else None

-- the operations on 32 bits of two registers
abbrev pub operation_of_32 : (funct7 funct3 rd rs1 rs2 : ℕ) → Option Insn
operation_of_32 funct7 funct3 rd rs1 rs2 =
    if funct7 == 0 && funct3 == 0 then Some (Addw rd rs1 rs2)
    else if funct7 == 0 && funct3 == 1 then Some (Sllw rd rs1 rs2)
    else if funct7 == 0 && funct3 == 5 then Some (Srlw rd rs1 rs2)
    else if funct7 == 0x20 && funct3 == 0 then Some (Subw rd rs1 rs2)
    else if funct7 == 0x20 && funct3 == 5 then Some (Sraw rd rs1 rs2)
    else None

-- the accesses to a CSR
abbrev pub csr_of : (funct3 rd rs1 csr : ℕ) → Option Insn
csr_of funct3 rd rs1 csr =
    if funct3 == 1 then Some (Csrrw rd rs1 csr)
    else if funct3 == 2 then Some (Csrrs rd rs1 csr)
    else if funct3 == 3 then Some (Csrrc rd rs1 csr)
    else if funct3 == 5 then Some (Csrrwi rd rs1 csr)
    else if funct3 == 6 then Some (Csrrsi rd rs1 csr)
    else if funct3 == 7 then Some (Csrrci rd rs1 csr)
    else None

-- the instructions that have no field
abbrev pub whole_word_of : (word : ℕ) → Option Insn
whole_word_of word =
    if word == 0x00000073 then Some Ecall
    else if word == 0x00100073 then Some Ebreak
    else if word == 0x10500073 then Some Wfi
    else None

-- which instruction a word is; None where it is none of RV64I and Zicsr, nor WFI
abbrev pub decoded : (word : ℕ) → Option Insn
decoded word =
    if opcode word == 0x37 then Some (Lui (rd word) (imm_u word))
    else if opcode word == 0x17 then Some (Auipc (rd word) (imm_u word))
    else if opcode word == 0x6f then Some (Jal (rd word) (imm_j word))
    else if opcode word == 0x67 && funct3 word == 0 then Some (Jalr (rd word) (rs1 word) (imm_i word))
    else if opcode word == 0x63 then branch_of (funct3 word) (rs1 word) (rs2 word) (imm_b word)
    else if opcode word == 0x03 then load_insn (funct3 word) (rd word) (rs1 word) (imm_i word)
    else if opcode word == 0x23 then store_insn (funct3 word) (rs1 word) (rs2 word) (imm_s word)
    else if opcode word == 0x13 && is_shift (funct3 word) then
    shift_of (funct6 word) (funct3 word) (rd word) (rs1 word) (pos (shamt word))
    else if opcode word == 0x13 then immediate_of (funct3 word) (rd word) (rs1 word) (imm_i word)
    else if opcode word == 0x1b && funct3 word == 0 then Some (Addiw (rd word) (rs1 word) (imm_i word))
    else if opcode word == 0x1b then shift_of_32 (funct7 word) (funct3 word) (rd word) (rs1 word) (pos (rs2 word))
    else if opcode word == 0x33 then operation_of (funct7 word) (funct3 word) (rd word) (rs1 word) (rs2 word)
    else if opcode word == 0x3b then operation_of_32 (funct7 word) (funct3 word) (rd word) (rs1 word) (rs2 word)
    else if opcode word == 0x0f && funct3 word == 0 then Some Fence
    else if opcode word == 0x73 && funct3 word == 0 then whole_word_of word
    else if opcode word == 0x73 then csr_of (funct3 word) (rd word) (rs1 word) (csr word)
    else None
