use Rattle.std.specs.Prelude.{◌≡◌, ℕ, ◌<◌, ◌||◌, IsTrue, ◌+◌, ◌-◌, ◌*◌, ◌/◌, ◌%◌, ◌^◌, ℤ, Bool, true, false, ◌==◌, not, nat_lt, int_lt, bit_and, bit_or, bit_xor, List, if◌then◌else◌}
use Rattle.std.specs.Int.{w64, cast_signed, cast_unsigned, int_shr}
use Rattle.cove_base.specs.Instructions.{signed}
use Rattle.cove_base.specs.Registers.{register, registers, written}
use Rattle.cove_base.specs.declared.instructions.CsrMode.TheVariants.{Write, Set, Clear}
use Rattle.cove_base.specs.declared.instructions.Insn.{Insn}
use Rattle.cove_base.specs.declared.instructions.Insn.TheVariants.{Lui, Auipc, Jal, Jalr, Beq, Bne, Blt, Bge, Bltu, Bgeu, Lb, Lh, Lw, Ld, Lbu, Lhu, Lwu, Sb, Sh, Sw, Sd, Addi, Slti, Sltiu, Xori, Ori, Andi, Slli, Srli, Srai, Addiw, Slliw, Srliw, Sraiw, Add, Sub, Sll, Slt, Sltu, Xor, Srl, Sra, Or, And, Addw, Subw, Sllw, Srlw, Sraw, Fence, Ecall, Ebreak, Wfi, Csrrw, Csrrs, Csrrc, Csrrwi, Csrrsi, Csrrci}
use Rattle.cove_base.specs.declared.registers.Regs.{Regs}
use Rattle.cove_base.specs.declared.plans.Plan.{Plan}
use Rattle.cove_base.specs.declared.plans.Plan.TheVariants as plans

-- sums, differences and shifts to the left wrap at 2 ^ 64
abbrev pub plus : (a b : ℕ) → ℕ
plus a b = (a + b) % 2 ^ 64

abbrev pub minus : (a b : ℕ) → ℕ
minus a b = (a + (2 ^ 64 - b)) % 2 ^ 64

abbrev pub shifted_left : (a k : ℕ) → ℕ
shifted_left a k = a * 2 ^ k % 2 ^ 64

-- a shift to the right that copies the sign
abbrev pub shifted_right_signed : (a k : ℕ) → ℕ
shifted_right_signed a k = cast_unsigned w64 (int_shr (cast_signed w64 a) k)

-- a signed number as a word
abbrev pub as_word : ℤ → ℕ
as_word z = cast_unsigned w64 z

-- the low bits of a word, with their sign copied into the others
abbrev pub sign_extended : (width a : ℕ) → ℕ
sign_extended width a = as_word (signed width (a % 2 ^ width))

-- comparisons of words as signed numbers
abbrev pub is_less_signed : (a b : ℕ) → Bool
is_less_signed a b = int_lt (cast_signed w64 a) (cast_signed w64 b)

-- 1 where a test holds
abbrev pub flag : Bool → ℕ
flag test = if test then 1 else 0

-- a value for a register, and then the next instruction
abbrev pub goes_on : (pc rd value : ℕ) → Plan
goes_on pc rd value = plans.Done rd value (plus pc 4)

-- a jump; it traps where its target is no place of an instruction
abbrev pub jumps : (pc rd target : ℕ) → Plan
jumps pc rd target = if target % 4 == 0 then plans.Done rd (plus pc 4) target else plans.Trap 0

-- a branch by a test
abbrev pub branches : (pc : ℕ) (test : Bool) → ℤ → Plan
branches pc test imm =
    if not test then goes_on pc 0 0
    else if plus pc (as_word imm) % 4 == 0 then plans.Done 0 0 (plus pc (as_word imm))
    else plans.Trap 0

-- a load and a store; they trap where the address is no multiple of the size
abbrev pub loads : (addr size : ℕ) (signed : Bool) (rd : ℕ) → Plan
loads addr size signed rd = if addr % size == 0 then plans.Load addr size signed rd else plans.Trap 4

abbrev pub stores : (addr size value : ℕ) → Plan
stores addr size value = if addr % size == 0 then plans.Store addr size value else plans.Trap 6

-- what an instruction does, by the registers from x0 on and its own place
abbrev pub plan : List ℕ → (pc : ℕ) → Insn → Plan
plan x pc (Lui rd imm) = goes_on pc rd (as_word imm)
plan x pc (Auipc rd imm) = goes_on pc rd (plus pc (as_word imm))
plan x pc (Jal rd imm) = jumps pc rd (plus pc (as_word imm))
plan x pc (Jalr rd rs1 imm) = jumps pc rd (plus (register x rs1) (as_word imm) / 2 * 2)
plan x pc (Beq rs1 rs2 imm) = branches pc (register x rs1 == register x rs2) imm
plan x pc (Bne rs1 rs2 imm) = branches pc (not (register x rs1 == register x rs2)) imm
plan x pc (Blt rs1 rs2 imm) = branches pc (is_less_signed (register x rs1) (register x rs2)) imm
plan x pc (Bge rs1 rs2 imm) = branches pc (not (is_less_signed (register x rs1) (register x rs2))) imm
plan x pc (Bltu rs1 rs2 imm) = branches pc (nat_lt (register x rs1) (register x rs2)) imm
plan x pc (Bgeu rs1 rs2 imm) = branches pc (not (nat_lt (register x rs1) (register x rs2))) imm
plan x pc (Lb rd rs1 imm) = loads (plus (register x rs1) (as_word imm)) 1 true rd
plan x pc (Lh rd rs1 imm) = loads (plus (register x rs1) (as_word imm)) 2 true rd
plan x pc (Lw rd rs1 imm) = loads (plus (register x rs1) (as_word imm)) 4 true rd
plan x pc (Ld rd rs1 imm) = loads (plus (register x rs1) (as_word imm)) 8 false rd
plan x pc (Lbu rd rs1 imm) = loads (plus (register x rs1) (as_word imm)) 1 false rd
plan x pc (Lhu rd rs1 imm) = loads (plus (register x rs1) (as_word imm)) 2 false rd
plan x pc (Lwu rd rs1 imm) = loads (plus (register x rs1) (as_word imm)) 4 false rd
plan x pc (Sb rs1 rs2 imm) = stores (plus (register x rs1) (as_word imm)) 1 (register x rs2)
plan x pc (Sh rs1 rs2 imm) = stores (plus (register x rs1) (as_word imm)) 2 (register x rs2)
plan x pc (Sw rs1 rs2 imm) = stores (plus (register x rs1) (as_word imm)) 4 (register x rs2)
plan x pc (Sd rs1 rs2 imm) = stores (plus (register x rs1) (as_word imm)) 8 (register x rs2)
plan x pc (Addi rd rs1 imm) = goes_on pc rd (plus (register x rs1) (as_word imm))
plan x pc (Slti rd rs1 imm) = goes_on pc rd (flag (is_less_signed (register x rs1) (as_word imm)))
plan x pc (Sltiu rd rs1 imm) = goes_on pc rd (flag (nat_lt (register x rs1) (as_word imm)))
plan x pc (Xori rd rs1 imm) = goes_on pc rd (bit_xor (register x rs1) (as_word imm))
plan x pc (Ori rd rs1 imm) = goes_on pc rd (bit_or (register x rs1) (as_word imm))
plan x pc (Andi rd rs1 imm) = goes_on pc rd (bit_and (register x rs1) (as_word imm))
plan x pc (Slli rd rs1 imm) = goes_on pc rd (shifted_left (register x rs1) (as_word imm))
plan x pc (Srli rd rs1 imm) = goes_on pc rd (register x rs1 / 2 ^ as_word imm)
plan x pc (Srai rd rs1 imm) = goes_on pc rd (shifted_right_signed (register x rs1) (as_word imm))
plan x pc (Addiw rd rs1 imm) = goes_on pc rd (sign_extended 32 (plus (register x rs1) (as_word imm)))
plan x pc (Slliw rd rs1 imm) = goes_on pc rd (sign_extended 32 (shifted_left (register x rs1) (as_word imm)))
plan x pc (Srliw rd rs1 imm) = goes_on pc rd (sign_extended 32 (register x rs1 % 2 ^ 32 / 2 ^ as_word imm))
plan x pc (Sraiw rd rs1 imm) = goes_on pc rd (shifted_right_signed (sign_extended 32 (register x rs1)) (as_word imm))
plan x pc (Add rd rs1 rs2) = goes_on pc rd (plus (register x rs1) (register x rs2))
plan x pc (Sub rd rs1 rs2) = goes_on pc rd (minus (register x rs1) (register x rs2))
plan x pc (Sll rd rs1 rs2) = goes_on pc rd (shifted_left (register x rs1) (register x rs2 % 2 ^ 6))
plan x pc (Slt rd rs1 rs2) = goes_on pc rd (flag (is_less_signed (register x rs1) (register x rs2)))
plan x pc (Sltu rd rs1 rs2) = goes_on pc rd (flag (nat_lt (register x rs1) (register x rs2)))
plan x pc (Xor rd rs1 rs2) = goes_on pc rd (bit_xor (register x rs1) (register x rs2))
plan x pc (Srl rd rs1 rs2) = goes_on pc rd (register x rs1 / 2 ^ (register x rs2 % 2 ^ 6))
plan x pc (Sra rd rs1 rs2) = goes_on pc rd (shifted_right_signed (register x rs1) (register x rs2 % 2 ^ 6))
plan x pc (Or rd rs1 rs2) = goes_on pc rd (bit_or (register x rs1) (register x rs2))
plan x pc (And rd rs1 rs2) = goes_on pc rd (bit_and (register x rs1) (register x rs2))
plan x pc (Addw rd rs1 rs2) = goes_on pc rd (sign_extended 32 (plus (register x rs1) (register x rs2)))
plan x pc (Subw rd rs1 rs2) = goes_on pc rd (sign_extended 32 (minus (register x rs1) (register x rs2)))
plan x pc (Sllw rd rs1 rs2) = goes_on pc rd (sign_extended 32 (shifted_left (register x rs1) (register x rs2 % 2 ^ 5)))
plan x pc (Srlw rd rs1 rs2) = goes_on pc rd (sign_extended 32 (register x rs1 % 2 ^ 32 / 2 ^ (register x rs2 % 2 ^ 5)))
plan x pc (Sraw rd rs1 rs2) = goes_on pc rd (shifted_right_signed (sign_extended 32 (register x rs1)) (register x rs2 % 2 ^ 5))
plan x pc Fence = goes_on pc 0 0
plan x pc Ecall = plans.Ecall
plan x pc Ebreak = plans.Trap 3
plan x pc Wfi = plans.Wfi
plan x pc (Csrrw rd rs1 csr) = plans.Csr csr Write (register x rs1) true rd
plan x pc (Csrrs rd rs1 csr) = plans.Csr csr Set (register x rs1) (not (rs1 == 0)) rd
plan x pc (Csrrc rd rs1 csr) = plans.Csr csr Clear (register x rs1) (not (rs1 == 0)) rd
plan x pc (Csrrwi rd rs1 csr) = plans.Csr csr Write rs1 true rd
plan x pc (Csrrsi rd rs1 csr) = plans.Csr csr Set rs1 (not (rs1 == 0)) rd
plan x pc (Csrrci rd rs1 csr) = plans.Csr csr Clear rs1 (not (rs1 == 0)) rd

-- the registers once an instruction is done: a value in one of them, and the place of the next instruction
abbrev pub IsFinished : (old new : Regs) (rd value pc : ℕ) → Type 0
IsFinished old new rd value pc = (new.pc ≡ pc) × (registers new ≡ written (registers old) rd value)

-- the part of an aligned word of memory at an address, in the low bits; memory is little-endian
abbrev pub picked : (word addr size : ℕ) (signed : Bool) → ℕ
picked word addr size signed =
    let above = word / 2 ^ (8 * (addr % 8)) in
    if signed then sign_extended (8 * size) above else above % 2 ^ (8 * size)

-- a word with another part at an address: the bits below it, the low bits of the value, the bits above it
abbrev pub merged : (word addr size value : ℕ) → ℕ
merged word addr size value =
    let low = 8 * (addr % 8) in
    let high = low + 8 * size in
    word % 2 ^ low + value % 2 ^ (8 * size) * 2 ^ low + word / 2 ^ high * 2 ^ high

-- a size of a load or a store
abbrev pub IsSize : ℕ → Type 0
IsSize size = IsTrue (size == 1 || size == 2 || size == 4 || size == 8)

-- a plan that can be carried out: a register that is there, an address that is a multiple of the size
abbrev pub IsUsablePlan : Plan → Type 0
IsUsablePlan (plans.Done rd value pc) = rd < 32
IsUsablePlan (plans.Load addr size signed rd) = (rd < 32) × IsSize size × (addr % size ≡ 0)
IsUsablePlan (plans.Store addr size value) = IsSize size × (addr % size ≡ 0)
IsUsablePlan (plans.Csr csr mode source writes rd) = (rd < 32) × (csr < 2 ^ 12)
IsUsablePlan plans.Ecall = Unit {0}
IsUsablePlan (plans.Trap cause) = Unit {0}
IsUsablePlan plans.Wfi = Unit {0}
