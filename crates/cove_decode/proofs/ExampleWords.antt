use Rattle.std.proofs.Common.{◌≡◌, ℕ, pos, negsuc, List, [], ◌∷◌, map, Option, Some, None, refl}
use Rattle.std.specs.Prelude.{replicate}
use Rattle.cove_base.specs.Instructions.{decoded}
use Rattle.cove_base.specs.declared.instructions.Insn.{Insn}
use Rattle.cove_base.specs.declared.instructions.Insn.TheVariants.{Lui, Auipc, Jal, Jalr, Beq, Bne, Blt, Bge, Bltu, Bgeu, Lb, Lh, Lw, Ld, Lbu, Lhu, Lwu, Sb, Sh, Sw, Sd, Addi, Slti, Sltiu, Xori, Ori, Andi, Slli, Srli, Srai, Addiw, Slliw, Srliw, Sraiw, Add, Sub, Sll, Slt, Sltu, Xor, Srl, Sra, Or, And, Addw, Subw, Sllw, Srlw, Sraw, Fence, Ecall, Ebreak, Wfi, Csrrw, Csrrs, Csrrc, Csrrwi, Csrrsi, Csrrci}

-- each word is the instruction beside it
abbrev AreDecoded : List (ℕ × Option Insn) → Type 0
AreDecoded rows = map (λ row. decoded row.0) rows ≡ map (λ row. row.1) rows

-- Words that LLVM's assembler gives for the instructions of the ISA manual's listings (RISC-V unprivileged ISA,
-- "RV32/64G Instruction Set Listings"): one an instruction or more, and each immediate at both ends.
jumps_and_uppers : AreDecoded (
    (0x000002b7, Some (Lui 5 (pos 0))) ∷  -- lui x5, 0
    (0x7ffff2b7, Some (Lui 5 (pos 2147479552))) ∷  -- lui x5, 524287
    (0x800002b7, Some (Lui 5 (negsuc 2147483647))) ∷  -- lui x5, 524288
    (0xfffff2b7, Some (Lui 5 (negsuc 4095))) ∷  -- lui x5, 1048575
    (0x00000297, Some (Auipc 5 (pos 0))) ∷  -- auipc x5, 0
    (0x7ffff297, Some (Auipc 5 (pos 2147479552))) ∷  -- auipc x5, 524287
    (0x80000297, Some (Auipc 5 (negsuc 2147483647))) ∷  -- auipc x5, 524288
    (0xfffff297, Some (Auipc 5 (negsuc 4095))) ∷  -- auipc x5, 1048575
    (0x800000ef, Some (Jal 1 (negsuc 1048575))) ∷  -- jal x1, -1048576
    (0x7ffff0ef, Some (Jal 1 (pos 1048574))) ∷  -- jal x1, 1048574
    (0xfffff0ef, Some (Jal 1 (negsuc 1))) ∷  -- jal x1, -2
    (0x001000ef, Some (Jal 1 (pos 2048))) ∷  -- jal x1, 2048
    (0x000000ef, Some (Jal 1 (pos 0))) ∷  -- jal x1, 0
    (0x800f80e7, Some (Jalr 1 31 (negsuc 2047))) ∷  -- jalr x1, -2048(x31)
    (0x7fff80e7, Some (Jalr 1 31 (pos 2047))) ∷  -- jalr x1, 2047(x31)
    [])
jumps_and_uppers = refl

branches : AreDecoded (
    (0x81e08063, Some (Beq 1 30 (negsuc 4095))) ∷  -- beq x1, x30, -4096
    (0x7fe08fe3, Some (Beq 1 30 (pos 4094))) ∷  -- beq x1, x30, 4094
    (0xffe08fe3, Some (Beq 1 30 (negsuc 1))) ∷  -- beq x1, x30, -2
    (0x01e080e3, Some (Beq 1 30 (pos 2048))) ∷  -- beq x1, x30, 2048
    (0x7fe09fe3, Some (Bne 1 30 (pos 4094))) ∷  -- bne x1, x30, 4094
    (0x81e0c063, Some (Blt 1 30 (negsuc 4095))) ∷  -- blt x1, x30, -4096
    (0x7fe0dfe3, Some (Bge 1 30 (pos 4094))) ∷  -- bge x1, x30, 4094
    (0x81e0e063, Some (Bltu 1 30 (negsuc 4095))) ∷  -- bltu x1, x30, -4096
    (0x7fe0ffe3, Some (Bgeu 1 30 (pos 4094))) ∷  -- bgeu x1, x30, 4094
    [])
branches = refl

loads_and_stores : AreDecoded (
    (0x80040383, Some (Lb 7 8 (negsuc 2047))) ∷  -- lb x7, -2048(x8)
    (0x7ff40383, Some (Lb 7 8 (pos 2047))) ∷  -- lb x7, 2047(x8)
    (0x7ff41383, Some (Lh 7 8 (pos 2047))) ∷  -- lh x7, 2047(x8)
    (0x80042383, Some (Lw 7 8 (negsuc 2047))) ∷  -- lw x7, -2048(x8)
    (0x7ff43383, Some (Ld 7 8 (pos 2047))) ∷  -- ld x7, 2047(x8)
    (0x80044383, Some (Lbu 7 8 (negsuc 2047))) ∷  -- lbu x7, -2048(x8)
    (0x7ff45383, Some (Lhu 7 8 (pos 2047))) ∷  -- lhu x7, 2047(x8)
    (0x80046383, Some (Lwu 7 8 (negsuc 2047))) ∷  -- lwu x7, -2048(x8)
    (0x80950023, Some (Sb 10 9 (negsuc 2047))) ∷  -- sb x9, -2048(x10)
    (0x7e950fa3, Some (Sb 10 9 (pos 2047))) ∷  -- sb x9, 2047(x10)
    (0x7e951fa3, Some (Sh 10 9 (pos 2047))) ∷  -- sh x9, 2047(x10)
    (0x80952023, Some (Sw 10 9 (negsuc 2047))) ∷  -- sw x9, -2048(x10)
    (0x7e953fa3, Some (Sd 10 9 (pos 2047))) ∷  -- sd x9, 2047(x10)
    [])
loads_and_stores = refl

immediates : AreDecoded (
    (0x80060593, Some (Addi 11 12 (negsuc 2047))) ∷  -- addi x11, x12, -2048
    (0x7ff60593, Some (Addi 11 12 (pos 2047))) ∷  -- addi x11, x12, 2047
    (0x7ff62593, Some (Slti 11 12 (pos 2047))) ∷  -- slti x11, x12, 2047
    (0x80063593, Some (Sltiu 11 12 (negsuc 2047))) ∷  -- sltiu x11, x12, -2048
    (0x7ff64593, Some (Xori 11 12 (pos 2047))) ∷  -- xori x11, x12, 2047
    (0x80066593, Some (Ori 11 12 (negsuc 2047))) ∷  -- ori x11, x12, -2048
    (0x7ff67593, Some (Andi 11 12 (pos 2047))) ∷  -- andi x11, x12, 2047
    (0x8006059b, Some (Addiw 11 12 (negsuc 2047))) ∷  -- addiw x11, x12, -2048
    (0x7ff6059b, Some (Addiw 11 12 (pos 2047))) ∷  -- addiw x11, x12, 2047
    (0x00071693, Some (Slli 13 14 (pos 0))) ∷  -- slli x13, x14, 0
    (0x03f71693, Some (Slli 13 14 (pos 63))) ∷  -- slli x13, x14, 63
    (0x00075693, Some (Srli 13 14 (pos 0))) ∷  -- srli x13, x14, 0
    (0x03f75693, Some (Srli 13 14 (pos 63))) ∷  -- srli x13, x14, 63
    (0x40075693, Some (Srai 13 14 (pos 0))) ∷  -- srai x13, x14, 0
    (0x43f75693, Some (Srai 13 14 (pos 63))) ∷  -- srai x13, x14, 63
    (0x0007169b, Some (Slliw 13 14 (pos 0))) ∷  -- slliw x13, x14, 0
    (0x01f7169b, Some (Slliw 13 14 (pos 31))) ∷  -- slliw x13, x14, 31
    (0x0007569b, Some (Srliw 13 14 (pos 0))) ∷  -- srliw x13, x14, 0
    (0x01f7569b, Some (Srliw 13 14 (pos 31))) ∷  -- srliw x13, x14, 31
    (0x4007569b, Some (Sraiw 13 14 (pos 0))) ∷  -- sraiw x13, x14, 0
    (0x41f7569b, Some (Sraiw 13 14 (pos 31))) ∷  -- sraiw x13, x14, 31
    (0x10500073, Some Wfi) ∷  -- wfi
    [])
immediates = refl

operations : AreDecoded (
    (0x011807b3, Some (Add 15 16 17)) ∷  -- add x15, x16, x17
    (0x411807b3, Some (Sub 15 16 17)) ∷  -- sub x15, x16, x17
    (0x011817b3, Some (Sll 15 16 17)) ∷  -- sll x15, x16, x17
    (0x011827b3, Some (Slt 15 16 17)) ∷  -- slt x15, x16, x17
    (0x011837b3, Some (Sltu 15 16 17)) ∷  -- sltu x15, x16, x17
    (0x011847b3, Some (Xor 15 16 17)) ∷  -- xor x15, x16, x17
    (0x011857b3, Some (Srl 15 16 17)) ∷  -- srl x15, x16, x17
    (0x411857b3, Some (Sra 15 16 17)) ∷  -- sra x15, x16, x17
    (0x011867b3, Some (Or 15 16 17)) ∷  -- or x15, x16, x17
    (0x011877b3, Some (And 15 16 17)) ∷  -- and x15, x16, x17
    (0x011807bb, Some (Addw 15 16 17)) ∷  -- addw x15, x16, x17
    (0x411807bb, Some (Subw 15 16 17)) ∷  -- subw x15, x16, x17
    (0x011817bb, Some (Sllw 15 16 17)) ∷  -- sllw x15, x16, x17
    (0x011857bb, Some (Srlw 15 16 17)) ∷  -- srlw x15, x16, x17
    (0x411857bb, Some (Sraw 15 16 17)) ∷  -- sraw x15, x16, x17
    [])
operations = refl

system_words : AreDecoded (
    (0x0ff0000f, Some Fence) ∷  -- fence
    (0x0210000f, Some Fence) ∷  -- fence r, w
    (0x00000073, Some Ecall) ∷  -- ecall
    (0x00100073, Some Ebreak) ∷  -- ebreak
    (0xfff99973, Some (Csrrw 18 19 4095)) ∷  -- csrrw x18, 4095, x19
    (0xfff9a973, Some (Csrrs 18 19 4095)) ∷  -- csrrs x18, 4095, x19
    (0xfff9b973, Some (Csrrc 18 19 4095)) ∷  -- csrrc x18, 4095, x19
    (0x000fd973, Some (Csrrwi 18 31 0)) ∷  -- csrrwi x18, 0, 31
    (0x000fe973, Some (Csrrsi 18 31 0)) ∷  -- csrrsi x18, 0, 31
    (0x000ff973, Some (Csrrci 18 31 0)) ∷  -- csrrci x18, 0, 31
    (0x15c02373, Some (Csrrs 6 0 348)) ∷  -- csrrs x6, 0x15c, x0
    [])
system_words = refl

-- Words of no instruction: zeros and ones; funct3 that is reserved for branches, loads, stores, jumps by a register and CSRs;
-- funct6 and funct7 that are reserved for shifts and operations, multiplication among them; FENCE.I; MRET, SRET;
-- ECALL with a register; a compressed pair; an AMO; a load of a float
no_instructions : map decoded (
    0x00000000 ∷  -- zeros
    0xffffffff ∷  -- ones
    0x003120e3 ∷  -- branch-2
    0x003130e3 ∷  -- branch-3
    0x00317083 ∷  -- load-7
    0x003140a3 ∷  -- store-4
    0x003110e7 ∷  -- jalr-1
    0x003140f3 ∷  -- csr-4
    0x04311093 ∷  -- slli-1
    0x40311093 ∷  -- slli-2
    0xc0315093 ∷  -- srai-1
    0x0231109b ∷  -- slliw-1
    0x4231509b ∷  -- sraiw-1
    0x0031209b ∷  -- addiw-2
    0x023100b3 ∷  -- mul
    0x403170b3 ∷  -- and-n
    0x023100bb ∷  -- mulw
    0x003120bb ∷  -- addw-2
    0x0000100f ∷  -- fence-i
    0x30200073 ∷  -- mret
    0x10200073 ∷  -- sret
    0x000000f3 ∷  -- ecall-rd
    0x00010001 ∷  -- compressed
    0x00b5262f ∷  -- amo
    0x0005a007 ∷  -- flw
    []) ≡ replicate 25 None
no_instructions = refl
