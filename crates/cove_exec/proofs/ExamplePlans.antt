use Rattle.std.proofs.Common.{◌≡◌, ℕ, pos, negsuc, Bool, true, false, List, [], ◌∷◌, map, replicate, refl}
use Rattle.cove_base.specs.Executions.{plan, goes_on, picked, merged}
use Rattle.cove_base.specs.declared.instructions.CsrMode.TheVariants.{Write, Set, Clear}
use Rattle.cove_base.specs.declared.instructions.Insn.TheVariants.{Add, Addiw, Addw, Andi, Auipc, Blt, Bltu, Bne, Csrrci, Csrrs, Csrrwi, Jal, Jalr, Lb, Ld, Lui, Lw, Ori, Sd, Sh, Sll, Slliw, Sllw, Slt, Slti, Sltiu, Sltu, Sra, Sraiw, Sraw, Srl, Srliw, Srlw, Sub, Subw, Xori}
use Rattle.cove_base.specs.declared.instructions.Insn.{Insn}
use Rattle.cove_base.specs.declared.plans.Plan.{Plan}
use Rattle.cove_base.specs.declared.plans.Plan.TheVariants as plans

-- Values as in the tests of RISC-V International (riscv-tests, rv64ui) and by the text of the unprivileged ISA manual.
-- x5 holds a, x6 holds b, the others 0
abbrev holding : (a b : ℕ) → List ℕ
holding a b = 0 ∷ 0 ∷ 0 ∷ 0 ∷ 0 ∷ a ∷ b ∷ replicate 25 0

-- from a and b, at 0x10000, each instruction has the plan beside it
abbrev ArePlanned : List (ℕ × ℕ × Insn × Plan) → Type 0
ArePlanned rows = map (λ row. plan (holding row.0 row.1) 0x10000 row.2) rows ≡ map (λ row. row.3) rows

operations : ArePlanned (
    (0x7fffffff, 0x7fff, Addw 7 5 6, goes_on 0x10000 7 0xffffffff80007ffe) ∷
    (0xffffffff80000000, 0xffffffffffff8000, Addw 7 5 6, goes_on 0x10000 7 0x7fff8000) ∷
    (0x0, 0xffffffffffff8000, Sub 7 5 6, goes_on 0x10000 7 0x8000) ∷
    (0xffffffff80000000, 0x0, Subw 7 5 6, goes_on 0x10000 7 0xffffffff80000000) ∷
    (0xffffffff80000000, 0x7fff, Slt 7 5 6, goes_on 0x10000 7 0x1) ∷
    (0xffffffff80000000, 0x7fff, Sltu 7 5 6, goes_on 0x10000 7 0x0) ∷
    (0x1, 0x3f, Sll 7 5 6, goes_on 0x10000 7 0x8000000000000000) ∷
    (0x1, 0xffffffffffffffc7, Sll 7 5 6, goes_on 0x10000 7 0x80) ∷
    (0x21212121, 0x7, Sllw 7 5 6, goes_on 0x10000 7 0xffffffff90909080) ∷
    (0x21212121, 0xffffffffffffffe7, Sllw 7 5 6, goes_on 0x10000 7 0xffffffff90909080) ∷
    (0xffffffff80000000, 0x7, Srl 7 5 6, goes_on 0x10000 7 0x1ffffffff000000) ∷
    (0xffffffff80000000, 0x7, Srlw 7 5 6, goes_on 0x10000 7 0x1000000) ∷
    (0xffffffff80000000, 0x7, Sra 7 5 6, goes_on 0x10000 7 0xffffffffff000000) ∷
    (0xffffffff80000000, 0x1, Sraw 7 5 6, goes_on 0x10000 7 0xffffffffc0000000) ∷
    (0xffffffff12345678, 0x4, Sraw 7 5 6, goes_on 0x10000 7 0x1234567) ∷
    (0x92345678, 0x4, Sraw 7 5 6, goes_on 0x10000 7 0xfffffffff9234567) ∷
    (0x80000000, 0x0, Sraiw 7 5 (pos 31), goes_on 0x10000 7 0xffffffffffffffff) ∷
    (0xffffffff80000000, 0x0, Srliw 7 5 (pos 31), goes_on 0x10000 7 0x1) ∷
    (0x1, 0x0, Slliw 7 5 (pos 31), goes_on 0x10000 7 0xffffffff80000000) ∷
    (0x7fffffff, 0x0, Addiw 7 5 (pos 2047), goes_on 0x10000 7 0xffffffff800007fe) ∷
    (0xffffffffffffffff, 0x0, Slti 7 5 (pos 1), goes_on 0x10000 7 0x1) ∷
    (0x0, 0x0, Sltiu 7 5 (negsuc 0), goes_on 0x10000 7 0x1) ∷
    (0xff00f00f, 0x0, Xori 7 5 (negsuc 2288), goes_on 0x10000 7 0xffffffff00ff0700) ∷
    (0xff00f00f, 0x0, Andi 7 5 (pos 15), goes_on 0x10000 7 0xf) ∷
    (0x0, 0x0, Ori 7 5 (negsuc 240), goes_on 0x10000 7 0xffffffffffffff0f) ∷
    (0x0, 0x0, Add 7 0 0, plans.Done 7 0 0x10004) ∷
    [])
operations = refl

jumps : ArePlanned (
    (0x0, 0x0, Lui 5 (pos 0x11000), plans.Done 5 0x11000 0x10004) ∷
    (0x0, 0x0, Auipc 7 (negsuc 0xffff), plans.Done 7 0 0x10004) ∷
    (0x0, 0x0, Jal 0 (pos 0), plans.Done 0 0x10004 0x10000) ∷
    (0x20004, 0x0, Jalr 1 5 (pos 1), plans.Done 1 0x10004 0x20004) ∷
    (0x10000, 0x0, Jalr 0 5 (pos 2), plans.Trap 0) ∷
    (0x1, 0x0, Bne 5 0 (pos 32), plans.Done 0 0 0x10020) ∷
    (0x0, 0x0, Bne 5 0 (pos 2), plans.Done 0 0 0x10004) ∷
    (0x1, 0x0, Bne 5 0 (pos 2), plans.Trap 0) ∷
    (0xffffffffffffffff, 0x0, Blt 5 6 (negsuc 3), plans.Done 0 0 0xfffc) ∷
    (0xffffffffffffffff, 0x0, Bltu 5 6 (negsuc 3), plans.Done 0 0 0x10004) ∷
    [])
jumps = refl

loads_and_stores : ArePlanned (
    (0x11000, 0x0, Ld 6 5 (pos 0), plans.Load 0x11000 8 false 6) ∷
    (0xffffffffffffffff, 0x0, Lb 6 5 (pos 3), plans.Load 2 1 true 6) ∷
    (0x0, 0x0, Lw 6 5 (pos 2), plans.Trap 4) ∷
    (0x0, 0x7, Sd 5 6 (negsuc 3), plans.Trap 6) ∷
    (0x0, 0x7, Sh 5 6 (negsuc 1), plans.Store 0xfffffffffffffffe 2 7) ∷
    [])
loads_and_stores = refl

csr_instructions : ArePlanned (
    (0x0, 0x0, Csrrs 6 0 0x15c, plans.Csr 0x15c Set 0 false 6) ∷
    (0x0, 0x0, Csrrwi 6 0 0x15c, plans.Csr 0x15c Write 0 true 6) ∷
    (0x0, 0x0, Csrrci 6 31 0x15c, plans.Csr 0x15c Clear 31 true 6) ∷
    [])
csr_instructions = refl

-- a word of memory holds its bytes from the lowest on
bytes_picked : map (λ (row : ℕ × ℕ × Bool). picked 0x8877665544332211 row.0 row.1 row.2)
    ((0x11007, 1, true) ∷ (0x11007, 1, false) ∷ (0x11004, 4, true) ∷ (0x11004, 4, false) ∷ (0x11000, 8, true) ∷ [])
    ≡ 0xffffffffffffff88 ∷ 0x88 ∷ 0xffffffff88776655 ∷ 0x88776655 ∷ 0x8877665544332211 ∷ []
bytes_picked = refl

example-sh-merged : merged 0x8877665544332211 0x11002 2 0xffffeeee ≡ 0x88776655eeee2211
example-sh-merged = refl

example-sd-merged : merged 0x8877665544332211 0x11000 8 0x55 ≡ 0x55
example-sd-merged = refl
