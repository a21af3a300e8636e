use Rattle.std.proofs.Common.{arith, rules}
use Rattle.cove_decode.proofs.OpcodeLemmas.{from_branch, from_load, from_store, from_immediate, from_shift_32}
use Rattle.cove_decode.proofs.decoder.instruction.Goals as goal

pub returns-in-99 : goal.returns-in-99
returns-in-99 c =
    from_branch c.args.word c.branch-funct3.result c.field-funct3.result c.register-rs1.result c.register-rs2.result
    c.imm_b.result c.in-99.is (search rules) c.branch-funct3.ensures
    c.field-funct3.ensures.value c.register-rs1.ensures c.register-rs2.ensures c.imm_b.ensures

pub returns-in-3 : goal.returns-in-3
returns-in-3 c =
    from_load c.args.word c.load.result c.field-funct3.result c.register-rd.result c.register-rs1.result
    c.imm_i-in-3.result c.in-3.is (search rules) c.load.ensures
    c.field-funct3.ensures.value c.register-rd.ensures c.register-rs1.ensures c.imm_i-in-3.ensures

pub returns-in-35 : goal.returns-in-35
returns-in-35 c =
    from_store c.args.word c.store.result c.field-funct3.result c.register-rs1.result c.register-rs2.result
    c.imm_s.result c.in-35.is (search rules) c.store.ensures
    c.field-funct3.ensures.value c.register-rs1.ensures c.register-rs2.ensures c.imm_s.ensures

pub returns-in-19-2 : goal.returns-in-19-2
returns-in-19-2 c =
    from_immediate c.args.word c.immediate.result c.field-funct3.result c.register-rd.result c.register-rs1.result
    c.imm_i-in-19-2.result c.in-19.is c.if-funct3-eq1.false (search rules) c.immediate.ensures
    c.field-funct3.ensures.value c.register-rd.ensures c.register-rs1.ensures c.imm_i-in-19-2.ensures

pub returns-in-27-2 : goal.returns-in-27-2
returns-in-27-2 c =
    from_shift_32 c.args.word c.shift_32.result c.field-funct3.result c.register-rd.result c.register-rs1.result
    c.register-rs2.result c.in-27.is c.if-funct3-eq0-2.false (omega arith) c.shift_32.ensures
    c.field-funct3.ensures.value c.register-rd.ensures c.register-rs1.ensures c.register-rs2.ensures
