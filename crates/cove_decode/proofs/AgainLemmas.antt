use Rattle.std.proofs.Common.{◌≡◌, ℕ, ◌+◌, ◌*◌, ◌/◌, ◌%◌, ◌^◌, ◌<◌, ◌==◌, ◌&&◌, pos, Bool, true, false, Option, Some, None, cond, refl, sym, ap, ◌∙◌, arith}
use Rattle.std.specs.Prelude.{IfSome}
use Rattle.std.proofs.lemmas.Bool.{cond_both, eqb-true, and_parts}
use Rattle.std.proofs.lemmas.Int.{ints}
use Rattle.cove_base.specs.Instructions.{decoded, opcode, rd, funct3, rs1, rs2, funct7, funct6, csr, shamt, is_shift, imm_i, imm_s, imm_b, imm_u, imm_j, branch_of, load_insn, store_insn, immediate_of, shift_of, shift_of_32, operation_of, operation_of_32, csr_of, whole_word_of}
use Rattle.cove_base.specs.Encodings.{encoded, bits_of, significant, FieldsFit, IsImmediate, IsShift, r_format, i_format, s_format, b_format, u_format, j_format}
use Rattle.cove_base.specs.declared.instructions.Insn.{Insn}
use Rattle.cove_base.specs.declared.instructions.Insn.TheVariants.{Lui, Auipc, Jal, Jalr, Addiw, Fence}
use Rattle.cove_decode.proofs.FieldLemmas.{bits_of-signed, signed_fits, r_whole, i_whole, upper_whole, imm_b_is, imm_j_is, b_bits, j_bits, HasPieces, b_pieces, HasUpperPieces, j_pieces}

-- what was read of a word fits its fields, and is that word again
pub record IsRead (w : ℕ) (found : Option Insn) : Type 0 where
  pub again : IfSome found (λ insn. FieldsFit insn × (encoded insn ≡ significant w))

some : {w : ℕ} {insn : Insn} → FieldsFit insn → encoded insn ≡ significant w → IsRead w (Some insn)
some fits e = record { again = (fits, e) }

nothing : {w : ℕ} → IsRead w None
nothing {w} = record { again = tt }

else_if : {w : ℕ} {b : Bool} {x y : Option Insn} → (b ≡ true → IsRead w x) → (b ≡ false → IsRead w y) → IsRead w (cond b x y)
else_if {w} {b} {x} {y} first second = cond_both b x y (λ v. IsRead w v) first second

-- only a FENCE has fields that aren't looked at
kept : (w op : ℕ) → opcode w ≡ op → (op == 0x0f) ≡ false → w ≡ significant w
kept w op e test = rw (e, test) refl

cleared : (w : ℕ) → (opcode w == 0x0f && funct3 w == 0) ≡ true → 0x0f ≡ significant w
cleared w e = rw e refl

-- the numbers that a word gives fit
register_fits : (n : ℕ) → n % 2 ^ 5 < 32
register_fits n = omega arith

imm_i_fits : (w : ℕ) → w < 2 ^ 32 → IsImmediate 12 0 (imm_i w)
imm_i_fits w below = signed_fits 12 0 (w / 2 ^ 20) refl (omega arith) (omega arith)

imm_s_fits : (w : ℕ) → w < 2 ^ 32 → IsImmediate 12 0 (imm_s w)
imm_s_fits w below = signed_fits 12 0 (funct7 w * 2 ^ 5 + rd w) refl (omega arith) (omega arith)

pieces_of : (w : ℕ) → w < 2 ^ 32 → HasPieces (b_bits (funct7 w) (rd w)) (funct7 w) (rd w)
pieces_of w below = b_pieces (funct7 w) (rd w) (omega arith) (omega arith)

imm_b_fits : (w : ℕ) → w < 2 ^ 32 → IsImmediate 13 1 (imm_b w)
imm_b_fits w below =
    let pieces = pieces_of w below in
    rw (imm_b_is w (funct7 w) (rd w) refl refl) (signed_fits 13 1 (b_bits (funct7 w) (rd w)) refl pieces.below pieces.even)

imm_u_fits : (w : ℕ) → w < 2 ^ 32 → IsImmediate 32 12 (imm_u w)
imm_u_fits w below = signed_fits 32 12 (w / 2 ^ 12 * 2 ^ 12) refl (omega arith) (omega arith)

imm_j_fits : (w : ℕ) → w < 2 ^ 32 → IsImmediate 21 1 (imm_j w)
imm_j_fits w below =
    let pieces = j_pieces (w / 2 ^ 12) (omega arith) in
    rw (imm_j_is w (w / 2 ^ 12) refl) (signed_fits 21 1 (j_bits (w / 2 ^ 12)) refl pieces.below pieces.even)

shift_fits : (width n : ℕ) → n < 2 ^ width → IsShift width (pos n)
shift_fits width n h = (omega (arith, ints), omega (arith, ints))

-- the word of each format, from what was read of it
r_word : (w o f h : ℕ) → opcode w ≡ o → funct3 w ≡ f → funct7 w ≡ h → r_format o f h (rd w) (rs1 w) (rs2 w) ≡ w
r_word w o f h eo ef eh = rw (← eo, ← ef, ← eh) (r_whole w)

i_word : (w o f n : ℕ) → opcode w ≡ o → funct3 w ≡ f → w / 2 ^ 20 ≡ n → i_format o f (rd w) (rs1 w) n ≡ w
i_word w o f n eo ef en = rw (← eo, ← ef, ← en) (i_whole w)

i_imm_word : (w o f : ℕ) → w < 2 ^ 32 → opcode w ≡ o → funct3 w ≡ f → i_format o f (rd w) (rs1 w) (bits_of 12 (imm_i w)) ≡ w
i_imm_word w o f below eo ef = i_word w o f (bits_of 12 (imm_i w)) eo ef (sym (bits_of-signed 12 (w / 2 ^ 20) (omega arith)))

s_word : (w o f : ℕ) → w < 2 ^ 32 → opcode w ≡ o → funct3 w ≡ f → s_format o f (rs1 w) (rs2 w) (bits_of 12 (imm_s w)) ≡ w
s_word w o f below eo ef =
    let n : ℕ = funct7 w * 2 ^ 5 + rd w in
    let high : n / 2 ^ 5 ≡ funct7 w = omega arith in
    let low : n % 2 ^ 5 ≡ rd w = omega arith in
    ap (s_format o f (rs1 w) (rs2 w)) (bits_of-signed 12 n (omega arith))
    ∙ (ap (λ (h : ℕ). r_format o f h (n % 2 ^ 5) (rs1 w) (rs2 w)) high
    ∙ (ap (λ (d : ℕ). r_format o f (funct7 w) d (rs1 w) (rs2 w)) low ∙ r_word w o f (funct7 w) eo ef refl))

b_word : (w o f : ℕ) → w < 2 ^ 32 → opcode w ≡ o → funct3 w ≡ f → b_format o f (rs1 w) (rs2 w) (bits_of 13 (imm_b w)) ≡ w
b_word w o f below eo ef =
    let n : ℕ = b_bits (funct7 w) (rd w) in
    let pieces : HasPieces n (funct7 w) (rd w) = pieces_of w below in
    let low : ℕ = n / 2 % 2 ^ 4 * 2 + n / 2 ^ 11 % 2 in
    ap (b_format o f (rs1 w) (rs2 w)) (ap (bits_of 13) (imm_b_is w (funct7 w) (rd w) refl refl) ∙ bits_of-signed 13 n pieces.below)
    ∙ (ap (λ (h : ℕ). r_format o f h low (rs1 w) (rs2 w)) pieces.high
    ∙ (ap (λ (d : ℕ). r_format o f (funct7 w) d (rs1 w) (rs2 w)) pieces.low ∙ r_word w o f (funct7 w) eo ef refl))

u_word : (w o : ℕ) → w < 2 ^ 32 → opcode w ≡ o → u_format o (rd w) (bits_of 32 (imm_u w)) ≡ w
u_word w o below eo =
    let n : ℕ = w / 2 ^ 12 * 2 ^ 12 in
    let same : bits_of 32 (imm_u w) ≡ n = bits_of-signed 32 n (omega arith) in
    ap (u_format o (rd w)) same ∙ omega (arith, upper_whole w)

j_word : (w o : ℕ) → w < 2 ^ 32 → opcode w ≡ o → j_format o (rd w) (bits_of 21 (imm_j w)) ≡ w
j_word w o below eo =
    let u : ℕ = w / 2 ^ 12 in
    let pieces : HasUpperPieces (j_bits u) u = j_pieces u (omega arith) in
    let same : bits_of 21 (imm_j w) ≡ j_bits u = ap (bits_of 21) (imm_j_is w u refl) ∙ bits_of-signed 21 (j_bits u) pieces.below in
    ap (j_format o (rd w)) same ∙ upper_joined w o (j_bits u) pieces.whole eo
  where
    upper_joined : (w o n : ℕ)
        → n / 2 ^ 20 * 2 ^ 19 + n / 2 % 2 ^ 10 * 2 ^ 9 + n / 2 ^ 11 % 2 * 2 ^ 8 + n / 2 ^ 12 % 2 ^ 8 ≡ w / 2 ^ 12
        → opcode w ≡ o → j_format o (rd w) n ≡ w
    upper_joined w o n e eo = omega (arith, upper_whole w)

-- each group of the table
branch_read : (w : ℕ) → w < 2 ^ 32 → opcode w ≡ 0x63 → IsRead w (branch_of (funct3 w) (rs1 w) (rs2 w) (imm_b w))
branch_read w below op =
    let same : w ≡ significant w = kept w 0x63 op refl in
    let fits : (rs1 w < 32) × (rs2 w < 32) × IsImmediate 13 1 (imm_b w) = (register_fits (w / 2 ^ 15), register_fits (w / 2 ^ 20), imm_b_fits w below) in
    let leaf : (f : ℕ) → (funct3 w == f) ≡ true → b_format 0x63 f (rs1 w) (rs2 w) (bits_of 13 (imm_b w)) ≡ significant w =
    λ f e. b_word w 0x63 f below op (eqb-true _ _ e) ∙ same in
    else_if (λ e. some fits (leaf 0 e)) (λ _.
    else_if (λ e. some fits (leaf 1 e)) (λ _.
    else_if (λ e. some fits (leaf 4 e)) (λ _.
    else_if (λ e. some fits (leaf 5 e)) (λ _.
    else_if (λ e. some fits (leaf 6 e)) (λ _.
    else_if (λ e. some fits (leaf 7 e)) (λ _.
    nothing))))))

load_read : (w : ℕ) → w < 2 ^ 32 → opcode w ≡ 0x03 → IsRead w (load_insn (funct3 w) (rd w) (rs1 w) (imm_i w))
load_read w below op =
    let same : w ≡ significant w = kept w 0x03 op refl in
    let fits : (rd w < 32) × (rs1 w < 32) × IsImmediate 12 0 (imm_i w) = (register_fits (w / 2 ^ 7), register_fits (w / 2 ^ 15), imm_i_fits w below) in
    let leaf : (f : ℕ) → (funct3 w == f) ≡ true → i_format 0x03 f (rd w) (rs1 w) (bits_of 12 (imm_i w)) ≡ significant w =
    λ f e. i_imm_word w 0x03 f below op (eqb-true _ _ e) ∙ same in
    else_if (λ e. some fits (leaf 0 e)) (λ _.
    else_if (λ e. some fits (leaf 1 e)) (λ _.
    else_if (λ e. some fits (leaf 2 e)) (λ _.
    else_if (λ e. some fits (leaf 3 e)) (λ _.
    else_if (λ e. some fits (leaf 4 e)) (λ _.
    else_if (λ e. some fits (leaf 5 e)) (λ _.
    else_if (λ e. some fits (leaf 6 e)) (λ _.
    nothing)))))))

store_read : (w : ℕ) → w < 2 ^ 32 → opcode w ≡ 0x23 → IsRead w (store_insn (funct3 w) (rs1 w) (rs2 w) (imm_s w))
store_read w below op =
    let same : w ≡ significant w = kept w 0x23 op refl in
    let fits : (rs1 w < 32) × (rs2 w < 32) × IsImmediate 12 0 (imm_s w) = (register_fits (w / 2 ^ 15), register_fits (w / 2 ^ 20), imm_s_fits w below) in
    let leaf : (f : ℕ) → (funct3 w == f) ≡ true → s_format 0x23 f (rs1 w) (rs2 w) (bits_of 12 (imm_s w)) ≡ significant w =
    λ f e. s_word w 0x23 f below op (eqb-true _ _ e) ∙ same in
    else_if (λ e. some fits (leaf 0 e)) (λ _.
    else_if (λ e. some fits (leaf 1 e)) (λ _.
    else_if (λ e. some fits (leaf 2 e)) (λ _.
    else_if (λ e. some fits (leaf 3 e)) (λ _.
    nothing))))

immediate_read : (w : ℕ) → w < 2 ^ 32 → opcode w ≡ 0x13 → IsRead w (immediate_of (funct3 w) (rd w) (rs1 w) (imm_i w))
immediate_read w below op =
    let same : w ≡ significant w = kept w 0x13 op refl in
    let fits : (rd w < 32) × (rs1 w < 32) × IsImmediate 12 0 (imm_i w) = (register_fits (w / 2 ^ 7), register_fits (w / 2 ^ 15), imm_i_fits w below) in
    let leaf : (f : ℕ) → (funct3 w == f) ≡ true → i_format 0x13 f (rd w) (rs1 w) (bits_of 12 (imm_i w)) ≡ significant w =
    λ f e. i_imm_word w 0x13 f below op (eqb-true _ _ e) ∙ same in
    else_if (λ e. some fits (leaf 0 e)) (λ _.
    else_if (λ e. some fits (leaf 2 e)) (λ _.
    else_if (λ e. some fits (leaf 3 e)) (λ _.
    else_if (λ e. some fits (leaf 4 e)) (λ _.
    else_if (λ e. some fits (leaf 6 e)) (λ _.
    else_if (λ e. some fits (leaf 7 e)) (λ _.
    nothing))))))

csr_read : (w : ℕ) → w < 2 ^ 32 → opcode w ≡ 0x73 → IsRead w (csr_of (funct3 w) (rd w) (rs1 w) (csr w))
csr_read w below op =
    let same : w ≡ significant w = kept w 0x73 op refl in
    let fits : (rd w < 32) × (rs1 w < 32) × (csr w < 2 ^ 12) = (register_fits (w / 2 ^ 7), register_fits (w / 2 ^ 15), omega arith) in
    let leaf : (f : ℕ) → (funct3 w == f) ≡ true → i_format 0x73 f (rd w) (rs1 w) (csr w) ≡ significant w =
    λ f e. i_word w 0x73 f (csr w) op (eqb-true _ _ e) refl ∙ same in
    else_if (λ e. some fits (leaf 1 e)) (λ _.
    else_if (λ e. some fits (leaf 2 e)) (λ _.
    else_if (λ e. some fits (leaf 3 e)) (λ _.
    else_if (λ e. some fits (leaf 5 e)) (λ _.
    else_if (λ e. some fits (leaf 6 e)) (λ _.
    else_if (λ e. some fits (leaf 7 e)) (λ _.
    nothing))))))

operation_read : (w : ℕ) → w < 2 ^ 32 → opcode w ≡ 0x33 → IsRead w (operation_of (funct7 w) (funct3 w) (rd w) (rs1 w) (rs2 w))
operation_read w below op =
    let same : w ≡ significant w = kept w 0x33 op refl in
    let fits : (rd w < 32) × (rs1 w < 32) × (rs2 w < 32) = (register_fits (w / 2 ^ 7), register_fits (w / 2 ^ 15), register_fits (w / 2 ^ 20)) in
    let leaf : (h f : ℕ) → (funct7 w == h && funct3 w == f) ≡ true → r_format 0x33 f h (rd w) (rs1 w) (rs2 w) ≡ significant w =
    λ h f e. r_word w 0x33 f h op (eqb-true _ _ (and_parts _ _ e).1) (eqb-true _ _ (and_parts _ _ e).0) ∙ same in
    else_if (λ e. some fits (leaf 0 0 e)) (λ _.
    else_if (λ e. some fits (leaf 0 1 e)) (λ _.
    else_if (λ e. some fits (leaf 0 2 e)) (λ _.
    else_if (λ e. some fits (leaf 0 3 e)) (λ _.
    else_if (λ e. some fits (leaf 0 4 e)) (λ _.
    else_if (λ e. some fits (leaf 0 5 e)) (λ _.
    else_if (λ e. some fits (leaf 0 6 e)) (λ _.
    else_if (λ e. some fits (leaf 0 7 e)) (λ _.
    else_if (λ e. some fits (leaf 0x20 0 e)) (λ _.
    else_if (λ e. some fits (leaf 0x20 5 e)) (λ _.
    nothing))))))))))

operation_32_read : (w : ℕ) → w < 2 ^ 32 → opcode w ≡ 0x3b → IsRead w (operation_of_32 (funct7 w) (funct3 w) (rd w) (rs1 w) (rs2 w))
operation_32_read w below op =
    let same : w ≡ significant w = kept w 0x3b op refl in
    let fits : (rd w < 32) × (rs1 w < 32) × (rs2 w < 32) = (register_fits (w / 2 ^ 7), register_fits (w / 2 ^ 15), register_fits (w / 2 ^ 20)) in
    let leaf : (h f : ℕ) → (funct7 w == h && funct3 w == f) ≡ true → r_format 0x3b f h (rd w) (rs1 w) (rs2 w) ≡ significant w =
    λ h f e. r_word w 0x3b f h op (eqb-true _ _ (and_parts _ _ e).1) (eqb-true _ _ (and_parts _ _ e).0) ∙ same in
    else_if (λ e. some fits (leaf 0 0 e)) (λ _.
    else_if (λ e. some fits (leaf 0 1 e)) (λ _.
    else_if (λ e. some fits (leaf 0 5 e)) (λ _.
    else_if (λ e. some fits (leaf 0x20 0 e)) (λ _.
    else_if (λ e. some fits (leaf 0x20 5 e)) (λ _.
    nothing)))))

shift_32_read : (w : ℕ) → w < 2 ^ 32 → opcode w ≡ 0x1b → IsRead w (shift_of_32 (funct7 w) (funct3 w) (rd w) (rs1 w) (pos (rs2 w)))
shift_32_read w below op =
    let same : w ≡ significant w = kept w 0x1b op refl in
    let fits : (rd w < 32) × (rs1 w < 32) × IsShift 5 (pos (rs2 w)) = (register_fits (w / 2 ^ 7), register_fits (w / 2 ^ 15), shift_fits 5 (rs2 w) (omega arith)) in
    let leaf : (h f : ℕ) → (funct7 w == h && funct3 w == f) ≡ true → r_format 0x1b f h (rd w) (rs1 w) (rs2 w) ≡ significant w =
    λ h f e. r_word w 0x1b f h op (eqb-true _ _ (and_parts _ _ e).1) (eqb-true _ _ (and_parts _ _ e).0) ∙ same in
    else_if (λ e. some fits (leaf 0 1 e)) (λ _.
    else_if (λ e. some fits (leaf 0 5 e)) (λ _.
    else_if (λ e. some fits (leaf 0x20 5 e)) (λ _.
    nothing)))

shift_read : (w : ℕ) → w < 2 ^ 32 → opcode w ≡ 0x13 → IsRead w (shift_of (funct6 w) (funct3 w) (rd w) (rs1 w) (pos (shamt w)))
shift_read w below op =
    let same : w ≡ significant w = kept w 0x13 op refl in
    let fits : (rd w < 32) × (rs1 w < 32) × IsShift 6 (pos (shamt w)) = (register_fits (w / 2 ^ 7), register_fits (w / 2 ^ 15), shift_fits 6 (shamt w) (omega arith)) in
    let logical : shamt w ≡ 0 * 2 ^ 6 + shamt w = omega arith in
    let pieces : (h n : ℕ) → funct6 w ≡ h → n ≡ h * 2 ^ 6 + shamt w → w / 2 ^ 20 ≡ n = λ h n eh en. omega arith in
    let leaf : (h f n : ℕ) → n ≡ h * 2 ^ 6 + shamt w → (funct6 w == h && funct3 w == f) ≡ true → i_format 0x13 f (rd w) (rs1 w) n ≡ significant w =
    λ h f n en e. i_word w 0x13 f n op (eqb-true _ _ (and_parts _ _ e).1) (pieces h n (eqb-true _ _ (and_parts _ _ e).0) en) ∙ same in
    else_if (λ e. some fits (leaf 0 1 (shamt w) logical e)) (λ _.
    else_if (λ e. some fits (leaf 0 5 (shamt w) logical e)) (λ _.
    else_if (λ e. some fits (leaf 0x10 5 (0x10 * 2 ^ 6 + shamt w) refl e)) (λ _.
    nothing)))

whole_word_read : (w : ℕ) → opcode w ≡ 0x73 → IsRead w (whole_word_of w)
whole_word_read w op =
    let same : w ≡ significant w = kept w 0x73 op refl in
    else_if (λ e. some tt (sym (eqb-true w 0x00000073 e) ∙ same)) (λ _.
    else_if (λ e. some tt (sym (eqb-true w 0x00100073 e) ∙ same)) (λ _.
    else_if (λ e. some tt (sym (eqb-true w 0x10500073 e) ∙ same)) (λ _.
    nothing)))

-- what is decoded fits, and encoded again it is the word
pub decoded_read : (w : ℕ) → w < 2 ^ 32 → IsRead w (decoded w)
decoded_read w below =
    let fits_d : rd w < 32 = register_fits (w / 2 ^ 7) in
    let fits_a : rs1 w < 32 = register_fits (w / 2 ^ 15) in
    let i_leaf : (o : ℕ) → (o == 0x0f) ≡ false → (opcode w == o && funct3 w == 0) ≡ true
    → i_format o 0 (rd w) (rs1 w) (bits_of 12 (imm_i w)) ≡ significant w =
    λ o other e. i_imm_word w o 0 below (eqb-true _ _ (and_parts _ _ e).0) (eqb-true _ _ (and_parts _ _ e).1)
    ∙ kept w o (eqb-true _ _ (and_parts _ _ e).0) other in
    let first : (b : Bool) (o : ℕ) → (opcode w == o && b) ≡ true → opcode w ≡ o =
    λ b o e. eqb-true _ _ (and_parts _ _ e).0 in
    else_if (λ e. some {insn = Lui (rd w) (imm_u w)} (fits_d, imm_u_fits w below) (u_word w 0x37 below (eqb-true _ _ e) ∙ kept w 0x37 (eqb-true _ _ e) refl)) (λ _.
    else_if (λ e. some {insn = Auipc (rd w) (imm_u w)} (fits_d, imm_u_fits w below) (u_word w 0x17 below (eqb-true _ _ e) ∙ kept w 0x17 (eqb-true _ _ e) refl)) (λ _.
    else_if (λ e. some {insn = Jal (rd w) (imm_j w)} (fits_d, imm_j_fits w below) (j_word w 0x6f below (eqb-true _ _ e) ∙ kept w 0x6f (eqb-true _ _ e) refl)) (λ _.
    else_if (λ e. some {insn = Jalr (rd w) (rs1 w) (imm_i w)} (fits_d, fits_a, imm_i_fits w below) (i_leaf 0x67 refl e)) (λ _.
    else_if (λ e. branch_read w below (eqb-true _ _ e)) (λ _.
    else_if (λ e. load_read w below (eqb-true _ _ e)) (λ _.
    else_if (λ e. store_read w below (eqb-true _ _ e)) (λ _.
    else_if (λ e. shift_read w below (first (is_shift (funct3 w)) 0x13 e)) (λ _.
    else_if (λ e. immediate_read w below (eqb-true _ _ e)) (λ _.
    else_if (λ e. some {insn = Addiw (rd w) (rs1 w) (imm_i w)} (fits_d, fits_a, imm_i_fits w below) (i_leaf 0x1b refl e)) (λ _.
    else_if (λ e. shift_32_read w below (eqb-true _ _ e)) (λ _.
    else_if (λ e. operation_read w below (eqb-true _ _ e)) (λ _.
    else_if (λ e. operation_32_read w below (eqb-true _ _ e)) (λ _.
    else_if (λ e. some {insn = Fence} tt (cleared w e)) (λ _.
    else_if (λ e. whole_word_read w (first (funct3 w == 0) 0x73 e)) (λ _.
    else_if (λ e. csr_read w below (eqb-true _ _ e)) (λ _.
    nothing))))))))))))))))

pub read_fits : (w : ℕ) (found : Option Insn) → IsRead w found → IfSome found FieldsFit
read_fits w None read = tt
read_fits w (Some insn) read = read.again.0

pub read_again : (w : ℕ) (found : Option Insn) → IsRead w found → IfSome found (λ insn. encoded insn ≡ significant w)
read_again w None read = tt
read_again w (Some insn) read = read.again.1
