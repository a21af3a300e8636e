use Rattle.std.proofs.Common.{◌≡◌, ◌≢◌, ◌∙◌, ◌↔◌, ℕ, ◌<◌, zero, suc, ◌/◌, ◌%◌, ◌^◌, false, cond, eqb, ltb, List, ◌∷◌, get_or, get_or-set_other, length-set, set, sym, ap, inl, inr, arith, ◌≤◌, refl}
use Rattle.cove_model.specs.Machine.{given, epoch_word, hart_word, tvm_word, Role, Table, IsTableOf}
use Rattle.cove_lives.proofs.examples.worked_storing.Goals as goal

-- a word that stays tells the same of a page
same : (words : List ℕ) (place n p w : ℕ) → p ≢ place → (get_or (set words place n) p 0 ≡ w) ↔ (get_or words p 0 ≡ w)
same words place n p w off =
    let stays = get_or-set_other words place p n 0 off in
    (λ is. sym stays ∙ is, λ is. stays ∙ is)

pub returns-clause-epoch : goal.returns-clause-epoch
returns-clause-epoch c = λ words n. record {
  size = length-set words (epoch_word 1) n;
  page = λ p t role on. same words (epoch_word 1) n p _ (λ e. omega arith);
  tables = λ place low high. get_or-set_other words (epoch_word 1) place n 0 (λ e. omega arith);
  rest = λ place low high. get_or-set_other words (epoch_word 1) place n 0 (λ e. omega arith);
}

pub returns-clause-a_number : goal.returns-clause-a_number
returns-clause-a_number c = λ leaves. let is : ◌≡◌ {A = ℕ} 5 0 = leaves.rest (tvm_word 1 1 2) (omega arith) (omega arith) in absurd (omega arith)

pub returns-clause-other_number : goal.returns-clause-other_number
returns-clause-other_number c = λ words n. record {
  size = length-set words (tvm_word 1 1 2) n;
  page = λ p role on. same words (tvm_word 1 1 2) n p _ (λ e. omega arith);
  table = λ p i on low own. get_or-set_other words (tvm_word 1 1 2) _ n 0 (λ e. omega arith);
  number = get_or-set_other words (tvm_word 1 1 2) (tvm_word 1 1 1) n 0 (λ e. omega arith);
  inside = λ number hart on.
      ap (λ w. cond (eqb (w / 2 ^ 32) 1) (ltb (w % 2 ^ 32) number) false) (get_or-set_other words (tvm_word 1 1 2) (hart_word 1 1 hart) n 0 (λ e. omega arith));
}

pub returns-clause-own_number : goal.returns-clause-own_number
returns-clause-own_number c = λ leaves. let is : ◌≡◌ {A = ℕ} 5 0 = leaves.number in absurd (omega arith)

pub returns-clause-other_table : goal.returns-clause-other_table
returns-clause-other_table c = λ rest. record {
  size = refl;
  page = λ p role on. kept rest p role on;
  table = λ p i on low own. absurd (not_own rest p on own);
  number = behind rest (tvm_word 1 1 1) (omega arith);
  inside = λ number hart on.
      ap (λ w. cond (eqb (w / 2 ^ 32) 1) (ltb (w % 2 ^ 32) number) false) (behind rest (hart_word 1 1 hart) (omega arith));
}
  where
    behind : (rest : List ℕ) (place : ℕ) → 2 ≤ place → get_or (given 2 Table ∷ 5 ∷ rest) place 0 ≡ get_or (given 2 Table ∷ 0 ∷ rest) place 0
    behind rest zero past = absurd (omega arith)
    behind rest (suc zero) past = absurd (omega arith)
    behind rest (suc (suc place)) past = refl

    kept : (rest : List ℕ) (p : ℕ) (role : Role) → p < 1
        → (get_or (given 2 Table ∷ 5 ∷ rest) p 0 ≡ given 1 role) ↔ (get_or (given 2 Table ∷ 0 ∷ rest) p 0 ≡ given 1 role)
    kept rest zero role on = (λ is. is, λ is. is)
    kept rest (suc p) role on = absurd (omega arith)

    not_own : (rest : List ℕ) (p : ℕ) → p < 1 → IsTableOf (given 2 Table ∷ 0 ∷ rest) 1 p → ⊥
    not_own rest zero on (inl is) = omega arith
    not_own rest zero on (inr is) = omega arith
    not_own rest (suc p) on own = omega arith

pub returns-clause-own_table : goal.returns-clause-own_table
returns-clause-own_table c = λ rest leaves.
    let is : ◌≡◌ {A = ℕ} 5 0 = leaves.table 0 0 (omega arith) (omega arith) (inr refl) in absurd (omega arith)
