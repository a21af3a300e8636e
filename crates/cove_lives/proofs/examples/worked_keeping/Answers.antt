use Rattle.std.proofs.Common.{◌≡◌, ◌<◌, ◌≤◌, ◌/◌, ◌%◌, ◌^◌, ℕ, zero, suc, false, cond, eqb, ltb, List, ◌∷◌, get_or, refl, ap, arith}
use Rattle.cove_model.specs.Machine.{given, released, hart_word, table_word, tvm_word, Role, Root, Table}
use Rattle.cove_lives.proofs.examples.worked_keeping.Goals as goal

-- every word but the first
later : (x y : ℕ) (rest : List ℕ) (place : ℕ) → 1 ≤ place → get_or (x ∷ rest) place 0 ≡ get_or (y ∷ rest) place 0
later x y rest zero low = absurd (omega arith)
later x y rest (suc place) low = refl

page_kept : (rest : List ℕ) (p : ℕ) (role : Role) → p < 1 → get_or (released ∷ rest) p 0 ≡ given 1 role → get_or (given 1 Table ∷ rest) p 0 ≡ given 1 role
page_kept rest zero role on gives = absurd (omega arith)
page_kept rest (suc p) role on gives = absurd (omega arith)

root_kept : (rest : List ℕ) (p : ℕ) → p < 1 → get_or (given 1 Table ∷ rest) p 0 ≡ given 1 Root → get_or (released ∷ rest) p 0 ≡ given 1 Root
root_kept rest zero on gives = absurd (omega arith)
root_kept rest (suc p) on gives = absurd (omega arith)

pub returns-clause-same : goal.returns-clause-same
returns-clause-same c = λ words t. record {
  size = refl;
  page = λ p role on gives. gives;
  root = λ p on gives. gives;
  table = λ p i on low own. refl;
  number = refl;
  inside = λ number hart on. refl;
}

pub returns-clause-more : goal.returns-clause-more
returns-clause-more c = λ rest. record {
  size = refl;
  page = page_kept rest;
  root = root_kept rest;
  table = λ p i on low own. later (given 1 Table) released rest (table_word 1 p i) (omega arith);
  number = later (given 1 Table) released rest (tvm_word 1 1 1) (omega arith);
  inside = λ number hart on.
      ap (λ w. cond (eqb (w / 2 ^ 32) 1) (ltb (w % 2 ^ 32) number) false) (later (given 1 Table) released rest (hart_word 1 1 hart) (omega arith));
}

pub returns-clause-root : goal.returns-clause-root
returns-clause-root c = λ rest keeps. let is : released ≡ given 1 Root = keeps.root 0 (omega arith) refl in omega arith

pub returns-clause-taken : goal.returns-clause-taken
returns-clause-taken c = λ rest keeps. let is : released ≡ given 1 Table = keeps.page 0 Table (omega arith) refl in omega arith
