-- Which table words are leaves that name a page as shared.
use Rattle.std.proofs.Common.{◌≡◌, ℕ, ◌/◌, ◌%◌, ◌^◌, ◌∙◌, ◌||◌, ◌&&◌, Bool, true, false, cond, eqb, [], ap, arith}
use Rattle.std.proofs.lemmas.List.Sums.{sum_by-cons}
use Rattle.cove_model.specs.TableLaw.{is_shared_leaf, shared_once}

abbrev flag : Bool → ℕ
flag b = cond b 1 0

pub once_is : (p word : ℕ) (b : Bool) → is_shared_leaf p word ≡ b → shared_once p word ≡ flag b
once_is p word b e =
    let one = sum_by-cons (λ k. cond (is_shared_leaf p k) 1 0) word [] in
    let is = ap flag e in
    omega arith

-- by the last ten bits of the word, and the page behind them
pub not_shared : (p word r : ℕ) → word % 1024 ≡ r → (eqb r 215 || eqb r 470) ≡ false → is_shared_leaf p word ≡ false
not_shared p word r e off =
    ap (λ k. (eqb k 215 || eqb k 470) && eqb (word / 1024 % 2 ^ 16) p) e ∙ ap (λ b. b && eqb (word / 1024 % 2 ^ 16) p) off

pub is_shared : (p page word r : ℕ) → word % 1024 ≡ r → (eqb r 215 || eqb r 470) ≡ true → word / 1024 % 2 ^ 16 ≡ page → is_shared_leaf p word ≡ eqb page p
is_shared p page word r e on is =
    ap (λ k. (eqb k 215 || eqb k 470) && eqb (word / 1024 % 2 ^ 16) p) e ∙ ap (λ b. b && eqb (word / 1024 % 2 ^ 16) p) on ∙ ap (λ k. eqb k p) is
