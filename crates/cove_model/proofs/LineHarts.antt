-- The hart of a line is on the board.
use Rattle.std.proofs.Common.{Bool, List, Some, [], cond, eqb, eqb-true, false, filter, slice_get, subst, suc, true, zero, ℕ, ◌<◌, ◌∷◌, ◌≡◌, refl}
use Rattle.std.proofs.lemmas.Option.{none-some, same_Some}
use Rattle.std.specs.List.{AllByRecursion}
use Rattle.cove_base.proofs.ScriptLimits.{IsWithin, Limits}
use Rattle.cove_model.specs.Machine.{next_line, ScriptValue, ScriptLine}

found_line : (pages harts h : ℕ) (ls : List ScriptLine) (n : ℕ) (l : ScriptLine) → AllByRecursion (IsWithin pages harts) ls → slice_get (filter (λ k. eqb k.hart.0 h) ls) n ≡ Some l → (l.hart.0 ≡ h) × IsWithin pages harts l
found_line pages harts h [] n l all e = absurd (none-some l e)
found_line pages harts h (x ∷ xs) n l all e = go (eqb x.hart.0 h) refl n e (λ m q. found_line pages harts h xs m l all.1 q)
  where
    go : (b : Bool) → eqb x.hart.0 h ≡ b → (m : ℕ) → slice_get (cond b (x ∷ filter (λ k. eqb k.hart.0 h) xs) (filter (λ k. eqb k.hart.0 h) xs)) m ≡ Some l → ((j : ℕ) → slice_get (filter (λ k. eqb k.hart.0 h) xs) j ≡ Some l → (l.hart.0 ≡ h) × IsWithin pages harts l) → (l.hart.0 ≡ h) × IsWithin pages harts l
    go true t zero q more = let same = same_Some x l q in (subst (λ (k : ScriptLine). k.hart.0 ≡ h) same (eqb-true x.hart.0 h t), subst (IsWithin pages harts) same all.0)
    go true t (suc m) q more = more m q
    go false t m q more = more m q

pub line_on_board : (script : ScriptValue) (h n : ℕ) (l : ScriptLine) → Limits script → next_line script h n ≡ Some l → h < script.harts
line_on_board script h n l limits e =
    let f = found_line script.pages script.harts h script.lines n l limits.lines e in
    subst (λ k. k < script.harts) f.0 f.1.hart
