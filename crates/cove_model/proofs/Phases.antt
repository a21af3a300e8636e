-- Phases: no hart is behind exactly where none has a line of an earlier phase left.
use Rattle.cove_base.proofs.ScriptLimits.{Limits}
use Rattle.cove_model.specs.Machine.{lines_of, next_line, ScriptValue, phases_rise_from, ScriptLine, NoneEarlier, first_behind, is_behind, is_earlier, has, State, ended_by, harts_below}
use Rattle.cove_model.proofs.Lists.{none_past}
use Rattle.cove_model.proofs.Members.{below_has, false-true, has_below}
use Rattle.cove_model.proofs.Progress.{earlier_line}
use Rattle.cove_model.proofs.Sums.{find_some}
use Rattle.std.proofs.Common.{Bool, List, None, Option, Some, [], ap, arith, cond, eqb, eqb-true, false, filter, find, inl, inr, le-leb, le_refl, leb-true, ltb-false, nat_le, refl, slice_get, suc, sym, true, zero, ℕ, ◌↔◌, ◌∙◌, ◌∷◌, ◌≡◌, ◌≤◌, ◌⊎◌}
use Rattle.std.proofs.lemmas.Bool.{and_from, and_parts, cond_both, or_cases}
use Rattle.std.proofs.lemmas.Option.{none-some, same_Some, slice_get_within}

rise_weaker : (p q : ℕ) (ls : List ScriptLine) → p ≤ q → phases_rise_from q ls ≡ true → phases_rise_from p ls ≡ true
rise_weaker p q [] le e = refl
rise_weaker p q (x ∷ xs) le e =
    let parts = and_parts (nat_le q x.phase) (phases_rise_from x.phase xs) e in
    let low = leb-true q x.phase parts.0 in
    and_from (nat_le p x.phase) (phases_rise_from x.phase xs) (le-leb p x.phase (omega arith)) parts.1

rise_filter : (f : ScriptLine → Bool) (p : ℕ) (ls : List ScriptLine) → phases_rise_from p ls ≡ true → phases_rise_from p (filter f ls) ≡ true
rise_filter f p [] e = refl
rise_filter f p (x ∷ xs) e =
    let parts = and_parts (nat_le p x.phase) (phases_rise_from x.phase xs) e in
    cond_both (f x) (x ∷ filter f xs) (filter f xs) (λ ls. phases_rise_from p ls ≡ true)
    (λ kept. and_from (nat_le p x.phase) (phases_rise_from x.phase (filter f xs)) parts.0 (rise_filter f x.phase xs parts.1))
    (λ left. rise_filter f p xs (rise_weaker p x.phase xs (leb-true p x.phase parts.0) parts.1))

rise_above : (p : ℕ) (ls : List ScriptLine) (n : ℕ) (l : ScriptLine) → phases_rise_from p ls ≡ true → slice_get ls n ≡ Some l → p ≤ l.phase
rise_above p [] n l e get = absurd (none-some l get)
rise_above p (x ∷ xs) zero l e get =
    let s = ap (λ (k : ScriptLine). k.phase) (same_Some x l get) in
    let low = leb-true p x.phase (and_parts (nat_le p x.phase) (phases_rise_from x.phase xs) e).0 in
    omega arith
rise_above p (x ∷ xs) (suc n) l e get =
    let parts = and_parts (nat_le p x.phase) (phases_rise_from x.phase xs) e in
    let low = leb-true p x.phase parts.0 in
    let rest = rise_above x.phase xs n l parts.1 get in
    omega arith

rise_between : (p : ℕ) (ls : List ScriptLine) (m n : ℕ) (a b : ScriptLine) → phases_rise_from p ls ≡ true → slice_get ls m ≡ Some a → slice_get ls n ≡ Some b → m ≤ n → a.phase ≤ b.phase
rise_between p [] m n a b e get get' le = absurd (none-some a get)
rise_between p (x ∷ xs) zero zero a b e get get' le = let s = ap (λ (k : ScriptLine). k.phase) (same_Some x a get) in let t = ap (λ (k : ScriptLine). k.phase) (same_Some x b get') in omega arith
rise_between p (x ∷ xs) zero (suc n) a b e get get' le =
    let s = ap (λ (k : ScriptLine). k.phase) (same_Some x a get) in
    let rest = rise_above x.phase xs n b (and_parts (nat_le p x.phase) (phases_rise_from x.phase xs) e).1 get' in
    omega arith
rise_between p (x ∷ xs) (suc m) zero a b e get get' le = absurd (omega arith)
rise_between p (x ∷ xs) (suc m) (suc n) a b e get get' le = rise_between x.phase xs m n a b (and_parts (nat_le p x.phase) (phases_rise_from x.phase xs) e).1 get get' (omega arith)

find_none : (p : ℕ → Bool) (xs : List ℕ) (k : ℕ) → find p xs ≡ None → has k xs ≡ true → p k ≡ false
find_none p [] k e h = false-true h
find_none p (x ∷ xs) k e h = go (p x) refl e (or_cases (eqb x k) (has k xs) h) (find_none p xs k)
  where
    go : (b : Bool) → p x ≡ b → cond b (Some x) (find p xs) ≡ None → (eqb x k ≡ true) ⊎ (has k xs ≡ true) → (find p xs ≡ None → has k xs ≡ true → p k ≡ false) → p k ≡ false
    go true t q w more = absurd (none-some x (sym q))
    go false t q (inl here) more = ap p (sym (eqb-true x k here)) ∙ t
    go false t q (inr there) more = more q there

not_earlier : (phase : ℕ) (o : Option ScriptLine) → is_earlier phase o ≡ false → (l : ScriptLine) → o ≡ Some l → phase ≤ l.phase
not_earlier phase None e l q = absurd (none-some l q)
not_earlier phase (Some a) e l q =
    let s = ap (λ (k : ScriptLine). k.phase) (same_Some a l q) in
    let low = ltb-false a.phase phase e in
    omega arith

none_earlier : (script : ScriptValue) (S : State) (phase : ℕ) → Limits script → first_behind script S phase ≡ None → NoneEarlier script S phase
none_earlier script S phase limits none h n l lt le next =
    let behind = find_none (is_behind script S phase) (harts_below script.harts) h none (has_below script.harts h lt) in
    go (next_line script h (ended_by S h)) refl behind
  where
    go : (o : Option ScriptLine) → next_line script h (ended_by S h) ≡ o → is_earlier phase o ≡ false → phase ≤ l.phase
    go None e f = let past = none_past (lines_of script h) (ended_by S h) e in let within = slice_get_within (lines_of script h) n l next in absurd (omega arith)
    go (Some a) e f =
        let low = not_earlier phase (Some a) f a refl in
        let rest = rise_between 0 (lines_of script h) (ended_by S h) n a l (rise_filter (λ k. eqb k.hart.0 h) 0 script.lines limits.phases) e next le in
        omega arith

none_behind_from : (script : ScriptValue) (S : State) (phase : ℕ) → NoneEarlier script S phase → first_behind script S phase ≡ None
none_behind_from script S phase none = go (first_behind script S phase) refl
  where
    go : (o : Option ℕ) → first_behind script S phase ≡ o → o ≡ None
    go None e = refl
    go (Some k) e =
        let f = find_some (is_behind script S phase) (harts_below script.harts) k e in
        let m = earlier_line phase (next_line script k (ended_by S k)) f.0 in
        let low = m.2 in
        let high = none k (ended_by S k) m.0 (below_has script.harts k f.1) (le_refl (ended_by S k)) m.1 in
        absurd (omega arith)

pub behind_iff : (script : ScriptValue) (S : State) (phase : ℕ) → Limits script → (first_behind script S phase ≡ None) ↔ NoneEarlier script S phase
behind_iff script S phase limits = (none_earlier script S phase limits, none_behind_from script S phase)
