-- The harts inside a TVM.
use Rattle.std.proofs.Common.{◌≡◌, ℕ, ◌<◌, Bool, true, false, eqb, eqb-true, eq-eqb, Option, Some, None, refl, sym, ap, subst, ◌∙◌, ⊎_elim, arith}
use Rattle.std.specs.Option.{option_map_or}
use Rattle.std.proofs.lemmas.Bool.{cases_eq, cond-true, cond-false, ne_eqb}
use Rattle.cove_model.proofs.HartLists.{range_keeps, range_passes}
use Rattle.cove_model.proofs.Members.{false-true, has_not, has_with}
use Rattle.cove_model.specs.Machine.{has, without, Within, Seat, State, harts_inside, is_in, seated}

-- a hart is inside a TVM
abbrev pub sits_in : State → (t h : ℕ) → Bool
sits_in S t h = option_map_or (is_in t) (S.seats h) false

pub inside_has : (S : State) (t h : ℕ) → has h (harts_inside S t) ≡ true → (h < S.harts) × (sits_in S t h ≡ true)
inside_has S t h e = let q = range_passes (sits_in S t) 0 S.harts h e in (omega arith, q.2)

pub has_inside : (S : State) (t h : ℕ) → h < S.harts → sits_in S t h ≡ true → has h (harts_inside S t) ≡ true
has_inside S t h lt e = range_keeps (sits_in S t) 0 S.harts h (omega arith) (omega arith) e

pub seated_same : (h : ℕ) (seat : Option Seat) (seats : ℕ → Option Seat) → seated h seat seats h ≡ seat
seated_same h seat seats = cond-true (eqb h h) seat (seats h) (eq-eqb h h refl)

pub seated_other : (h k : ℕ) (seat : Option Seat) (seats : ℕ → Option Seat) → (k ≡ h → ⊥) → seated h seat seats k ≡ seats k
seated_other h k seat seats ne = cond-false (eqb k h) seat (seats k) (ne_eqb k h ne)

-- a hart that was outside sits down: those that were inside are inside
pub inside_entered : (S T : State) (h : ℕ) (seat : Seat) → T.harts ≡ S.harts → T.seats ≡ seated h (Some seat) S.seats → S.seats h ≡ None
    → (t : ℕ) → Within (harts_inside S t) (harts_inside T t)
inside_entered S T h seat same seats outside t k e =
    let q = inside_has S t k e in
    has_inside T t k (subst (λ n. k < n) (sym same) q.0) (⊎_elim
    (λ is. false-true (sym (ap (λ o. option_map_or (is_in t) o false) (ap S.seats is ∙ outside)) ∙ q.1))
    (λ ne. ap (λ f. option_map_or (is_in t) (f k) false) seats ∙ ap (λ o. option_map_or (is_in t) o false) (seated_other h k (Some seat) S.seats ne) ∙ q.1)
    (cases_eq k h))

-- a hart gets up: the others inside are inside
pub inside_left : (S T : State) (h : ℕ) → T.harts ≡ S.harts → T.seats ≡ seated h None S.seats → (t : ℕ) → Within (without h (harts_inside S t)) (harts_inside T t)
inside_left S T h same seats t k e =
    let q = inside_has S t k (has_with h k (harts_inside S t) e) in
    let ne : k ≡ h → ⊥ = λ is. true_false (sym (subst (λ j. has j (without h (harts_inside S t)) ≡ true) is e) ∙ has_not h (harts_inside S t)) in
    has_inside T t k (subst (λ n. k < n) (sym same) q.0)
    (ap (λ f. option_map_or (is_in t) (f k) false) seats ∙ ap (λ o. option_map_or (is_in t) o false) (seated_other h k None S.seats ne) ∙ q.1)
  where
    true_false : true ≡ false → ⊥
    true_false q = cc

-- and those of another TVM, in which it was not, all are
pub inside_apart : (S T : State) (h : ℕ) (seat : Seat) → S.seats h ≡ Some seat → T.harts ≡ S.harts → T.seats ≡ seated h None S.seats
    → (t : ℕ) → (t ≡ seat.tvm → ⊥) → Within (harts_inside S t) (harts_inside T t)
inside_apart S T h seat sits same seats t apart k e =
    let q = inside_has S t k e in
    let ne : k ≡ h → ⊥ = λ is.
    let here : is_in t seat ≡ true = sym (ap (λ o. option_map_or (is_in t) o false) (ap S.seats is ∙ sits)) ∙ q.1 in
    apart (sym (eqb-true seat.tvm t here)) in
    has_inside T t k (subst (λ n. k < n) (sym same) q.0)
    (ap (λ f. option_map_or (is_in t) (f k) false) seats ∙ ap (λ o. option_map_or (is_in t) o false) (seated_other h k None S.seats ne) ∙ q.1)
