-- The harts of a board as it opens.
use Rattle.std.proofs.Common.{◌≡◌, ℕ, zero, suc, ◌+◌, ◌<◌, false, List, [], ◌∷◌, ◌++◌, Some, IfSome, add-zero, length, slice_get, refl, sym, ap, subst, arith}
use Rattle.std.proofs.lemmas.List.{length_push}
use Rattle.atomic_table.specs.Seated.{TableId}
use Rattle.cove_base.specs.Scripts.{ScriptValue}
use Rattle.cove_board.specs.Parts.{hart_alone, hart_of, new_part}
use Rattle.cove_board.specs.Passes.{AreDealt, PassValue}
use Rattle.cove_hart.specs.HartStates.{hart_value}
use Rattle.cove_hart.specs.declared.states.HartState.{HartState}
use Rattle.cove_monitor.specs.Closing.{AreFitting, IsFitting, IsNewSeat}
use Rattle.cove_monitor.specs.Seats.{SeatValue}

-- ---- the harts of a board as it opens

last_at : {X : Type 0} (front : List X) (x : X) → slice_get (front ++ x ∷ []) (length front) ≡ Some x
last_at [] x = refl
last_at (y ∷ front) x = last_at front x

front_at : {X : Type 0} (front : List X) (x : X) (k : ℕ) → k < length front → slice_get (front ++ x ∷ []) k ≡ slice_get front k
front_at [] x k lt = absurd (omega arith)
front_at (y ∷ front) x zero lt = refl
front_at (y ∷ front) x (suc k) lt = front_at front x k (omega arith)

-- the last hart and the last pass are seated in front
pub record AreSeated (script : ScriptValue) (table : TableId) (states : List HartState) (passes : List PassValue) (harts : List SeatValue) : Type 0 where
  pub count : length states + length harts ≡ script.harts
  pub states_fit : AreFitting script (length states) states
  pub passes_dealt : AreDealt script table (length states) passes
  pub fresh : (k : ℕ) → k < length harts → IfSome (slice_get harts k) (IsNewSeat table script (length states + k))

module _ (script : ScriptValue) (table : TableId) (rest : List HartState) (state : HartState) (left : List PassValue) (pass : PassValue) (fits : AreFitting script (length (rest ++ state ∷ [])) (rest ++ state ∷ [])) (dealt : AreDealt script table (length (rest ++ state ∷ [])) (left ++ pass ∷ [])) where
  same_length : length left ≡ length rest
  same_length = let a = length_push left pass in let b = length_push rest state in let d = dealt.0 in omega arith

  pub last_fits : IsFitting script (length rest) state
  last_fits = subst (λ o. IfSome o (IsFitting script (length rest))) (last_at rest state) (fits.1 (length rest) (let b = length_push rest state in omega arith))

  pub last_dealt : pass ≡ record { table = table; part = hart_alone (new_part script (length rest)) }
  last_dealt =
      subst (λ n. pass ≡ record { table = table; part = hart_alone (new_part script n) }) same_length
      (subst (λ o. IfSome o (λ (v : PassValue). v ≡ record { table = table; part = hart_alone (new_part script (length left)) })) (last_at left pass)
      (dealt.1 (length left) (let b = length_push rest state in let s = same_length in omega arith)))

  last_seat : IsNewSeat table script (length rest) (record { held = hart_value state; pass = pass; full = false })
  last_seat = record {
    is = record {
      of = record {
        table_is = ap (λ (v : PassValue). v.table) last_dealt;
        script_is = ap (λ (v : PassValue). (hart_of v.part).script) last_dealt;
      };
      number_is = last_fits.is;
    };
    part = ap (λ (v : PassValue). hart_of v.part) last_dealt;
    unwalked = last_fits.unwalked;
    unfilled = refl;
  }

  pub seated_more : (harts : List SeatValue) → length (rest ++ state ∷ []) + length harts ≡ script.harts → ((k : ℕ) → k < length harts → IfSome (slice_get harts k) (IsNewSeat table script (length (rest ++ state ∷ []) + k))) → AreSeated script table rest left (record { held = hart_value state; pass = pass; full = false } ∷ harts)
  seated_more harts count fresh = record {
    count = let b = length_push rest state in omega arith;
    states_fit = (refl, λ k lt. subst (λ o. IfSome o (IsFitting script k)) (front_at rest state k lt) (fits.1 k (let b = length_push rest state in omega arith)));
    passes_dealt = (
      same_length,
      λ k lt.
          let s = same_length in
          subst (λ o. IfSome o (λ (v : PassValue). v ≡ record { table = table; part = hart_alone (new_part script k) })) (front_at left pass k (omega arith))
          (dealt.1 k (let b = length_push rest state in omega arith)),
    );
    fresh = first;
  }
    where
      first : (k : ℕ) → k < length (record { held = hart_value state; pass = pass; full = false } ∷ harts) → IfSome (slice_get (record { held = hart_value state; pass = pass; full = false } ∷ harts) k) (IsNewSeat table script (length rest + k))
      first zero lt = subst (λ n. IsNewSeat table script n (record { held = hart_value state; pass = pass; full = false })) (sym (add-zero (length rest))) last_seat
      first (suc k) lt =
          let b = length_push rest state in
          let at : length (rest ++ state ∷ []) + k ≡ length rest + suc k = omega arith in
          subst (λ n. IfSome (slice_get harts k) (IsNewSeat table script n)) at (fresh k (omega arith))
