-- Tests of the guest pages of a run.
use Rattle.std.proofs.Common.{◌≡◌, ◌↔◌, ℕ, zero, suc, ◌+◌, ◌^◌, ◌≤◌, Bool, true, false, inl, inr, refl, subst, arith}
use Rattle.std.proofs.lemmas.Bool.{and_from, and_parts, cases_lt, or_from, or_parts}
use Rattle.std.specs.List.{list_all, list_any, range_with_len}
use Rattle.cove_base.specs.Modes.{guest_limit}
use Rattle.cove_base.specs.declared.modes.Mode.{Mode}
use Rattle.cove_base.specs.declared.modes.Mode.TheVariants.{Sv39x4, Sv48x4}
use Rattle.cove_host.specs.GuestRuns.{EachGuest}

-- guest addresses of either mode are numbers of 64 bits
pub few_guests : (mode : Mode) → guest_limit mode ≤ 2 ^ 38
few_guests Sv39x4 = omega arith
few_guests Sv48x4 = omega arith

-- what holds of the guest pages so far and of the next holds of one more
pub each_more : (P : ℕ → Type 0) (first i : ℕ) → EachGuest P first i → P (first + i) → EachGuest P first (i + 1)
each_more P first i before here g low high =
    elim (cases_lt g (first + i)) [
      | inl under ↦ before g low under
      | inr over ↦ let is : first + i ≡ g = omega arith in subst P is here
    ]

-- of a run, it holds of the first and of those after it
each_first : (P : ℕ → Type 0) (first n : ℕ) → P first → EachGuest P (first + 1) n → EachGuest P first (suc n)
each_first P first n here after g low high =
    elim (cases_lt first g) [
      | inl later ↦ after g (omega arith) (omega arith)
      | inr same ↦ let is : first ≡ g = omega arith in subst P is here
    ]

-- all pass a test just where each does
pub all_pass : (test : ℕ → Bool) (first n : ℕ) → (list_all test (range_with_len first n) ≡ true) ↔ EachGuest (λ g. test g ≡ true) first n
all_pass test first zero = (λ e g low high. absurd (omega arith), λ each. refl)
all_pass test first (suc n) = (
  λ e.
      let parts = and_parts (test first) (list_all test (range_with_len (first + 1) n)) e in
      each_first (λ g. test g ≡ true) first n parts.0 ((all_pass test (first + 1) n).0 parts.1),
  λ each.
      and_from (test first) (list_all test (range_with_len (first + 1) n)) (each first (omega arith) (omega arith))
      ((all_pass test (first + 1) n).1 (λ g low high. each g (omega arith) (omega arith))),
)

-- and none does just where each fails
pub none_passes : (test : ℕ → Bool) (first n : ℕ) → (list_any test (range_with_len first n) ≡ false) ↔ EachGuest (λ g. test g ≡ false) first n
none_passes test first zero = (λ e g low high. absurd (omega arith), λ each. refl)
none_passes test first (suc n) = (
  λ e.
      let parts = or_parts (test first) (list_any test (range_with_len (first + 1) n)) e in
      each_first (λ g. test g ≡ false) first n parts.0 ((none_passes test (first + 1) n).0 parts.1),
  λ each.
      or_from (test first) (list_any test (range_with_len (first + 1) n)) (each first (omega arith) (omega arith))
      ((none_passes test (first + 1) n).1 (λ g low high. each g (omega arith) (omega arith))),
)
