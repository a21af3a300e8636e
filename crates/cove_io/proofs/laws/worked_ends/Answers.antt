use Rattle.std.proofs.Common.{◌≡◌, ◌+◌, ◌≤◌, List, ℕ, codes, ap, get_or, arith, refl, lit≤}
use Rattle.cove_io.proofs.WorkedLemmas.{front_taken, sizes_appended, sizes_at_most}
use Rattle.cove_io.proofs.laws.worked_ends.Goals as goal

pub returns-clause-two_taken : goal.returns-clause-two_taken
returns-clause-two_taken c = (codes "ab", refl, refl)

pub returns-clause-not_these_left : goal.returns-clause-not_these_left
returns-clause-not_these_left c = λ taken.
    absurd (let last : 99 ≡ 98 = ap (λ (s : List ℕ). get_or s 2 0) (front_taken 2 (codes "abc") (codes "b") taken) in omega arith)

pub returns-clause-at_most : goal.returns-clause-at_most
returns-clause-at_most c = (
  (codes "ab", lit≤ tt, refl),
  (codes "ab", lit≤ tt, refl),
  λ taken. absurd (let few : 3 ≤ 1 + 1 = sizes_at_most 1 (codes "abc") (codes "c") taken in omega arith),
)

pub returns-clause-front_appended : goal.returns-clause-front_appended
returns-clause-front_appended c = (2, lit≤ tt, refl)

pub returns-clause-more_than_all : goal.returns-clause-more_than_all
returns-clause-more_than_all c = λ front.
    absurd (let few : 5 ≤ 1 + 3 = sizes_appended (codes "x") (codes "xabca") (codes "abc") front in omega arith)
