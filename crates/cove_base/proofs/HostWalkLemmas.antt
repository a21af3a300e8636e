-- Words of pages of the host's, by the test of a walk.
use Rattle.std.proofs.Common.{◌≡◌, ℕ, ◌/◌, ◌%◌, true, eqb-true, eq-eqb, arith}
use Rattle.cove_base.specs.HostWalks.{says_host}
use Rattle.cove_base.specs.PageWords.{IsHostWord}

pub says_so : (word : ℕ) → says_host word ≡ true → IsHostWord word
says_so word says =
    let none : word % 8 ≡ 0 = eqb-true (word % 8) 0 says in
    (word / 8, omega arith)

pub is_said : (word : ℕ) → IsHostWord word → says_host word ≡ true
is_said word is =
    let none : word % 8 ≡ 0 = omega (arith, is.1) in
    eq-eqb (word % 8) 0 none
