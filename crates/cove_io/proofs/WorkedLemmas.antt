-- What taking and appending say of bytes that are told, for worked cases.
use Rattle.std.proofs.Common.{◌≡◌, ℕ, ◌+◌, ◌≤◌, List, ◌++◌, Some, length, take, ap, sym, ◌∙◌, arith, length-append, take_all}
use Rattle.std.proofs.lemmas.List.{length-take, take-append-le}
use Rattle.cove_io.specs.Ends.{AppendsFront, TakesAtMost, TakesExactly}

pub sizes_at_most : (n : ℕ) (old new : List ℕ) → TakesAtMost n (Some old) (Some new) → length old ≤ n + length new
sizes_at_most n old new taken =
    let size : length taken.0 ≤ n = taken.1 in
    omega (arith, ap length taken.2, length-append taken.0 new)

-- the bytes that were taken stood in front
pub front_taken : (n : ℕ) (old new : List ℕ) → TakesExactly n (Some old) (Some new) → old ≡ take n old ++ new
front_taken n old new taken =
    let bytes = taken.0 in
    let size : length bytes ≡ n = taken.1 in
    let split : old ≡ bytes ++ new = taken.2 in
    let few : n ≤ length bytes = omega arith in
    let all : length bytes ≤ n = omega arith in
    let front : take n old ≡ bytes = ap (take n) split ∙ take-append-le n bytes new few ∙ take_all n bytes all in
    split ∙ ap (λ piece. piece ++ new) (sym front)

pub sizes_appended : (old new piece : List ℕ) → AppendsFront (Some old) (Some new) piece → length new ≤ length old + length piece
sizes_appended old new piece front =
    let n : ℕ = front.0 in
    let grown : new ≡ old ++ take n piece = front.2 in
    omega (arith, ap length grown, length-append old (take n piece), length-take n piece)
