-- One more read or write after those that were made before.
use Rattle.std.proofs.Common.{◌≡◌, ℕ, ◌+◌, ◌≤◌, ◌∙◌, List, ◌++◌, Option, length, take, drop, ap, sym, subst, arith, length-append}
use Rattle.std.proofs.lemmas.List.{length-take-le}
use Rattle.std.proofs.Math.Seq.{take-add}
use Rattle.std.specs.Io.KnownBytes.{Appends, Consumes}
use Rattle.std.proofs.KnownBytes.{Appends-trans, Consumes-trans}
use Rattle.cove_io.specs.Ends.{TakesAtMost, TakesExactly}

module _ (first second third : Option (List ℕ)) (bytes buf : List ℕ) (n : ℕ) (within : n ≤ length buf)
    (before : Consumes first second bytes) (now : Consumes second third (take n buf)) where
  length-read : length (bytes ++ take n buf) ≡ length bytes + n
  length-read = length-append bytes (take n buf) ∙ ap (λ k. length bytes + k) (length-take-le n buf within)

  pub reads_exactly : (m : ℕ) → length bytes + n ≡ m → TakesExactly m first third
  reads_exactly m e = (bytes ++ take n buf, length-read ∙ e, Consumes-trans first second third bytes (take n buf) before now)

  pub reads_at_most : (m : ℕ) → length bytes + n ≤ m → TakesAtMost m first third
  reads_at_most m le =
      (bytes ++ take n buf, omega (arith, length-read), Consumes-trans first second third bytes (take n buf) before now)

pub writes_on : (first second third : Option (List ℕ)) (at n : ℕ) (piece : List ℕ)
    → Appends first second (take at piece) → Appends second third (take n (drop at piece)) → Appends first third (take (at + n) piece)
writes_on first second third at n piece before now =
    subst (Appends first third) (sym (take-add at n piece)) (Appends-trans first second third _ _ before now)
