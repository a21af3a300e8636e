use Rattle.std.proofs.Common.{◌≡◌, ◌<◌, ℕ, get_or, length}
use Rattle.std.specs.Prelude.{bit_xor}
use Rattle.cove_measure.proofs.hmac.xored.Given as goal

abbrev pub invariant-loop-i : goal.invariant-loop-i
invariant-loop-i l = record {
  whole : length l.out ≡ 128;
  done : (k : ℕ) → k < l.i → get_or l.out k 0 ≡ bit_xor (get_or l.block k 0) l.pad;
}
