use Rattle.std.proofs.Common.{◌≡◌, ◌<◌, ◌≢◌, ℕ, ◌∙◌, sym, length, map, get_or, arith, get_or-set_other, get_or-set_same, below_more}
use Rattle.std.specs.Prelude.{bit_xor}
use Rattle.std.proofs.lemmas.List.{ext_get_or, get_or-map, length-map, length-set}
use Rattle.cove_measure.proofs.hmac.xored.Goals as goal

pub loop-i-preserved : goal.loop-i-preserved
loop-i-preserved c =
    let below : c.loop-i.i < length c.loop-i.out = omega arith in
    record {
      whole = simp length-set c.loop-i.invariant.whole;
      done = below_more _ _
          (λ k h. let other : k ≢ c.loop-i.i = omega arith in rw get_or-set_other (c.loop-i.invariant.done k h))
          (rw get_or-set_same);
    }

pub returns : goal.returns
returns c =
    let same : (k : ℕ) → k < length c.loop-i.out → get_or c.loop-i.out k 0 ≡ get_or (map (λ byte. bit_xor byte c.args.pad) c.args.block.now) k 0 =
    λ k below. c.loop-i.invariant.done k (omega arith) ∙ sym (get_or-map (λ byte. bit_xor byte c.args.pad) c.args.block.now k 0 0 (omega arith)) in
    ext_get_or 0 c.loop-i.out (map (λ byte. bit_xor byte c.args.pad) c.args.block.now) (simp length-map (omega arith)) same
